use Rattle.hol_conv.proofs.Asking.{known-later, makes-after, carried}
use Rattle.hol_conv.proofs.applying.apply.Goals as goal

pub apply_prepared-requires-clause-known : goal.apply_prepared-requires-clause-known
apply_prepared-requires-clause-known g c = known-later c.args.t.now c.prepare.ensures.prepares.continued c.requires.known

pub returns-clause-outcome : goal.returns-clause-outcome
returns-clause-outcome g c = carried c.prepare.ensures.prepares.continued c.apply_prepared.ensures.outcome

pub returns-clause-makes : goal.returns-clause-makes
returns-clause-makes g c = makes-after c.prepare.ensures.prepares.continued c.apply_prepared.ensures.makes
