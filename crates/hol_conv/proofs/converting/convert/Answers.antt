use Rattle.hol_conv.proofs.Arms.{theorem-answers}
use Rattle.hol_conv.proofs.Asking.{known-later, makes-after}
use Rattle.hol_conv.proofs.converting.convert.Goals as goal

pub theorem-requires-clause-known : goal.theorem-requires-clause-known
theorem-requires-clause-known g c = known-later c.args.t.now c.converted-answer.ensures.makes.continued c.requires.asked.known

pub returns-clause-converts : goal.returns-clause-converts
returns-clause-converts g c = theorem-answers c.converted-answer.result c.theorem.result c.converted-answer.ensures.converts c.converted-answer.ensures.makes.continued c.theorem.ensures.joins

pub returns-clause-makes : goal.returns-clause-makes
returns-clause-makes g c = makes-after c.converted-answer.ensures.makes.continued c.theorem.ensures.makes
