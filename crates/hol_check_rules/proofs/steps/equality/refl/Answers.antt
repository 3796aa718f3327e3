use Rattle.std.proofs.Common.{[]}
use Rattle.hol_check_rules.proofs.steps.equality.refl.Goals as goal

pub returns-clause-taken : goal.returns-clause-taken
returns-clause-taken c = c.conclude.ensures c.args.terms.now c.equation_of.new.terms [] _ c.equation_of.ensures.grows c.in_ok-hypotheses.ensures.all c.equation_of.ensures.formed
