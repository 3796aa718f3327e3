use Rattle.std.proofs.Common.{[]}
use Rattle.hol_model.specs.Logic.Derivable.{eta_axiom}
use Rattle.hol_check_rules.proofs.steps.axioms.eta.Goals as goal

pub returns-clause-taken : goal.returns-clause-taken
returns-clause-taken c = c.conclude.ensures c.args.terms.now c.eta_conclusion.new.terms [] eta_axiom c.eta_conclusion.ensures.grows c.in_ok-hypotheses.ensures.all c.eta_conclusion.ensures.formed
