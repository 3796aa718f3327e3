use Rattle.std.proofs.Common.{sym, ap, ◌∙◌, subst}
use Rattle.hol_syntax.specs.Scope.{scope_of}
use Rattle.hol_syntax_grammar.specs.Steps.{flat_step_of}
use Rattle.hol_syntax_grammar.specs.TermSteps.{TermStep, take_step}
use Rattle.hol_syntax.specs.Evaluating.{Arrives}
use Rattle.hol_syntax.proofs.TermEvaluation.{unflatten}
use Rattle.hol_syntax.proofs.evaluate.Evaluator.take_step.Goals as goal

pub returns-in-Apply : goal.returns-in-Apply
returns-in-Apply c = λ taken work e held.
    let P : TermStep → Type 0 = λ t. Arrives c.apply.result c.apply.new.self (take_step (scope_of c.args.scope.now) t work) in
    subst P (sym (unflatten _ taken (sym (ap flat_step_of c.in-Apply.is) ∙ e))) (c.apply.ensures (scope_of c.args.scope.now) work held)
