use Rattle.std.proofs.Common.{sym, ◌∙◌}
use Rattle.hol_just.specs.Steps.{goal_of}
use Rattle.hol_refine.specs.TableAnswers.{step_in, abstracted}
use Rattle.hol_refine.proofs.FreshAnswers.{choose_misshaped, choose_not_assumed, choose_answers}
use Rattle.hol_refine.proofs.quantifiers.chosen_from.Goals as goal

pub returns-in-None : goal.returns-in-None
returns-in-None c store is =
    choose_misshaped c.args.theory.now store (goal_of c.args.goal.now) c.args.name.now c.args.theorem.now c.hyps-hypotheses.result.now c.concl-conclusion.result.now is
    c.hyps-hypotheses.ensures.value c.concl-conclusion.ensures.value c.in-None.ensures.parts

pub returns-then-not-are_assumed : goal.returns-then-not-are_assumed
returns-then-not-are_assumed c store is =
    choose_not_assumed c.args.theory.now store (goal_of c.args.goal.now) c.args.name.now c.args.theorem.now c.hyps-hypotheses.result.now c.concl-conclusion.result.now is
    c.hyps-hypotheses.ensures.value c.concl-conclusion.ensures.value (abstracted c.in-Some.parts.name.now c.in-Some.parts.ty.now c.in-Some.parts.body.now) c.in-Some.ensures.parts
    (sym c.are_assumed.ensures ∙ c.if-not-are_assumed.true)

pub returns-in_ok-fresh-in-Some : goal.returns-in_ok-fresh-in-Some
returns-in_ok-fresh-in-Some c store is =
    choose_answers c.args.theory.now store (goal_of c.args.goal.now) c.args.name.now c.args.theorem.now c.hyps-hypotheses.result.now c.concl-conclusion.result.now is
    c.hyps-hypotheses.ensures.value c.concl-conclusion.ensures.value (abstracted c.in-Some.parts.name.now c.in-Some.parts.ty.now c.in-Some.parts.body.now) c.in-Some.ensures.parts
    (sym c.are_assumed.ensures ∙ c.if-not-are_assumed.false) c.as_str.result.now (step_in c.chosen.result)
    (rw c.as_str.ensures.value c.in_ok-fresh-in-Some.ensures.fresh) c.chosen.ensures
