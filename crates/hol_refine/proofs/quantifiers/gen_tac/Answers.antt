use Rattle.hol_just.specs.Steps.{goal_of}
use Rattle.hol_refine.specs.TableAnswers.{step_in, abstracted}
use Rattle.hol_refine.proofs.FreshAnswers.{gen_answers}
use Rattle.hol_refine.proofs.quantifiers.gen_tac.Goals as goal

pub returns-in_ok-fresh-in-Some : goal.returns-in_ok-fresh-in-Some
returns-in_ok-fresh-in-Some c store =
    gen_answers c.args.theory.now store (goal_of c.args.goal.now) (abstracted c.in-Some.parts.name.now c.in-Some.parts.ty.now c.in-Some.parts.body.now) c.as_str.result.now
    (step_in c.generalized.result) c.in-Some.ensures.parts (rw c.as_str.ensures.value c.in_ok-fresh-in-Some.ensures.fresh) c.generalized.ensures
