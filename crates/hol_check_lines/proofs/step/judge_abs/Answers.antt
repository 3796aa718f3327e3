use Rattle.hol_model.specs.Logs.LogLine.LogRule.{abs_step}
use Rattle.hol_check_terms.specs.Terms.{term_at}
use Rattle.hol_check_rules.specs.State.{sequent_in, state_of}
use Rattle.hol_check_rules.specs.Steps as steps
use Rattle.hol_check_lines.proofs.JudgedSteps.{abs-step}
use Rattle.hol_check_lines.proofs.step.judge_abs.Goals as goal

pub returns-in-Some-Some : goal.returns-in-Some-Some
returns-in-Some-Some c =
    let t0 = c.args.terms.now in
    let state = state_of t0 c.args.contents.now in
    let one = c.in-Some-Some.ensures t0 c.requires.contents c.requires.made in
    let two = c.in-Some-Some.ensures' t0 c.requires.contents in
    c.judged.ensures (abs_step c.args.variable c.args.premise) c.args.contents.now t0 c.abs.new.terms
    (steps.abs_step (term_at t0.terms c.in-Some-Some.variable) (sequent_in t0.terms c.in-Some-Some.premise.now)) c.requires.contents.room c.abs.ensures.grows
    (abs-step state t0.terms c.args.variable c.args.premise c.in-Some-Some.variable c.in-Some-Some.premise.now one two) c.abs.ensures.taken

pub abs-requires-clause-variable : goal.abs-requires-clause-variable
abs-requires-clause-variable c = (c.in-Some-Some.ensures c.args.terms.now c.requires.contents c.requires.made).fits
