use Rattle.hol_check_rules.specs.State.{sequent_in, state_of}
use Rattle.hol_check_lines.specs.Rules.{pair_rule, pair_step}
use Rattle.hol_check_lines.proofs.JudgedSteps.{pair-step}
use Rattle.hol_check_lines.proofs.step.judge_pair.Goals as goal

pub returns-in-Some-Some : goal.returns-in-Some-Some
returns-in-Some-Some c =
    let t0 = c.args.terms.now in
    let one = c.in-Some-Some.ensures t0 c.requires in
    let two = c.in-Some-Some.ensures' t0 c.requires in
    c.judged.ensures (pair_rule c.args.rule c.args.first c.args.second) c.args.contents.now t0 c.take_pair.new.terms
    (pair_step c.args.rule (sequent_in t0.terms c.in-Some-Some.first.now) (sequent_in t0.terms c.in-Some-Some.second.now)) c.requires.room c.take_pair.ensures.grows
    (pair-step (state_of t0 c.args.contents.now) t0.terms c.args.rule c.args.first c.args.second c.in-Some-Some.first.now c.in-Some-Some.second.now one two) c.take_pair.ensures.taken
