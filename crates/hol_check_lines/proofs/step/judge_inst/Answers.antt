use Rattle.std.proofs.Common.{subst}
use Rattle.hol_model.specs.Logs.LogLine.LogRule.{inst_step}
use Rattle.hol_check_rules.specs.State.{sequent_in, state_of}
use Rattle.hol_check_rules.specs.StepPairs.{term_pairs_in, FindsTermPairs}
use Rattle.hol_check_rules.specs.Steps as steps
use Rattle.hol_check_rules.specs.Steps.{Takes}
use Rattle.hol_check_lines.proofs.JudgedSteps.{inst-step}
use Rattle.hol_check_lines.proofs.step.judge_inst.Goals as goal

pub returns : goal.returns
returns c =
    let t0 = c.args.terms.now in
    let state = state_of t0 c.args.contents.now in
    let premise = sequent_in t0.terms c.in-Some.premise.now in
    let one = c.in-Some.ensures t0 c.requires.contents in
    let two = subst (FindsTermPairs state c.args.pairs.now t0.terms) c.in-Some-2.is c.in_ok-pairs.ensures.found in
    let taken = subst (λ l. Takes (steps.inst_step premise (term_pairs_in t0.terms l)) c.inst.result c.inst.new.terms.terms) c.deref.ensures.value c.inst.ensures.taken in
    c.judged.ensures (inst_step c.args.premise c.args.pairs.now) c.args.contents.now t0 c.inst.new.terms (steps.inst_step premise (term_pairs_in t0.terms c.in-Some-2.pairs.items))
    c.requires.contents.room c.inst.ensures.grows
    (inst-step state t0.terms c.args.premise c.args.pairs.now c.in-Some-2.pairs.items c.in-Some.premise.now one two) taken
