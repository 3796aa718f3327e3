use Rattle.std.proofs.Common.{subst}
use Rattle.hol_model.specs.Logs.LogLine.LogRule.{inst_type_step}
use Rattle.hol_check_rules.specs.State.{sequent_in, state_of}
use Rattle.hol_check_rules.specs.StepPairs.{type_pairs_in, FindsTypePairs}
use Rattle.hol_check_rules.specs.Steps as steps
use Rattle.hol_check_rules.specs.Steps.{Takes}
use Rattle.hol_check_lines.proofs.JudgedSteps.{inst_type-step}
use Rattle.hol_check_lines.proofs.step.judge_inst_type.Goals as goal

pub returns : goal.returns
returns c =
    let t0 = c.args.terms.now in
    let state = state_of t0 c.args.contents.now in
    let premise = sequent_in t0.terms c.in-Some.premise.now in
    let one = c.in-Some.ensures t0 c.requires in
    let two = subst (FindsTypePairs state c.args.pairs.now t0.types) c.in-Some-2.is c.in_ok-pairs.ensures.found in
    let taken = subst (λ l. Takes (steps.inst_type_step premise (type_pairs_in t0.types l)) c.inst_type.result c.inst_type.new.terms.terms) c.deref.ensures.value c.inst_type.ensures.taken in
    c.judged.ensures (inst_type_step c.args.premise c.args.pairs.now) c.args.contents.now t0 c.inst_type.new.terms
    (steps.inst_type_step premise (type_pairs_in t0.types c.in-Some-2.pairs.items)) c.requires.room c.inst_type.ensures.grows
    (inst_type-step state t0.terms t0.types c.args.premise c.args.pairs.now c.in-Some-2.pairs.items c.in-Some.premise.now one two) taken
