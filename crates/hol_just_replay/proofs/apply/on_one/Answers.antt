use Rattle.std.proofs.Common.{List, subst}
use Rattle.hol_model.specs.Terms.HolType.{HolType}
use Rattle.hol_model.specs.Terms.NamedTerm.{NamedTerm}
use Rattle.hol_model.specs.Kernel.Outcome.{AnswersSuch}
use Rattle.hol_model.specs.Kernel.Instantiation.{inst_refusal, IsInst, inst_type_refusal, IsInstType}
use Rattle.hol_journal.specs.Journal.{theorem_in}
use Rattle.hol_just_replay.proofs.DerivedRooms.{room-disch, room-disj1, room-disj2}
use Rattle.hol_just_replay.proofs.QuantifierRooms.{room-spec, room-exists}
use Rattle.hol_just_replay.proofs.apply.on_one.Goals as goal

pub returns-in-Abs-clause-inferred : goal.returns-in-Abs-clause-inferred
returns-in-Abs-clause-inferred c =
    rw c.in-Abs.is ((c.primitive_rules_infer.ensures c.args.recorder.now.theory c.conclusion_of-premise.ensures.legal).abs c.in-Abs.x
    c.args.premise.now.theorem c.conclusion_of-premise.ensures.formula (theorem_in c.infer.result) c.infer.ensures.outcome)

pub returns-in-Inst-clause-inferred : goal.returns-in-Inst-clause-inferred
returns-in-Inst-clause-inferred c =
    let theory = c.args.recorder.now.theory in
    let premise = c.args.premise.now.theorem in
    rw c.in-Inst.is ((c.primitive_rules_infer.ensures theory c.conclusion_of-premise.ensures.legal).inst c.in-Inst.theta premise (theorem_in c.infer-in-Inst.result)
    (subst (λ (pairs : List (NamedTerm × NamedTerm)). AnswersSuch (theorem_in c.infer-in-Inst.result) (inst_refusal theory pairs premise) (IsInst theory pairs premise))
    c.deref.ensures.value c.infer-in-Inst.ensures.outcome))

pub returns-in-InstType-clause-inferred : goal.returns-in-InstType-clause-inferred
returns-in-InstType-clause-inferred c =
    let theory = c.args.recorder.now.theory in
    let premise = c.args.premise.now.theorem in
    rw c.in-InstType.is ((c.primitive_rules_infer.ensures theory c.conclusion_of-premise.ensures.legal).inst_type c.in-InstType.theta premise (theorem_in c.infer-in-InstType.result)
    (subst (λ (pairs : List (HolType × HolType)). AnswersSuch (theorem_in c.infer-in-InstType.result) (inst_type_refusal theory pairs premise) (IsInstType theory pairs premise))
    c.deref-in-InstType.ensures.value c.infer-in-InstType.ensures.outcome))

pub returns-in-Disch-clause-room : goal.returns-in-Disch-clause-room
returns-in-Disch-clause-room c = rw c.in-Disch.is (room-disch c.ty-type-in-Disch.ensures c.disch.ensures.outcome)

pub returns-in-Disj1-clause-room : goal.returns-in-Disj1-clause-room
returns-in-Disj1-clause-room c = rw c.in-Disj1.is (room-disj1 c.ty-type-in-Disj1.ensures c.disj1.ensures.outcome)

pub returns-in-Disj2-clause-room : goal.returns-in-Disj2-clause-room
returns-in-Disj2-clause-room c = rw c.in-Disj2.is (room-disj2 c.ty-type-in-Disj2.ensures c.disj2.ensures.outcome)

pub returns-in-Spec-clause-room : goal.returns-in-Spec-clause-room
returns-in-Spec-clause-room c =
    rw c.in-Spec.is (room-spec {journal = c.args.recorder.now} {logic =
    c.args.logic.now} c.requires.logic c.conclusion_of-premise.ensures.legal c.ty-type-in-Spec.ensures c.conclusion_of-premise.ensures.formula
    c.spec.ensures.outcome)

pub returns-in-Exists-clause-room : goal.returns-in-Exists-clause-room
returns-in-Exists-clause-room c =
    rw c.in-Exists.is (room-exists {journal = c.args.recorder.now} {logic =
    c.args.logic.now} c.requires.logic c.conclusion_of-premise.ensures.legal c.ty-formula.ensures c.ty-witness.ensures c.exists.ensures.outcome)
