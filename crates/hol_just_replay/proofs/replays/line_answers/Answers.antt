use Rattle.hol_theorem_store.specs.Store.{stored_of}
use Rattle.hol_just_replay.specs.Lines.{expected_in}
use Rattle.hol_just_replay.proofs.Growing.{made-stay}
use Rattle.hol_just_replay.proofs.Replaying.{store-stays, line-cites, line-next}
use Rattle.hol_just_replay.proofs.replays.line_answers.Goals as goal

pub line_answer-requires-clause-logic : goal.line_answer-requires-clause-logic
line_answer-requires-clause-logic c = c.logic_stays.ensures c.args.recorder.now c.loop-line.recorder c.args.logic.now c.loop-line.invariant.grown c.requires.logic

pub line_answer-requires-clause-store : goal.line_answer-requires-clause-store
line_answer-requires-clause-store c = store-stays c.args.recorder.now c.loop-line.recorder (stored_of c.args.store.now) c.loop-line.invariant.grown c.requires.store

pub line_answer-requires-clause-subgoals : goal.line_answer-requires-clause-subgoals
line_answer-requires-clause-subgoals c = made-stay c.args.recorder.now c.loop-line.recorder c.args.subgoals.now c.loop-line.invariant.grown c.requires.subgoals

pub line_answer-requires-clause-places : goal.line_answer-requires-clause-places
line_answer-requires-clause-places c =
    rw c.deref.ensures.value (line-cites c.args.recorder.now c.loop-line.recorder
    (expected_in c.args.recorder.now.theory
    (stored_of c.args.store.now) c.args.subgoals.now) c.args.lines.now c.loop-line.line-index c.line-item.result
    c.loop-line.answers.items c.loop-line-test.true c.line-item.is c.loop-line.invariant)

pub loop-line-preserved : goal.loop-line-preserved
loop-line-preserved c =
    line-next c.args.recorder.now c.loop-line.recorder c.line_answer.new.recorder (stored_of c.args.store.now) c.args.subgoals.now c.args.lines.now c.loop-line.line-index c.line-item.result
    c.loop-line.answers.items c.pushed.new.answers.items c.in_ok-answer.answer c.loop-line-test.true c.line-item.is c.loop-line.invariant c.in_ok-answer.ensures.continues
    (rw c.deref.ensures.value at c.in_ok-answer.ensures.met) c.in_ok-pushed.ensures.ok
