use Rattle.std.proofs.Common.{rules, Err, inr, inl}
use Rattle.hol_just.specs.Steps.{tree_of}
use Rattle.hol_theorem_store.specs.Store.{stored_of}
use Rattle.hol_just_replay.specs.Lines.{expected_in}
use Rattle.hol_just_replay.proofs.Replaying.{root-there, unmade-met, replay-answers}
use Rattle.hol_equal.proofs.StepLemmas.{passed_on}
use Rattle.hol_just_replay.proofs.replays.replay.Goals as goal

pub finished-requires : goal.finished-requires
finished-requires c =
    rw (c.root-root.ensures, c.deref.ensures.value)
    (root-there c.args.recorder.now c.line_answers.new.recorder
    (expected_in c.args.recorder.now.theory (stored_of c.args.store.now) c.args.subgoals.now) c.args.just.now
    c.lines-lines.result.now c.in_ok-answers.answers.items c.lines-lines.ensures c.in_ok-answers.ensures.replayed)

pub returns-in_err-answers-clause-answer : goal.returns-in_err-answers-clause-answer
returns-in_err-answers-clause-answer c =
    let expected = expected_in c.args.recorder.now.theory (stored_of c.args.store.now) c.args.subgoals.now (tree_of c.args.just.now) in
    let fault = c.in_err-answers.field-0.0 in
    rw (passed_on c.from_residual.result fault c.from_residual.ensures.1)
    (replay-answers expected (Err fault)
    (unmade-met c.args.recorder.now.theory (stored_of c.args.store.now) c.args.subgoals.now (tree_of c.args.just.now) fault c.in_err-answers.ensures.err) (inr (inl c.in_err-answers.ensures.err)))

pub returns-clause-answer : goal.returns-clause-answer
returns-clause-answer c =
    let expected = expected_in c.args.recorder.now.theory (stored_of c.args.store.now) c.args.subgoals.now (tree_of c.args.just.now) in
    replay-answers expected c.finished.result (search rules) c.finished.ensures.refusals
