use Rattle.std.proofs.Common.{refl, inl, subst, Result, Ok, Err}
use Rattle.hol_model.specs.declared.fault.Fault.{Fault}
use Rattle.hol_model.specs.Logic.Theory.{Theory}
use Rattle.hol_model.specs.Kernel.Theorem.{Theorem}
use Rattle.hol_model.specs.Goals.Replays.{IsReplay}
use Rattle.hol_just.specs.Steps.{goal_of, step_of}
use Rattle.hol_theorem_store.specs.Stored.{theorems_in}
use Rattle.hol_theorem_store.specs.Store.{stored_of}
use Rattle.hol_just_replay.specs.Named.{named_sequents, sequents_of}
use Rattle.hol_just_replay.specs.Lines.{expected_in}
use Rattle.hol_just_replay.proofs.Replaying.{store-stays, answers-refusal}
use Rattle.hol_just_replay.proofs.AcceptingLemmas.{passes-under, unreplayed, failed-under, replays-under, supposes-not, unsupposed-refusal}
use Rattle.hol_just_replay.specs.Accepting.{are_known_goals}
use Rattle.hol_equal.proofs.StepLemmas.{passed_on}
use Rattle.hol_just_replay.proofs.accepting.replay_passes.Goals as goal

pub suppose_all-requires-clause-known : goal.suppose_all-requires-clause-known
suppose_all-requires-clause-known c is = rw c.deref.ensures.value (c.requires.known is)

pub replay-requires-clause-store : goal.replay-requires-clause-store
replay-requires-clause-store c = store-stays c.args.recorder.now c.suppose_all.new.recorder (stored_of c.args.store.now) c.suppose_all.ensures.grown c.requires.store

pub returns-in_err-subgoals-clause-answer : goal.returns-in_err-subgoals-clause-answer
returns-in_err-subgoals-clause-answer c extra shows =
    let theory = c.args.recorder.now.theory in
    let store = named_sequents (stored_of c.args.store.now) in
    let step = step_of c.args.step.now in
    let fault = c.in_err-subgoals.field-0.0 in
    let refused = rw c.deref.ensures.value at c.in_err-subgoals.ensures.err in
    rw (passed_on c.from_residual.result fault c.from_residual.ensures.1) (
    unreplayed theory store extra (goal_of c.args.goal.now) step fault
    (supposes-not theory store c.args.falsity.now.theorem extra step fault shows refused (rw c.deref.ensures.value at c.in_err-subgoals.ensures.fits))
    (unsupposed-refusal (are_known_goals theory step.goals) fault refused))

pub returns-in_err-theorem-clause-answer : goal.returns-in_err-theorem-clause-answer
returns-in_err-theorem-clause-answer c extra shows =
    let theory = c.args.recorder.now.theory in
    let stored = stored_of c.args.store.now in
    let step = step_of c.args.step.now in
    let subgoals = c.in_ok-subgoals.subgoals.items in
    let fault = c.in_err-theorem.field-0.0 in
    let expected = expected_in theory stored subgoals step.justification in
    let refused : Result Theorem Fault = Err fault in
    let answer = subst (λ (th : Theory). IsReplay th (theorems_in stored) (sequents_of subgoals) step.justification refused)
    c.suppose_all.ensures.theory (rw c.deref-2.ensures.value at c.in_err-theorem.ensures.answer) in
    rw (passed_on c.from_residual-in_err-theorem.result fault c.from_residual-in_err-theorem.ensures.1) (
    unreplayed theory (named_sequents stored) extra (goal_of c.args.goal.now) step fault
    (replays-under theory stored c.args.falsity.now.theorem extra step subgoals (Err fault) shows (rw c.deref.ensures.value at c.in_ok-subgoals.ensures.ok) answer)
    (answers-refusal expected.has_room expected.sequent fault answer))

pub returns-then-not-achieves_under-clause-answer : goal.returns-then-not-achieves_under-clause-answer
returns-then-not-achieves_under-clause-answer c extra shows =
    let theory = c.args.recorder.now.theory in
    let stored = stored_of c.args.store.now in
    let step = step_of c.args.step.now in
    let subgoals = c.in_ok-subgoals.subgoals.items in
    let made = c.in_ok-theorem.theorem.theorem in
    let answer = subst (λ (th : Theory). IsReplay th (theorems_in stored) (sequents_of subgoals) step.justification (Ok made))
    c.suppose_all.ensures.theory (rw c.deref-2.ensures.value at c.in_ok-theorem.ensures.answer) in
    let replayed = replays-under theory stored c.args.falsity.now.theorem extra step subgoals (Ok made) shows (rw c.deref.ensures.value at c.in_ok-subgoals.ensures.ok) answer in
    inl (
      refl,
      failed-under theory (named_sequents stored) extra (goal_of c.args.goal.now) step made c.achieves_under.result
          replayed.drawn (c.achieves_under.ensures extra shows) c.if-not-achieves_under.true,
    )

pub returns-clause-answer : goal.returns-clause-answer
returns-clause-answer c extra shows =
    let theory = c.args.recorder.now.theory in
    let stored = stored_of c.args.store.now in
    let step = step_of c.args.step.now in
    let subgoals = c.in_ok-subgoals.subgoals.items in
    let made = c.in_ok-theorem.theorem.theorem in
    let answer = subst (λ (th : Theory). IsReplay th (theorems_in stored) (sequents_of subgoals) step.justification (Ok made))
    c.suppose_all.ensures.theory (rw c.deref-2.ensures.value at c.in_ok-theorem.ensures.answer) in
    let replayed = replays-under theory stored c.args.falsity.now.theorem extra step subgoals (Ok made) shows (rw c.deref.ensures.value at c.in_ok-subgoals.ensures.ok) answer in
    passes-under theory (named_sequents stored) extra (goal_of c.args.goal.now) step made replayed.drawn ((c.achieves_under.ensures extra shows).0 c.if-not-achieves_under.false)
