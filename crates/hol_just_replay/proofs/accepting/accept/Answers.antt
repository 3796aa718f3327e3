use Rattle.std.proofs.Common.{◌≡◌, ◌∙◌}
use Rattle.hol_model.specs.Logic.Logic.{false_term}
use Rattle.hol_model.specs.Goals.ValidSteps.{false_twice}
use Rattle.hol_journal.proofs.GrowthLemmas.{journals-grow}
use Rattle.hol_just.specs.Steps.{goal_of, step_of}
use Rattle.hol_theorem_store.specs.Stored.{theorems_in}
use Rattle.hol_theorem_store.specs.Store.{stored_of}
use Rattle.hol_just_replay.specs.Named.{named_sequents}
use Rattle.hol_just_replay.specs.Accepting.{falsity_from}
use Rattle.hol_just_replay.proofs.Replaying.{store-stays}
use Rattle.hol_just_replay.proofs.AcceptingLemmas.{known-goals, acceptable, unassumed, fails-once, fails-twice}
use Rattle.hol_equal.proofs.StepLemmas.{passed_on}
use Rattle.hol_just_replay.proofs.accepting.accept.Goals as goal

pub replay_passes-requires-clause-store : goal.replay_passes-requires-clause-store
replay_passes-requires-clause-store c = store-stays c.args.recorder.now c.falsity_once.new.recorder (stored_of c.args.store.now) c.in_ok-once.ensures.continues.grown c.requires.store

pub falsity_twice-requires : goal.falsity_twice-requires
falsity_twice-requires c = record {
  logic = c.logic_stays.ensures c.args.recorder.now c.replay_passes.new.recorder c.args.logic.now
      (journals-grow.twice c.args.recorder.now c.falsity_once.new.recorder c.replay_passes.new.recorder c.in_ok-once.ensures.continues.grown c.replay_passes.ensures.grown) c.requires.logic;
}

pub replay_passes-requires-2-clause-logic : goal.replay_passes-requires-2-clause-logic
replay_passes-requires-2-clause-logic c =
    let once = journals-grow.twice c.args.recorder.now c.falsity_once.new.recorder c.replay_passes.new.recorder c.in_ok-once.ensures.continues.grown c.replay_passes.ensures.grown in
    c.logic_stays.ensures c.args.recorder.now c.falsity_twice.new.recorder c.args.logic.now
    (journals-grow.twice c.args.recorder.now c.replay_passes.new.recorder c.falsity_twice.new.recorder once c.in_ok-twice.ensures.continues.grown) c.requires.logic

pub replay_passes-requires-2-clause-store : goal.replay_passes-requires-2-clause-store
replay_passes-requires-2-clause-store c =
    let once = journals-grow.twice c.args.recorder.now c.falsity_once.new.recorder c.replay_passes.new.recorder c.in_ok-once.ensures.continues.grown c.replay_passes.ensures.grown in
    store-stays c.args.recorder.now c.falsity_twice.new.recorder (stored_of c.args.store.now)
    (journals-grow.twice c.args.recorder.now c.replay_passes.new.recorder c.falsity_twice.new.recorder once c.in_ok-twice.ensures.continues.grown) c.requires.store

pub replay_passes-requires-2-clause-known : goal.replay_passes-requires-2-clause-known
replay_passes-requires-2-clause-known c is =
    let theory = c.args.recorder.now.theory in
    let later : c.falsity_twice.new.recorder.theory ≡ theory =
    c.in_ok-twice.ensures.continues.theory ∙ (c.replay_passes.ensures.theory ∙ c.in_ok-once.ensures.continues.theory) in
    let passed = rw c.in_ok-once.ensures.continues.theory at (c.in_ok-replay_passes.ensures.answer false_term c.in_ok-once.ensures.drawn) in
    rw later (known-goals theory (step_of c.args.step.now).goals passed.known)

pub returns-in_err-once-clause-answer : goal.returns-in_err-once-clause-answer
returns-in_err-once-clause-answer c =
    let theory = c.args.recorder.now.theory in
    let store = theorems_in (stored_of c.args.store.now) in
    let goal = goal_of c.args.goal.now in
    let step = step_of c.args.step.now in
    let fault = c.in_err-once.field-0.0 in
    rw (passed_on c.from_residual.result fault c.from_residual.ensures.1) (
    fails-once theory store goal step fault
    (unassumed theory (named_sequents (stored_of c.args.store.now)) (falsity_from false_term) false_term goal step fault c.in_err-once.ensures.drawn c.in_err-once.ensures.fits))

pub returns-in_err-replay_passes-clause-answer : goal.returns-in_err-replay_passes-clause-answer
returns-in_err-replay_passes-clause-answer c =
    let fault = c.in_err-replay_passes.field-0.0 in
    rw (passed_on c.from_residual-in_err-replay_passes.result fault c.from_residual-in_err-replay_passes.ensures.1) (
    fails-once c.args.recorder.now.theory (theorems_in (stored_of c.args.store.now)) (goal_of c.args.goal.now) (step_of c.args.step.now) fault
    (rw c.in_ok-once.ensures.continues.theory at (c.in_err-replay_passes.ensures.answer false_term c.in_ok-once.ensures.drawn)))

pub returns-in_err-twice-clause-answer : goal.returns-in_err-twice-clause-answer
returns-in_err-twice-clause-answer c =
    let theory = c.args.recorder.now.theory in
    let goal = goal_of c.args.goal.now in
    let step = step_of c.args.step.now in
    let fault = c.in_err-twice.field-0.0 in
    rw (passed_on c.from_residual-in_err-twice.result fault c.from_residual-in_err-twice.ensures.1) (
    fails-twice theory (theorems_in (stored_of c.args.store.now)) goal step fault
    (unassumed theory (named_sequents (stored_of c.args.store.now)) (falsity_from false_twice) false_twice goal step fault c.in_err-twice.ensures.drawn c.in_err-twice.ensures.fits))

pub returns-in_err-replay_passes-2-clause-answer : goal.returns-in_err-replay_passes-2-clause-answer
returns-in_err-replay_passes-2-clause-answer c =
    let theory = c.args.recorder.now.theory in
    let fault = c.in_err-replay_passes-2.field-0.0 in
    let later : c.falsity_twice.new.recorder.theory ≡ theory =
    c.in_ok-twice.ensures.continues.theory ∙ (c.replay_passes.ensures.theory ∙ c.in_ok-once.ensures.continues.theory) in
    rw (passed_on c.from_residual-in_err-replay_passes-2.result fault c.from_residual-in_err-replay_passes-2.ensures.1) (
    fails-twice theory (theorems_in (stored_of c.args.store.now)) (goal_of c.args.goal.now) (step_of c.args.step.now) fault
    (rw later at (c.in_err-replay_passes-2.ensures.answer false_twice c.in_ok-twice.ensures.drawn)))

pub returns-clause-answer : goal.returns-clause-answer
returns-clause-answer c =
    let theory = c.args.recorder.now.theory in
    let later : c.falsity_twice.new.recorder.theory ≡ theory =
    c.in_ok-twice.ensures.continues.theory ∙ (c.replay_passes.ensures.theory ∙ c.in_ok-once.ensures.continues.theory) in
    acceptable theory (theorems_in (stored_of c.args.store.now)) (goal_of c.args.goal.now) (step_of c.args.step.now)
    (rw c.in_ok-once.ensures.continues.theory at (c.in_ok-replay_passes.ensures.answer false_term c.in_ok-once.ensures.drawn))
    (rw later at (c.in_ok-replay_passes-2.ensures.answer false_twice c.in_ok-twice.ensures.drawn))

pub returns-clause-valid : goal.returns-clause-valid
returns-clause-valid c =
    let theory = c.args.recorder.now.theory in
    let later : c.falsity_twice.new.recorder.theory ≡ theory =
    c.in_ok-twice.ensures.continues.theory ∙ (c.replay_passes.ensures.theory ∙ c.in_ok-once.ensures.continues.theory) in
    c.replays_show_valid.ensures theory (named_sequents (stored_of c.args.store.now)) (goal_of c.args.goal.now) (step_of c.args.step.now)
    (record {
      once = (rw c.in_ok-once.ensures.continues.theory at (c.in_ok-replay_passes.ensures.answer false_term c.in_ok-once.ensures.drawn)).passes;
      twice = (rw later at (c.in_ok-replay_passes-2.ensures.answer false_twice c.in_ok-twice.ensures.drawn)).passes;
    })
