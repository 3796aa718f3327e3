use Rattle.std.proofs.Common.{refl, ◌∙◌}
use Rattle.std.proofs.lemmas.Result.{err_from_is_err_and}
use Rattle.hol_journal.specs.Journal.{theorem_in}
use Rattle.hol_just.specs.Steps.{goal_of, tree_of}
use Rattle.hol_theorem_library.specs.Library.{store_in}
use Rattle.hol_script_manager.proofs.Replayed.{not_replayed, replayed}
use Rattle.hol_script_manager.proofs.proving.prove.Goals as goal

pub returns-in_err-theorem-clause-outcome : goal.returns-in_err-theorem-clause-outcome
returns-in_err-theorem-clause-outcome c =
    let p = err_from_is_err_and c.from_residual.result c.from_residual.ensures.1 in
    rw (p.1, p.2)
    (not_replayed c.args.library.now.recorder.theory (store_in c.args.library.now) (goal_of c.args.goal.now) (tree_of c.args.just.now) c.in_err-theorem.field-0.0 c.in_err-theorem.ensures.answer)

pub returns-clause-outcome : goal.returns-clause-outcome
returns-clause-outcome c =
    replayed c.args.library.now.recorder.theory c.replay.new.recorder.theory (store_in c.args.library.now) (goal_of c.args.goal.now) (tree_of c.args.just.now)
    c.in_ok-theorem.theorem.theorem (theorem_in c.closed.result) c.in_ok-theorem.ensures.theory c.in_ok-theorem.ensures.answer c.closed.ensures.outcome

pub returns-clause-library : goal.returns-clause-library
returns-clause-library c =
    c.libraries_continue.ensures c.args.library.now _
    (record {
      grown = c.journals_grow.ensures.twice c.args.library.now.recorder c.replay.new.recorder c.closed.new.recorder c.in_ok-theorem.ensures.grown c.closed.ensures.continues.grown;
      theory = c.closed.ensures.continues.theory ∙ c.in_ok-theorem.ensures.theory;
      logic = refl;
      laws = refl;
      stored = refl;
    })
    c.requires.library
