use Rattle.std.proofs.lemmas.Result.{err_from_is_err_and}
use Rattle.hol_model_sessions.specs.CommandGrammar.{r_command}
use Rattle.hol_model_sessions.specs.ScriptSessions.{store_in}
use Rattle.hol_laws_goals.proofs.ValidProofs.{rotate-valid}
use Rattle.hol_goals.specs.Stages.{stack_of}
use Rattle.hol_script_inference.specs.Sessions.{no_tools}
use Rattle.hol_script_manager.specs.Managers.{state_of}
use Rattle.hol_script_manager.proofs.GoalTurns.{r_done, r_refused}
use Rattle.hol_script_manager.proofs.Managing.{theory_in, journal_in, rotate_there, changed_manager, unset_manager, unchanged_turn, changed_turn}
use Rattle.hol_script_manager.proofs.manager.Manager.rotate.Goals as goal

pub returns-in_err-rotate-clause-performs : goal.returns-in_err-rotate-clause-performs
returns-in_err-rotate-clause-performs c = λ digits value.
    let old = c.args.self.now in
    let fault = c.in_err-rotate.field-0.0 in
    let p = err_from_is_err_and c.from_residual.result c.from_residual.ensures.1 in
    rw (p.1, p.2)
    (unchanged_turn old c.rotate.new.self (r_command digits) fault (λ refused. r_refused no_tools (state_of old) digits c.args.turns fault value refused) c.in_err-rotate.ensures.outcome)

pub returns-in_err-rotate-clause-kept : goal.returns-in_err-rotate-clause-kept
returns-in_err-rotate-clause-kept c =
    let old = c.args.self.now in
    unset_manager old c.requires c.rotate.new.self c.in_err-rotate.ensures.outcome.1 (c.in_err-rotate.ensures.made (journal_in old) c.requires.made)

pub shown_or_undone-requires : goal.shown_or_undone-requires
shown_or_undone-requires c =
    let old = c.args.self.now in
    let changes = c.in_ok-rotate.ensures.outcome in
    changed_manager old c.rotate.new.self changes.0 c.requires changes.2
    (rotate-valid (theory_in old) (store_in (state_of old)) (stack_of old.stack).proof c.args.turns changes.0 c.requires.stack.proof changes.1)
    (c.in_ok-rotate.ensures.made (journal_in old) c.requires.made)

pub returns-clause-performs : goal.returns-clause-performs
returns-clause-performs c = λ digits value.
    let old = c.args.self.now in
    let changes = c.in_ok-rotate.ensures.outcome in
    let there = rotate_there (stack_of old.stack).proof c.args.turns changes.0 changes.1 in
    changed_turn old c.rotate.new.self (r_command digits) changes.0 there.0 c.shown_or_undone.result c.shown_or_undone.new.self
    (r_done no_tools (state_of old) digits c.args.turns changes.0 value changes.1) changes.2 there.1
    c.shown_or_undone.ensures.ok c.shown_or_undone.ensures.same c.shown_or_undone.ensures.undone c.shown_or_undone.ensures.err
