use Rattle.std.proofs.lemmas.Result.{err_from_is_err_and}
use Rattle.hol_model_sessions.specs.CommandGrammar.{b_command}
use Rattle.hol_model_sessions.specs.ScriptSessions.{store_in}
use Rattle.hol_laws_goals.proofs.ValidProofs.{back-valid}
use Rattle.hol_goals.specs.Stages.{stack_of}
use Rattle.hol_script_inference.specs.Sessions.{no_tools}
use Rattle.hol_script_manager.specs.Managers.{state_of}
use Rattle.hol_script_manager.proofs.GoalTurns.{b_done, b_refused}
use Rattle.hol_script_manager.proofs.Managing.{theory_in, journal_in, back_there, changed_manager, unset_manager, unchanged_turn, changed_turn}
use Rattle.hol_script_manager.proofs.manager.Manager.back.Goals as goal

pub returns-in_err-back-clause-performs : goal.returns-in_err-back-clause-performs
returns-in_err-back-clause-performs c =
    let old = c.args.self.now in
    let fault = c.in_err-back.field-0.0 in
    let p = err_from_is_err_and c.from_residual.result c.from_residual.ensures.1 in
    rw (p.1, p.2)
    (unchanged_turn old c.back.new.self b_command fault (λ refused. b_refused no_tools (state_of old) fault refused) c.in_err-back.ensures.outcome)

pub returns-in_err-back-clause-kept : goal.returns-in_err-back-clause-kept
returns-in_err-back-clause-kept c =
    let old = c.args.self.now in
    unset_manager old c.requires c.back.new.self c.in_err-back.ensures.outcome.1 (c.in_err-back.ensures.made (journal_in old) c.requires.made)

pub shown_or_undone-requires : goal.shown_or_undone-requires
shown_or_undone-requires c =
    let old = c.args.self.now in
    let changes = c.in_ok-back.ensures.outcome in
    changed_manager old c.back.new.self changes.0 c.requires changes.2
    (back-valid (theory_in old) (store_in (state_of old)) (stack_of old.stack).proof changes.0 c.requires.stack.proof changes.1)
    (c.in_ok-back.ensures.made (journal_in old) c.requires.made)

pub returns-clause-performs : goal.returns-clause-performs
returns-clause-performs c =
    let old = c.args.self.now in
    let changes = c.in_ok-back.ensures.outcome in
    let there = back_there (stack_of old.stack).proof changes.0 changes.1 in
    changed_turn old c.back.new.self b_command changes.0 there.0 c.shown_or_undone.result c.shown_or_undone.new.self (b_done no_tools (state_of old) changes.0 changes.1) changes.2 there.1
    c.shown_or_undone.ensures.ok c.shown_or_undone.ensures.same c.shown_or_undone.ensures.undone c.shown_or_undone.ensures.err
