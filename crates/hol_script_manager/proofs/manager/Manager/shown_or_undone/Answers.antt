use Rattle.std.proofs.Common.{refl}
use Rattle.hol_model_sessions.specs.ScriptSessions.{store_in}
use Rattle.hol_goals.specs.Stages.{stack_of}
use Rattle.hol_script_manager.specs.Managers.{state_of}
use Rattle.hol_script_manager.proofs.Managing.{theory_in, journal_in, stack_manager, undone_valid}
use Rattle.hol_script_manager.proofs.manager.Manager.shown_or_undone.Goals as goal

pub returns-in-Err-clause-undone : goal.returns-in-Err-clause-undone
returns-in-Err-clause-undone c = record { prover = refl; stack = c.revert.ensures.reverted; made = c.revert.ensures.made }

pub returns-in-Err-clause-kept : goal.returns-in-Err-clause-kept
returns-in-Err-clause-kept c =
    let old = c.args.self.now in
    stack_manager old c.revert.new.self c.requires
    (undone_valid (theory_in old) (store_in (state_of old)) (stack_of old.stack) (stack_of c.revert.new.self) c.requires.stack c.revert.ensures.reverted)
    (c.revert.ensures.made (journal_in old) c.requires.made)
