-- What the answer of a run tells, and that of a conversation.
use Rattle.std.specs.Prelude.{◌≡◌, ℕ, List, Bool, true, false, Option, Result, OnOk, IfOk, IsErrOf}
use Rattle.hol_model.specs.declared.fault.Fault.{Fault}
use Rattle.hol_model.specs.declared.fault.Fault.TheVariants.{ReadFault, WriteFault}
use Rattle.hol_model_sessions.specs.ScriptSessions.{Tools}
use Rattle.hol_script.specs.declared.ended.Ended.{Ended}
use Rattle.hol_script_manager.specs.Managers.{IsManager}
use Rattle.hol_script.specs.Runs.{Leaves, answer_of}
use Rattle.hol_script.specs.RunLogs.{claims_listed, journal_of, Logs}

-- A device that has failed is told by the fault; where no fault is told, none has failed.
pub record TellsFailures (reader writer log : Bool) (result : Result Ended Fault) : Type 0 where
  pub reader_unfailed : OnOk result (reader ≡ false)
  pub writer_unfailed : OnOk result (writer ≡ false)
  pub log_unfailed : IfOk result (λ ended. OnOk ended.logged (log ≡ false))
  pub reader_told : reader ≡ true → IsErrOf result ReadFault
  pub writer_told : writer ≡ true → IsErrOf result WriteFault
  pub log_told : log ≡ true → IsErrOf (answer_of result) WriteFault

-- The answer on Ok is the session as it was left, with what it counted, and what became of the log, where one is wanted.
pub record LeavesSession (tools : Tools) (told written new_written logged new_logged : Option (List ℕ)) (wants_log : Bool) (result : Result Ended Fault) : Type 0 where
  pub own_log : wants_log ≡ true → IfOk result (λ ended. Logs (journal_of ended.progress) (claims_listed ended.progress) logged new_logged ended.logged)
  pub leaves : IfOk result (λ ended. Leaves tools told written new_written ended.progress)
  pub manager : IfOk result (λ ended. IsManager ended.progress.manager)
