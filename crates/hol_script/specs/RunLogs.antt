-- The log of a run: it claims the theorems that the run prints.
use Rattle.std.specs.Prelude.{◌≡◌, ◌≤◌, ℕ, List, map, length, Option, Result, Ok, OnOk, IsErrOf}
use Rattle.std.specs.Io.KnownBytes.{Appends}
use Rattle.hol_model.specs.declared.fault.Fault.{Fault}
use Rattle.hol_model.specs.declared.fault.Fault.TheVariants.{TooLong, WriteFault}
use Rattle.hol_model.specs.declared.limits.TheConstants.{TEXT_BYTES_LIMIT}
use Rattle.hol_model.specs.Logic.Theory.{Theory}
use Rattle.hol_model.specs.Logs.LogState.{LogState, LogClaim}
use Rattle.hol_model.specs.Logs.LogText.{log_outcome}
use Rattle.hol_logtext.specs.LogBytes.{log_text}
use Rattle.hol_device_io.specs.Bytes.{AppendsFront}
use Rattle.hol_journal.specs.Journal.{Journal}
use Rattle.hol_journal_log.specs.LogAccepted.{log_claim, IsPartOf}
use Rattle.hol_journal_log.specs.LogWriting.{Claimed}
use Rattle.hol_script.specs.declared.progress.Progress.{Progress}
use Rattle.hol_script.specs.Runs.{names_of}
use Rattle.hol_script_manager.specs.Session.{IsLog, IsAcceptedLog, IsLongLog}
use Rattle.hol_script_manager.specs.Managers as managers
use Rattle.hol_script_manager.specs.Managers.{claims_of}

-- The text is a log that is accepted, with these claims, over entries of this theory.
pub record IsAcceptedWith (theory : Theory) (claims : List LogClaim) (text : List ℕ) : Type 0 where
  pub state : LogState
  pub accepted : log_outcome (log_text text) ≡ Ok state
  pub claimed : state.claims ≡ claims
  pub entries : IsPartOf state.theory theory

-- The text is the pruned log of these claims from a journal over this theory. Within the limit on texts it is accepted with
-- them, over entries of the theory.
pub record IsLogOver (theory : Theory) (claims : List LogClaim) (text : List ℕ) : Type 0 where
  pub journal : Journal
  pub over : journal.theory ≡ theory
  pub is_log : IsLog journal claims text
  pub is_accepted : length text ≤ TEXT_BYTES_LIMIT → IsAcceptedWith theory claims text

-- the journal's log of these claims was written
pub record WritesLog (journal : Journal) (claims : List LogClaim) (logged new_logged : Option (List ℕ)) : Type 0 where
  pub log : List ℕ
  pub is_log : IsAcceptedLog journal claims log
  pub wrote : Appends logged new_logged log

-- the front of the journal's log of these claims was written
pub record WritesFront (journal : Journal) (claims : List LogClaim) (logged new_logged : Option (List ℕ)) : Type 0 where
  pub log : List ℕ
  pub is_log : IsAcceptedLog journal claims log
  pub wrote : AppendsFront logged new_logged log

-- What became of the journal's log of these claims: it was written, or its front, or it is past the limit.
pub record Logs (journal : Journal) (claims : List LogClaim) (logged new_logged : Option (List ℕ)) (outcome : Result Unit Fault) : Type 0 where
  pub written : OnOk outcome (WritesLog journal claims logged new_logged)
  pub broken : IsErrOf outcome WriteFault → WritesFront journal claims logged new_logged
  pub too_long : IsErrOf outcome TooLong → IsLongLog journal claims

-- ---- what the program claims

-- what its session recorded
abbrev pub journal_of : Progress → Journal
journal_of progress = managers.journal_of progress.manager

abbrev pub claims_stored : Progress → List Claimed
claims_stored progress = claims_of progress.manager (names_of progress)

-- the claims of the theorems that a run printed, as the log lists them
abbrev pub claims_listed : Progress → List LogClaim
claims_listed progress = map log_claim (claims_stored progress)

-- the theory that a run has come to
abbrev pub theory_of : Progress → Theory
theory_of progress = (journal_of progress).theory
