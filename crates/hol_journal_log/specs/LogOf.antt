-- The text of the pruned log of a journal.
use Rattle.std.specs.Prelude.{◌≡◌, ◌<◌, ℕ, List, map, length, Ok}
use Rattle.hol_model.specs.declared.limits.TheConstants.{TEXT_BYTES_LIMIT}
use Rattle.hol_model.specs.Logic.Theory.{Theory}
use Rattle.hol_model.specs.Logs.LogLine.{LogLine}
use Rattle.hol_model.specs.Logs.LogState.{LogState}
use Rattle.hol_model.specs.Logs.LogText.{log_outcome}
use Rattle.hol_logtext.specs.LogBytes.{log_text, bytes_of_lines}
use Rattle.hol_journal.specs.Journal.{Journal}
use Rattle.hol_journal_log.specs.LogWriting.{Claimed}
use Rattle.hol_journal_log.specs.LogAccepted.{log_claim, IsPartOf}
use Rattle.hol_journal_log.specs.Pruning.{IsPruned, HasNames}

-- the bytes of the lines of the pruned log
pub record IsPrunedText (journal : Journal) (claims : List Claimed) (text : List ℕ) : Type 0 where
  pub lines : List LogLine
  pub pruned : IsPruned journal claims lines
  pub spelled : text ≡ bytes_of_lines lines

-- the same, where the names in the lines are of their kinds
pub record IsNamedText (journal : Journal) (claims : List Claimed) (text : List ℕ) : Type 0 where
  pub is : IsPrunedText journal claims text
  pub named : HasNames is.lines

-- the text of an accepted log with these claims, over entries of this theory
pub record IsLogOf (theory : Theory) (text : List ℕ) (claims : List Claimed) : Type 0 where
  pub state : LogState
  pub accepted : log_outcome (log_text text) ≡ Ok state
  pub claimed : state.claims ≡ map log_claim claims
  pub entries : IsPartOf state.theory theory

-- the text of the pruned log is past the limit on texts
pub record IsPastLimit (journal : Journal) (claims : List Claimed) : Type 0 where
  pub text : List ℕ
  pub pruned : IsPrunedText journal claims text
  pub longer : TEXT_BYTES_LIMIT < length text
