-- Claims of stored theorems, and their log.
use Rattle.std.specs.Prelude.{◌≡◌, ◌≤◌, ◌<◌, ℕ, List, [], ◌∷◌, ◌++◌, map, length, Option, Some, None, Ok}
use Rattle.hol_model.specs.declared.limits.TheConstants.{TEXT_BYTES_LIMIT}
use Rattle.hol_model.specs.Logs.LogState.{LogState, LogClaim}
use Rattle.hol_model.specs.Logs.LogText.{log_outcome}
use Rattle.hol_logtext.specs.LogBytes.{log_text}
use Rattle.hol_journal.specs.Journal.{Journal, IsJournal, Recorded}
use Rattle.hol_journal_log.specs.LogWriting.{Claimed}
use Rattle.hol_journal_log.specs.LogAccepted.{log_claim, IsPartOf}
use Rattle.hol_journal_log.specs.Pruning.{AreMade}
use Rattle.hol_journal_log.specs.LogOf.{IsPrunedText}

-- The text is the pruned log of this journal, whose recorder made the theorems of these claims.
pub record IsLog (journal : Journal) (claims : List LogClaim) (text : List ℕ) : Type 0 where
  pub is_journal : IsJournal journal
  pub claimed : List Claimed
  pub made : AreMade journal claimed
  pub are_claims : map log_claim claimed ≡ claims
  pub pruned : IsPrunedText journal claimed text

-- The text is the journal's log of these claims, within the limit on texts, and it is accepted with them, over entries of the
-- journal's theory.
pub record IsAcceptedLog (journal : Journal) (claims : List LogClaim) (text : List ℕ) : Type 0 where
  pub is_log : IsLog journal claims text
  pub within_limit : length text ≤ TEXT_BYTES_LIMIT
  pub state : LogState
  pub accepted : log_outcome (log_text text) ≡ Ok state
  pub claimed : state.claims ≡ claims
  pub entries : IsPartOf state.theory journal.theory

-- The journal's log of these claims is past the limit on texts.
pub record IsLongLog (journal : Journal) (claims : List LogClaim) : Type 0 where
  pub log : List ℕ
  pub is_log : IsLog journal claims log
  pub longer : TEXT_BYTES_LIMIT < length log

abbrev pub stored_claim : List ℕ → Option Recorded → List Claimed
stored_claim name (Some made) = record { name = name; made = made } ∷ []
stored_claim name None = []

-- a claim for each of the names under which a theorem is stored, in order
abbrev pub stored_claims : (List ℕ → Option Recorded) → List (List ℕ) → List Claimed
stored_claims stored [] = []
stored_claims stored (name ∷ names) = stored_claim name (stored name) ++ stored_claims stored names
