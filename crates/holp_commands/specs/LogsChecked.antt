-- What the checker answers for the log of a run.
use Rattle.std.specs.Prelude.{◌≡◌, ◌<◌, ℕ, List, length, Some}
use Rattle.hol_model.specs.declared.limits.TheConstants.{TEXT_BYTES_LIMIT}
use Rattle.hol_model.specs.declared.fault.Cause.{Cause}
use Rattle.hol_model.specs.Logs.LogState.{LogClaim}
use Rattle.hol_journal.specs.Journal.{Journal}
use Rattle.hol_check.specs.LogAnswers.{IsRefusedLog}
use Rattle.hol_check.specs.Checking.{HasClaims}
use Rattle.hol_explain.specs.Managers.{IsAcceptedLog}

-- Of the log that a run writes for its claims the checker can answer these claims alone, and it refuses no line of it and
-- does not find it too long.
pub record LogsAreChecked : Type 0 where
  pub claims : (claims answered : List LogClaim) (log : List ℕ) (journal : Journal) → IsAcceptedLog journal claims log → HasClaims (Some log) answered → answered ≡ claims
  pub no_refusal : (claims : List LogClaim) (log : List ℕ) (line : ℕ) (cause : Cause) (journal : Journal) → IsAcceptedLog journal claims log → ¬ (IsRefusedLog (Some log) line cause)
  pub within_limit : (claims : List LogClaim) (log : List ℕ) (journal : Journal) → IsAcceptedLog journal claims log → ¬ (TEXT_BYTES_LIMIT < length log)
