-- What the claims of an accepted log say.
use Rattle.std.specs.Prelude.{◌≡◌, ℕ, List, Option, Ok}
use Rattle.std.specs.List.{All}
use Rattle.hol_model.specs.Logic.Theory.{Entry, IsLegal}
use Rattle.hol_model.specs.Logs.LogState.{LogState, LogClaim}
use Rattle.hol_model.specs.Logs.LogLaws.{IsDerivableClaim}
use Rattle.hol_sound.specs.LogClaims.{ClaimHolds}
use Rattle.hol_check.specs.Reading.{IsRead}
use Rattle.hol_check.specs.LogAnswers.{log_answer}
use Rattle.hol_check.specs.Entries.{entries_in}

-- The input is the text of an accepted log with these claims; the log's entries are legal, and each claim is derivable from
-- them and holds in every finite standard model of them.
pub record HasClaims (input : Option (List ℕ)) (claims : List LogClaim) : Type 0 where
  pub text : List ℕ
  pub read : IsRead input text
  pub state : LogState
  pub accepted : log_answer text ≡ Ok state
  pub listed : claims ≡ state.claims
  pub legal : IsLegal state.theory
  pub derivable : All (IsDerivableClaim state.theory) claims
  pub hold : All (ClaimHolds state.theory) claims

-- so it is, and these are the entries of its theory, in the order of their lines
pub record HasEntries (input : Option (List ℕ)) (claims : List LogClaim) (entries : List Entry) : Type 0 where
  pub has_claims : HasClaims input claims
  pub are_entries : entries ≡ entries_in has_claims.state.theory
