-- The claims of an accepted log are derivable, and hold.
use Rattle.std.proofs.Common.{◌≡◌, ℕ, List, Option, refl, sym, subst}
use Rattle.std.specs.List.{All}
use Rattle.hol_model.specs.Logic.Theory.{Entry}
use Rattle.hol_model.specs.Logs.LogState.{LogState, LogClaim}
use Rattle.hol_model.specs.Logs.LogLaws.{IsDerivableClaim, AcceptedLogsAreSound}
use Rattle.hol_logtext.specs.LogBytes.{log_text}
use Rattle.hol_sound.specs.LogClaims.{ClaimHolds, AcceptedClaimsHold}
use Rattle.hol_check.specs.LogAnswers.{IsAcceptedLog}
use Rattle.hol_check.specs.Entries.{entries_in}
use Rattle.hol_check.specs.Checking.{HasClaims, HasEntries}

abbrev pub has_claims : (input : Option (List ℕ)) (state : LogState) (claims : List LogClaim) → AcceptedLogsAreSound → AcceptedClaimsHold → IsAcceptedLog input state →
    claims ≡ state.claims → HasClaims input claims
has_claims input state claims sound holds log listed = record {
  text = log.text;
  read = log.read;
  state = state;
  accepted = log.accepted;
  listed = listed;
  legal = (sound.last (log_text log.text) state log.accepted).legal;
  derivable = subst (All (IsDerivableClaim state.theory)) (sym listed) (sound.last (log_text log.text) state log.accepted).claims;
  hold = subst (All (ClaimHolds state.theory)) (sym listed) (holds (log_text log.text) state log.accepted);
}

pub has_entries : (input : Option (List ℕ)) (state : LogState) → AcceptedLogsAreSound → AcceptedClaimsHold → IsAcceptedLog input state → HasEntries input state.claims (entries_in state.theory)
has_entries input state sound holds log = record { has_claims = has_claims input state state.claims sound holds log refl; are_entries = refl }

-- as they are listed
pub claims_listed : (input : Option (List ℕ)) (claims listed : List LogClaim) (entries : List Entry) → HasEntries input claims entries → listed ≡ claims → HasClaims input listed
claims_listed input claims listed entries has same = rw same has.has_claims
