-- What the claims of an accepted proof log say.
use Rattle.std.specs.Prelude.{◌≡◌, Ok}
use Rattle.std.specs.List.{All}
use Rattle.hol_model.specs.Logic.Theory.{Theory}
use Rattle.hol_model.specs.Models.Holds.{Holds}
use Rattle.hol_model.specs.Logs.LogState.{LogState, LogClaim}
use Rattle.hol_model.specs.Logs.LogText.{LogText, log_outcome}

-- the claim's sequent holds in every finite standard model
abbrev pub ClaimHolds : Theory → LogClaim → Type 0
ClaimHolds theory claim = Holds theory claim.sequent.hypotheses claim.sequent.conclusion

-- each claim of an accepted log holds over the log's entries
abbrev pub AcceptedClaimsHold : Type 0
AcceptedClaimsHold = (text : LogText) (last : LogState) → log_outcome text ≡ Ok last → All (ClaimHolds last.theory) last.claims
