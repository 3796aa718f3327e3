-- The claims of an accepted proof log hold.
use Rattle.hol_model.proofs.Logs.AcceptedText.{accepted-sound}
use Rattle.hol_sound.specs.LogClaims.{AcceptedClaimsHold}
use Rattle.hol_sound.proofs.Soundness.{derivable-holds}

pub accepted-hold : AcceptedClaimsHold
accepted-hold text last accepted k d within =
    let sound = accepted-sound text last accepted in
    derivable-holds last.theory sound.legal _ _ (sound.claims k d within)
