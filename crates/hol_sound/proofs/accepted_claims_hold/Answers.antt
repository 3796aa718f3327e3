use Rattle.hol_sound.proofs.Claims.{accepted-hold}
use Rattle.hol_sound.proofs.accepted_claims_hold.Goals as goal

pub returns : goal.returns
returns c = accepted-hold
