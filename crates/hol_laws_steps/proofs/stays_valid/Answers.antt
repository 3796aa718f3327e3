use Rattle.hol_laws_steps.proofs.Growing.{stays-valid}
use Rattle.hol_laws_steps.proofs.stays_valid.Goals as goal

pub returns : goal.returns
returns c = stays-valid
