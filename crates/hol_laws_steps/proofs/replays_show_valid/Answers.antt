use Rattle.hol_laws_steps.proofs.Validity.{replays-show-valid}
use Rattle.hol_laws_steps.proofs.replays_show_valid.Goals as goal

pub returns : goal.returns
returns c = replays-show-valid
