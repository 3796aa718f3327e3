use Rattle.hol_model.proofs.Logs.AcceptedText.{accepted_logs_are_sound}
use Rattle.hol_model.proofs.laws.accepted_logs_are_sound.Goals as goal

pub returns : goal.returns
returns c = accepted_logs_are_sound
