-- hol_script_manager/proofs/laws/managers_refuse/Answers.antt
use Rattle.hol_script_manager.proofs.Refusing.{managers-refuse}
use Rattle.hol_script_manager.proofs.laws.managers_refuse.Goals as goal

pub returns : goal.returns
returns g c = managers-refuse g.R.Refining.host
