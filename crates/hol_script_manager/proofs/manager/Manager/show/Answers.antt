use Rattle.std.proofs.Common.{refl}
use Rattle.hol_model_sessions.specs.CommandGrammar.{show_command}
use Rattle.hol_script_inference.specs.Sessions.{lemmas_of, plainly, Says}
use Rattle.hol_script_manager.proofs.Managing.{session_turn}
use Rattle.hol_script_manager.proofs.manager.Manager.show.Goals as goal

pub returns : goal.returns
returns c =
    let manager = c.args.self.now in
    session_turn manager manager.prover.session (show_command c.args.name.now) (Says (plainly c.show.result)) (c.show.ensures (lemmas_of manager.prover.session)).performs refl
