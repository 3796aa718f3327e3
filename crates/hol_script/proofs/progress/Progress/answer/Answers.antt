use Rattle.hol_script_manager.specs.Session.{session_tools}
use Rattle.hol_script_manager.specs.Managers.{state_of}
use Rattle.hol_script.proofs.CommandTurns.{lacks_memory}
use Rattle.hol_script.proofs.progress.Progress.answer.Goals as goal

pub returns-then-is_err-clause-turns : goal.returns-then-is_err-clause-turns
returns-then-is_err-clause-turns g c =
    rw c.plain.ensures (lacks_memory (session_tools (g.H.Refiners.refiners c.args.host.now) (g.H.Converters.conversions c.args.host.now)) (state_of c.args.self.now.manager) c.args.text.now)
