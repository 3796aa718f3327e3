use Rattle.std.proofs.Common.{refl}
use Rattle.hol_theorem_library.proofs.Continuing.{libraries-continue}
use Rattle.hol_script_manager.proofs.prover.ProverLeaves.accept.Goals as goal

pub returns-clause-ready : goal.returns-clause-ready
returns-clause-ready c =
    libraries-continue c.args.self.now.session.library _
    (record { grown = c.accept.ensures.grown; theory = c.accept.ensures.theory; logic = refl; laws = refl; stored = refl })
    c.requires.ready
