use Rattle.std.proofs.Common.{refl}
use Rattle.hol_journal.specs.Journal.{theorem_in}
use Rattle.hol_refine.proofs.TautAnswers.{taut-answers}
use Rattle.hol_refine.proofs.tautologies.tautology.Goals as goal

pub returns-clause-library : goal.returns-clause-library
returns-clause-library c =
    c.libraries_continue.ensures c.args.library.now _
    (record { grown = c.taut.ensures.continues.grown; theory = c.taut.ensures.continues.theory; logic = refl; laws = refl; stored = refl })
    c.requires.library

pub returns-clause-outcome : goal.returns-clause-outcome
returns-clause-outcome c = taut-answers c.args.library.now.recorder.theory c.args.term.now (theorem_in c.taut.result) c.taut.ensures.outcome
