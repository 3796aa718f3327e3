use Rattle.hol_theorem_library.specs.declared.library.Library.{Library}
use Rattle.hol_theorem_library.proofs.Continuing.{is_new_library}
use Rattle.hol_theorem_library.proofs.library.Library.new.Goals as goal

pub returns-clause-library : goal.returns-clause-library
returns-clause-library c =
    let library : Library = record { recorder = c.tautology_laws.new.recorder; logic = c.in_ok-logic.logic; laws = c.in_ok-laws.laws; store = c.new-2.result } in
    is_new_library library c.prelude.new.recorder c.in_ok-laws.ensures.grown c.in_ok-logic.ensures.logic c.in_ok-laws.ensures.laws c.new-2.ensures.made
