-- The sequents of recorded theorems, and those that a justification may name.
use Rattle.std.specs.Prelude.{List, map}
use Rattle.hol_model.specs.Goals.Goals.{Sequent}
use Rattle.hol_model.specs.Goals.Justifications.{NamedSequents}
use Rattle.hol_model.specs.Goals.Replays.{sequent_of_theorem, sequents_in}
use Rattle.hol_journal.specs.Journal.{Recorded}
use Rattle.hol_theorem_store.specs.Stored.{Stored, theorems_in}

abbrev pub sequent_of_recorded : Recorded → Sequent
sequent_of_recorded made = sequent_of_theorem made.theorem

abbrev pub sequents_of : List Recorded → List Sequent
sequents_of all = map sequent_of_theorem (map (λ (made : Recorded). made.theorem) all)

-- the sequents of what is stored
abbrev pub named_sequents : Stored → NamedSequents
named_sequents stored = sequents_in (theorems_in stored)
