-- Journals only grow, and what a recorder made stays its own.
use Rattle.std.specs.Prelude.{◌≡◌, List, ◌++◌, Result, IfOk}
use Rattle.hol_model.specs.declared.fault.Fault.{Fault}
use Rattle.hol_model.specs.Logic.Theory.{IsEarlier}
use Rattle.hol_journal.specs.Steps.{Step, JournalEntry}
use Rattle.hol_journal.specs.Journal.{Journal, Recorded, IsMade, IsRecorded}

-- the second is the first, or a later state of it
pub record IsGrown (old new : Journal) : Type 0 where
  pub added : List JournalEntry
  pub entries : new.entries ≡ old.entries ++ added
  pub earlier : IsEarlier old.theory new.theory

-- the recorder made the theorem, and it stands on the recorder's theory
pub record IsHeld (journal : Journal) (answer : Recorded) : Type 0 where
  pub made : IsMade journal answer
  pub stands_on : answer.theorem.theory ≡ journal.theory

-- after a call the journal has grown, the theory is the same, and what the call answers is held
pub record Continues (old new : Journal) (result : Result Recorded Fault) : Type 0 where
  pub grown : IsGrown old new
  pub theory : new.theory ≡ old.theory
  pub held : IfOk result (IsHeld new)

-- what is recorded is made by the recorder, and stays so as the journal grows
pub record JournalsGrow : Type 0 where
  pub grown : (old new : Journal) (step : Step) (made : Recorded) → IsRecorded old new step made → IsGrown old new
  pub made : (old new : Journal) (step : Step) (made : Recorded) → IsRecorded old new step made → IsMade new made
  pub stays : (old new : Journal) (made : Recorded) → IsGrown old new → IsMade old made → IsMade new made
  pub twice : (first second third : Journal) → IsGrown first second → IsGrown second third → IsGrown first third
