-- A recorder that has the logical constants and the theorems of the prelude.
use Rattle.std.specs.Prelude.{◌≡◌}
use Rattle.hol_journal.specs.Journal.{Journal}
use Rattle.hol_journal.specs.Growth.{IsGrown}
use Rattle.hol_prelude_derivations.specs.Derivations.{theorems, AreMade}
use Rattle.hol_prelude.specs.Prelude.{prelude_theorems}
use Rattle.hol_prelude.specs.declared.stored.Bool.{Bool}

-- the recorder made the theorems of the prelude, so that its theory stands on the definitions of the logical constants
pub record HasLogic (journal : Journal) (logic : Bool) : Type 0 where
  pub theorems_are : theorems logic.theorems.items ≡ prelude_theorems
  pub made : AreMade journal logic.theorems.items

-- so it stays as the journal grows
abbrev pub LogicStays : Type 0
LogicStays = (old new : Journal) (logic : Bool) → IsGrown old new → HasLogic old logic → HasLogic new logic
