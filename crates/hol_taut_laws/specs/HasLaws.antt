-- A recorder that has the laws of the connectives at truth values.
use Rattle.std.specs.Prelude.{◌≡◌}
use Rattle.hol_journal.specs.Journal.{Journal}
use Rattle.hol_journal.specs.Growth.{IsGrown}
use Rattle.hol_prelude_derivations.specs.Derivations.{theorems, AreMade}
use Rattle.hol_taut_laws.specs.LawTheorems.{tautology_theorems}
use Rattle.hol_taut_laws.specs.declared.stored.Laws.{Laws}

-- the recorder made the theorems
pub record HasLaws (journal : Journal) (laws : Laws) : Type 0 where
  pub theorems_are : theorems laws.theorems.items ≡ tautology_theorems
  pub made : AreMade journal laws.theorems.items

-- so it stays as the journal grows
abbrev pub LawsStay : Type 0
LawsStay = (old new : Journal) (laws : Laws) → IsGrown old new → HasLaws old laws → HasLaws new laws
