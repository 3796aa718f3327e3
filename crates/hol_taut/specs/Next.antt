-- Which atoms of a list have no fact.
use Rattle.std.specs.Prelude.{◌≡◌, ℕ, ◌+◌, List, [], ◌∷◌, Bool, true, Option, Some, None}
use Rattle.std.specs.Option.{is_some}
use Rattle.hol_model.specs.Logic.Derivable.{IsMember}
use Rattle.hol_model.specs.Terms.NamedTerm.{NamedTerm}
use Rattle.hol_taut.specs.declared.facts.Facts.{Facts}
use Rattle.hol_taut.specs.FactLists.{value_of}

-- the atom is listed and has no fact
pub record IsOpen (facts : Facts) (atoms : List NamedTerm) (atom : NamedTerm) : Type 0 where
  pub listed : IsMember atom atoms
  pub unknown : value_of facts atom ≡ None

-- each listed atom has a fact
pub record AreAllKnown (facts : Facts) (atoms : List NamedTerm) : Type 0 where
  pub each : (atom : NamedTerm) → IsMember atom atoms → is_some (value_of facts atom) ≡ true

-- an atom without a fact, or none where all have one
abbrev pub IsNext : Facts → List NamedTerm → Option NamedTerm → Type 0
IsNext facts atoms (Some atom) = IsOpen facts atoms atom
IsNext facts atoms None = AreAllKnown facts atoms

abbrev pub open_of : Option Bool → ℕ
open_of (Some value) = 0
open_of None = 1

-- how many of the listed atoms have no fact
abbrev pub open_atoms : Facts → List NamedTerm → ℕ
open_atoms facts [] = 0
open_atoms facts (atom ∷ atoms) = open_of (value_of facts atom) + open_atoms facts atoms
