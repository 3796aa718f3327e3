-- Atoms that are put behind those of a list, as long as there are not too many.
use Rattle.std.specs.Prelude.{◌≡◌, ◌≤◌, ◌<◌, ◌⊎◌, ℕ, List, [], ◌∷◌, Bool, false, length, get_or}
use Rattle.hol_model.specs.declared.fault.Fault.{Fault}
use Rattle.hol_model.specs.declared.fault.Fault.TheVariants.{Memory, TooManyAtoms}
use Rattle.hol_model.specs.declared.limits.TheConstants.{ATOMS_LIMIT}
use Rattle.hol_model.specs.Terms.NamedTerm.{NamedTerm}
use Rattle.hol_model.specs.Propositional.Propositions.{with_new_terms}
use Rattle.hol_model.specs.Propositional.Tautologies.{value_in}

-- each new term is added, and there are not too many if there were not
pub record AreAdded (terms old new : List NamedTerm) : Type 0 where
  pub all : new ≡ with_new_terms old terms
  pub few : length old ≤ ATOMS_LIMIT → length new ≤ ATOMS_LIMIT

-- there is no memory, or there would be too many
abbrev pub AreRefused : List NamedTerm → List NamedTerm → Fault → Type 0
AreRefused terms old fault = (fault ≡ Memory) ⊎ ((fault ≡ TooManyAtoms) × (ATOMS_LIMIT < length (with_new_terms old terms)))

-- an atom is added, and its value is the one at this place, whatever is added later
pub record IsAtomPut (atom : NamedTerm) (old new : List NamedTerm) (place : ℕ) : Type 0 where
  pub added : AreAdded (atom ∷ []) old new
  pub found : (later : List NamedTerm) (row : List Bool) → get_or row place false ≡ value_in (with_new_terms new later) row atom
