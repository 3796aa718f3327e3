-- Parts of formulas that are put behind those that they are made of.
use Rattle.std.specs.Prelude.{◌≡◌, ◌≤◌, ◌<◌, ◌+◌, ◌⊎◌, ℕ, List, [], ◌∷◌, ◌++◌, Bool, Some, length, slice_get}
use Rattle.hol_model.specs.Terms.NamedTerm.{NamedTerm}
use Rattle.hol_model.specs.Propositional.Propositions.{proposition, atom_places, with_new_terms}
use Rattle.hol_model.specs.Propositional.Tautologies.{is_true_in}
use Rattle.hol_taut_formulas.specs.declared.numbered.Numbered.{Numbered}
use Rattle.hol_taut_formulas.specs.declared.numbered.Part.{Part}
use Rattle.hol_taut_formulas.specs.declared.numbered.Part.TheVariants.{Atom, Constantly, Negated, Connected}
use Rattle.hol_taut_formulas.specs.NumberedFormulas.{value_at, truth_at, is_true_at}
use Rattle.hol_taut_formulas.specs.AddedAtoms.{AreAdded}

-- a part is made of some of the first parts, so many of them
abbrev pub IsMadeOf : ℕ → Part → Type 0
IsMadeOf n (Atom place) = Unit {0}
IsMadeOf n (Constantly value) = Unit {0}
IsMadeOf n (Negated part) = part < n
IsMadeOf n (Connected connective left right) = (left < n) × (right < n)

-- each part stands behind those that it is made of, and behind so many more
abbrev pub AreOrdered : ℕ → List Part → Type 0
AreOrdered n [] = Unit {0}
AreOrdered n (part ∷ parts) = IsMadeOf n part × AreOrdered (n + 1) parts

-- a part was put at the end, unless it was there, and stands at this place
pub record IsPartPut (part : Part) (old new : List Part) (place : ℕ) : Type 0 where
  pub put : (new ≡ old) ⊎ (new ≡ old ++ part ∷ [])
  pub there : slice_get new place ≡ Some part

-- what is true in these rows was put at this place, and what was there stays
pub record IsPut (is_true : List Bool → Bool) (old new : List Part) (place : ℕ) : Type 0 where
  pub ordered : AreOrdered 0 new
  pub longer : length old ≤ length new
  pub kept : (value : ℕ → Bool) (known : ℕ) → known < length old → truth_at value new known ≡ truth_at value old known
  pub within : place < length new
  pub meaning : (row : List Bool) → truth_at (value_at row) new place ≡ is_true row

-- the atoms of a formula were put behind atoms, and its parts behind parts in order, whatever atoms are put later
pub record IsFormulaPut (term : NamedTerm) (old new : List NamedTerm) (known parts : List Part) (place : ℕ) : Type 0 where
  pub added : AreAdded (atom_places (proposition term)) old new
  pub put : (later : List NamedTerm) → AreOrdered 0 known → IsPut (is_true_in (with_new_terms new later) term) known parts place

-- the atoms of a formula were put behind atoms, and it is true in the same rows as its term
pub record IsNumbered (term : NamedTerm) (old new : List NamedTerm) (formula : Numbered) : Type 0 where
  pub added : AreAdded (atom_places (proposition term)) old new
  pub meaning : (row : List Bool) → is_true_at row formula ≡ is_true_in new term row
