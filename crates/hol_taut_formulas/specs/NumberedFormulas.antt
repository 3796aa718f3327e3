-- Values of formulas whose atoms are places in a list, and whose parts are too.
use Rattle.std.specs.Prelude.{ℕ, List, [], ◌∷◌, ◌++◌, Bool, false, not, get_or}
use Rattle.hol_model.specs.Propositional.Propositions.{truth_table}
use Rattle.hol_taut_formulas.specs.Forms.{meant}
use Rattle.hol_taut_formulas.specs.declared.numbered.Numbered.{Numbered}
use Rattle.hol_taut_formulas.specs.declared.numbered.Part.{Part}
use Rattle.hol_taut_formulas.specs.declared.numbered.Part.TheVariants.{Atom, Constantly, Negated, Connected}

-- the value of the atom at a place in a row
abbrev pub value_at : List Bool → ℕ → Bool
value_at row place = get_or row place false

-- whether a part is true where the atom at each place has this value, and the parts before it are true or not
abbrev pub truth_of_part : (ℕ → Bool) → List Bool → Part → Bool
truth_of_part value before (Atom place) = value place
truth_of_part value before (Constantly b) = b
truth_of_part value before (Negated part) = not (get_or before part false)
truth_of_part value before (Connected connective left right) = truth_table (meant connective) (get_or before left false) (get_or before right false)

-- whether each part is true, behind those before
abbrev pub truths : (ℕ → Bool) → List Bool → List Part → List Bool
truths value before [] = before
truths value before (part ∷ parts) = truths value (before ++ truth_of_part value before part ∷ []) parts

-- whether the part at a place is true
abbrev pub truth_at : (ℕ → Bool) → List Part → ℕ → Bool
truth_at value parts place = get_or (truths value [] parts) place false

-- whether a formula is true where the atom at each place has this value
abbrev pub truth_of : (ℕ → Bool) → Numbered → Bool
truth_of value formula = truth_at value formula.parts.keys formula.whole

-- whether a formula is true in a row of values of the atoms
abbrev pub is_true_at : List Bool → Numbered → Bool
is_true_at row formula = truth_of (value_at row) formula
