-- Tautologies: formulas that are true in every row of truth values of their atoms.
use Rattle.std.specs.Prelude.{ℕ, zero, suc, List, [], ◌∷◌, ◌++◌, Bool, true, false, not, Option, Some, Result, map, length, get_or, nat_le, if◌then◌else◌}
use Rattle.std.specs.List.{find, range_with_len}
use Rattle.std.specs.Option.{option_map}
use Rattle.hol_model.specs.declared.fault.Fault.{Fault}
use Rattle.hol_model.specs.declared.fault.Fault.TheVariants.{NotBool, NotTautology, TooManyAtoms}
use Rattle.hol_model.specs.declared.limits.TheConstants.{ATOMS_LIMIT}
use Rattle.hol_model.specs.Terms.NamedTerm.{NamedTerm}
use Rattle.hol_model.specs.Logic.Theory.{Theory}
use Rattle.hol_model.specs.Kernel.Outcome.{unless, refused}
use Rattle.hol_model.specs.Kernel.Rules.{is_formula, first_unknown}
use Rattle.hol_model.specs.Derived.DerivedRules.{Stated, stated}
use Rattle.hol_model.specs.Kernel.Theorem.{are_alpha_equivalent}
use Rattle.hol_model.specs.Propositional.Propositions.{proposition, atoms_of, is_true_by}

-- the rows of so many values: true before false, the last value fastest
abbrev pub rows : ℕ → List (List Bool)
rows zero = [] ∷ []
rows (suc n) = map (λ row. true ∷ row) (rows n) ++ map (λ row. false ∷ row) (rows n)

-- the value of an atom in a row
abbrev pub value_in : List NamedTerm → List Bool → NamedTerm → Bool
value_in (atom ∷ atoms) (value ∷ row) term = if are_alpha_equivalent atom term then value else value_in atoms row term
value_in _ _ term = false

-- whether a formula is true in a row of values of these atoms
abbrev pub is_true_in : List NamedTerm → NamedTerm → List Bool → Bool
is_true_in atoms term row = is_true_by (value_in atoms row) (proposition term)

-- the first row of values of its atoms in which the formula is false
abbrev pub falsifying_row : NamedTerm → Option (List Bool)
falsifying_row term = find (λ row. not (is_true_in (atoms_of term) term row)) (rows (length (atoms_of term)))

-- a row as refusals tell it: its values, and then `false`
abbrev pub row_in_full : List Bool → List Bool
row_in_full row = map (λ place. get_or row place false) (range_with_len 0 ATOMS_LIMIT)

-- the refusal of a formula that is no tautology, or that has too many atoms
abbrev pub falsity_of : NamedTerm → Option Fault
falsity_of term =
    if nat_le (length (atoms_of term)) ATOMS_LIMIT
    then option_map (λ row. NotTautology (length (atoms_of term)) (row_in_full row)) (falsifying_row term)
    else Some TooManyAtoms

-- TAUT t: a tautology
abbrev pub tautology_outcome : Theory → NamedTerm → Result Stated Fault
tautology_outcome theory term =
    unless (is_formula term) NotBool
    (refused (first_unknown theory term)
    (refused (falsity_of term)
    (stated [] term)))
