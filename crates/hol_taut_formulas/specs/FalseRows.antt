-- Rows in which a formula is false.
use Rattle.std.specs.Prelude.{ℕ, ◌-◌, List, ◌++◌, Bool, not, Option, length}
use Rattle.std.specs.List.{find}
use Rattle.std.specs.Option.{option_map}
use Rattle.hol_model.specs.Propositional.Tautologies.{rows}
use Rattle.hol_taut_formulas.specs.declared.numbered.Numbered.{Numbered}
use Rattle.hol_taut_formulas.specs.NumberedFormulas.{is_true_at}

-- the first row of so many values that begins with these, and in which the formula is false
abbrev pub first_falsity : ℕ → Numbered → List Bool → Option (List Bool)
first_falsity count formula row =
    option_map (λ rest. row ++ rest) (find (λ rest. not (is_true_at (row ++ rest) formula)) (rows (count - length row)))
