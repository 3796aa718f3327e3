use Rattle.std.proofs.Common.{◌≡◌, ◌<◌, ℕ, [], drop, map}
use Rattle.hol_taut_formulas.specs.NumberedFormulas.{truths}
use Rattle.hol_taut_formulas.specs.Words.{is_set, value_in_row}
use Rattle.hol_taut_formulas.proofs.values.words_of.Given as goal

-- the rest of the parts, behind what is known, gives the same as all of them
abbrev pub invariant-loop-part : goal.invariant-loop-part
invariant-loop-part l =
    (row : ℕ) → row < 64
    → truths (value_in_row l.columns row) (map (is_set row) l.words.items) (drop l.part-index l.parts) ≡ truths (value_in_row l.columns row) [] l.parts
