use Rattle.std.proofs.Common.{◌≡◌, ◌<◌, ℕ, false, length, get_or}
use Rattle.hol_taut_formulas.proofs.falsity_test.in_full.Given as goal

abbrev pub invariant-loop-at : goal.invariant-loop-at
invariant-loop-at l = (length l.full ≡ 14) × ((place : ℕ) → place < l.at → get_or l.full place false ≡ get_or l.row place false)
