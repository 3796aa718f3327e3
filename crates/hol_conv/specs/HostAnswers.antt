-- The test whether a theorem says that two terms are equal.
use Rattle.std.specs.Prelude.{Bool, false, ◌&&◌, length, nat_eq}
use Rattle.std.specs.Option.{option_map_or}
use Rattle.hol_model.specs.Terms.NamedTerm.{NamedTerm}
use Rattle.hol_model.specs.Kernel.Theorem.{Theorem, are_alpha_equivalent}
use Rattle.hol_model.specs.Kernel.Rules.{dest_equation}

abbrev pub are_sides : NamedTerm → NamedTerm → NamedTerm × NamedTerm → Bool
are_sides left right sides = are_alpha_equivalent sides.0 left && are_alpha_equivalent sides.1 right

-- without hypotheses, the first term equals the second
abbrev pub says_equal : NamedTerm → NamedTerm → Theorem → Bool
says_equal left right theorem = nat_eq (length theorem.hypotheses) 0 && option_map_or (are_sides left right) (dest_equation theorem.conclusion) false
