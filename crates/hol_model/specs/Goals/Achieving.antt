-- Tests whether terms are assumed, and whether a theorem achieves a goal.
use Rattle.std.specs.Prelude.{List, map, Bool, ◌&&◌}
use Rattle.std.specs.List.{list_all}
use Rattle.hol_model.specs.Terms.NamedTerm.{NamedTerm}
use Rattle.hol_model.specs.Terms.Nameless.{image}
use Rattle.hol_model.specs.Kernel.Theorem.{Theorem, are_alpha_equivalent}
use Rattle.hol_model.specs.Derived.DerivedRules.{is_among}
use Rattle.hol_model.specs.Goals.Goals.{Goal}

-- the term is among the assumptions, up to the names of bound variables
abbrev pub is_assumed : NamedTerm → Goal → Bool
is_assumed term goal = is_among (image term) (map image goal.assumptions)

-- so is each of the terms
abbrev pub are_assumed : List NamedTerm → Goal → Bool
are_assumed terms goal = list_all (λ term. is_among (image term) (map image goal.assumptions)) terms

-- the theorem's sequent achieves the goal
abbrev pub achieves : Goal → Theorem → Bool
achieves goal theorem = are_alpha_equivalent theorem.conclusion goal.target && are_assumed theorem.hypotheses goal
