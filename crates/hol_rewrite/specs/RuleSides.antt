-- Rules as left sides: the free variables of a rule's hypotheses stay, and the pattern is the left side of its equation.
use Rattle.std.specs.Prelude.{◌≡◌, List, [], ◌∷◌, map, Some}
use Rattle.std.specs.Option.{option_map_or}
use Rattle.hol_model.specs.Terms.NamedTerm.{NamedTerm}
use Rattle.hol_model.specs.Kernel.Theorem.{Theorem}
use Rattle.hol_model.specs.Kernel.Rules.{dest_equation}
use Rattle.hol_model.specs.Rewrites.Choice.{Side}
use Rattle.hol_model.specs.Rewrites.Rewriting.{fixed_variables}
use Rattle.hol_journal.specs.Journal.{Recorded}

-- the theorem is an equation
pub record IsEquation (rule : Theorem) : Type 0 where
  pub sides : NamedTerm × NamedTerm
  pub is : dest_equation rule.conclusion ≡ Some sides

abbrev pub AreEquations : List Theorem → Type 0
AreEquations [] = Unit {0}
AreEquations (rule ∷ rules) = IsEquation rule × AreEquations rules

-- the left side of an equation
abbrev pub left_side : NamedTerm → NamedTerm
left_side conclusion = option_map_or (λ sides. sides.0) (dest_equation conclusion) conclusion

abbrev pub side_of_rule : Theorem → Side
side_of_rule rule = (fixed_variables rule.hypotheses, left_side rule.conclusion)

abbrev pub sides_of_rules : List Recorded → List Side
sides_of_rules rules = map (λ rule. side_of_rule rule.theorem) rules
