-- What a theorem leads to on the way to its rules.
use Rattle.std.specs.Prelude.{◌≡◌, ◌<◌, true, List, [], ◌∷◌, ◌++◌, map}
use Rattle.hol_model.specs.Terms.NamedTerm.{NamedTerm, nodes}
use Rattle.hol_model.specs.Terms.Nameless.{image}
use Rattle.hol_model.specs.Logic.Derivable.{IsSameSet}
use Rattle.hol_model.specs.Kernel.Theorem.{Theorem}
use Rattle.hol_journal.specs.Journal.{Journal, Recorded, IsMade}
use Rattle.hol_rewrite.specs.Rules.{HasRules, are_small}
use Rattle.hol_rewrite.specs.declared.reduction.Reduced.{Reduced}
use Rattle.hol_rewrite.specs.declared.reduction.Reduced.TheVariants.{Parts, Body, Rule}

-- the theorem is made, under the same hypotheses, its conclusion has fewer nodes, and its terms stay small
pub record IsPart (journal : Journal) (hypotheses : List NamedTerm) (premise : Theorem) (part : Recorded) : Type 0 where
  pub is_made : IsMade journal part
  pub same_hypotheses : IsSameSet (map image part.theorem.hypotheses) (map image hypotheses)
  pub fewer : nodes part.theorem.conclusion < nodes premise.conclusion
  pub stays_small : are_small premise ≡ true → are_small part.theorem ≡ true

-- the rules of the theorem are those of the two parts, one after the other
pub record AreParts (journal : Journal) (hypotheses : List NamedTerm) (premise : Theorem) (left right : Recorded) : Type 0 where
  pub is_left : IsPart journal hypotheses premise left
  pub is_right : IsPart journal hypotheses premise right
  pub rules : (first second : List Theorem) → HasRules hypotheses left.theorem.conclusion first → HasRules hypotheses right.theorem.conclusion second
      → HasRules hypotheses premise.conclusion (first ++ second)

-- the rules of the theorem are those of the body
pub record IsBody (journal : Journal) (hypotheses : List NamedTerm) (premise : Theorem) (body : Recorded) : Type 0 where
  pub is_part : IsPart journal hypotheses premise body
  pub rules : (all : List Theorem) → HasRules hypotheses body.theorem.conclusion all → HasRules hypotheses premise.conclusion all

-- the theorem has this rule
pub record IsOnlyRule (journal : Journal) (hypotheses : List NamedTerm) (premise : Theorem) (rule : Recorded) : Type 0 where
  pub is_made : IsMade journal rule
  pub rules : HasRules hypotheses premise.conclusion (rule.theorem ∷ [])

abbrev pub IsReduced : Journal → List NamedTerm → Theorem → Reduced → Type 0
IsReduced journal hypotheses premise (Parts left right) = AreParts journal hypotheses premise left right
IsReduced journal hypotheses premise (Body body) = IsBody journal hypotheses premise body
IsReduced journal hypotheses premise (Rule rule) = IsOnlyRule journal hypotheses premise rule
