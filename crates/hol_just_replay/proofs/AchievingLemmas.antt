-- The test whether a theorem achieves a goal is right.
use Rattle.std.proofs.Common.{◌≡◌, List, [], ◌∷◌, map, Bool, true, ◌||◌, refl, ap, subst, sym, ◌∙◌}
use Rattle.std.specs.Bool.{Decides}
use Rattle.std.specs.List.{list_any}
use Rattle.hol_model.specs.Terms.NamedTerm.{NamedTerm}
use Rattle.hol_model.specs.Terms.Nameless.{Nameless, image}
use Rattle.hol_model.specs.Logic.Derivable.{IsMember}
use Rattle.hol_model.specs.Derived.DerivedRules.{is_among}
use Rattle.hol_model.specs.Goals.Goals.{Goal, Achieves}
use Rattle.hol_model.specs.Goals.Achieving.{is_assumed, are_assumed, achieves}
use Rattle.hol_model.specs.Kernel.Theorem.{Theorem, are_alpha_equivalent}
use Rattle.hol_model.proofs.Terms.Membership.{of_map, IsMember-map}
use Rattle.hol_model.proofs.Tests.{same_term-Decides, first_of_both, second_of_both, both}
use Rattle.hol_laws_steps.proofs.Members.{list_all-member, list_all-from, is_among-member, member-is_among}
use Rattle.hol_journal.specs.Steps.{sequent_of_theorem}

-- the images are compared, as the terms are
pub among : (term : NamedTerm) (terms : List NamedTerm) (result : Bool) → result ≡ list_any (λ other. are_alpha_equivalent term other) terms → result ≡ is_among (image term) (map image terms)
among term terms result is = is ∙ images terms
  where
    images : (others : List NamedTerm) → list_any (λ other. are_alpha_equivalent term other) others ≡ is_among (image term) (map image others)
    images [] = refl
    images (t ∷ others) = ap (λ (rest : Bool). are_alpha_equivalent term t || rest) (images others)

all-assumed : (goal : Goal) (terms : List NamedTerm) → are_assumed terms goal ≡ true → (x : Nameless) → IsMember x (map image terms) → IsMember x (map image goal.assumptions)
all-assumed goal terms passed x member =
    let found = of_map image x terms member in
    subst (λ (y : Nameless). IsMember y (map image goal.assumptions)) (sym found.2)
    (is_among-member (image found.0) (map image goal.assumptions) (list_all-member (λ term. is_assumed term goal) found.0 terms passed found.1))

assumed-all : (goal : Goal) (terms : List NamedTerm) → ((x : Nameless) → IsMember x (map image terms) → IsMember x (map image goal.assumptions)) → are_assumed terms goal ≡ true
assumed-all goal terms each =
    list_all-from (λ term. is_assumed term goal) terms (λ term member. member-is_among (image term) (map image goal.assumptions) (each (image term) (IsMember-map image term terms member)))

pub achieves-decides : (goal : Goal) (theorem : Theorem) → Decides (achieves goal theorem) (Achieves goal (sequent_of_theorem theorem))
achieves-decides goal theorem =
    let same = are_alpha_equivalent theorem.conclusion goal.target in
    let all = are_assumed theorem.hypotheses goal in
    let decides = same_term-Decides (image theorem.conclusion) (image goal.target) in (
      λ passed. record { same_conclusion = decides.0 (first_of_both same all passed); assumed = all-assumed goal theorem.hypotheses (second_of_both same all passed) },
      λ achieved. both same all (decides.1 achieved.same_conclusion) (assumed-all goal theorem.hypotheses achieved.assumed),
    )

pub of-value : (goal : Goal) (theorem : Theorem) (result : Bool) → result ≡ achieves goal theorem → Decides result (Achieves goal (sequent_of_theorem theorem))
of-value goal theorem result is = rw is (achieves-decides goal theorem)
