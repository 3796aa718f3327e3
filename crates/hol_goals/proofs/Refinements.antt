-- The step with its first goal refined.
use Rattle.std.proofs.Common.{◌≡◌, ℕ, zero, suc, ◌+◌, List, [], ◌∷◌, ◌++◌, length, map, refl, sym, ◌∙◌, ap, subst, arith, zero-add}
use Rattle.std.proofs.lemmas.List.{length-map}
use Rattle.hol_model.specs.declared.fault.Fault.{Fault}
use Rattle.hol_model.specs.Goals.Goals.{Goal}
use Rattle.hol_model.specs.Goals.Justifications.{Justification, sub}
use Rattle.hol_model.specs.Goals.ValidSteps.{Step}
use Rattle.hol_model.specs.Goals.Splicing.{Portion, replace_subs, numbered_portion, portion_of, spliced, goals_of_steps}
use Rattle.hol_model.specs.Goals.GoalStates.{untouched}
use Rattle.hol_just.specs.declared.goal.Goal as code_goal
use Rattle.hol_just.specs.declared.goal.Step as code_step
use Rattle.hol_just.specs.Steps.{goal_of, goals_of, step_of, tree_of, IsRefused}
use Rattle.hol_just.specs.Portions.{in_place_of_first, refined_first}
use Rattle.hol_goals.proofs.Turns.{same-numbers}

untouched-goals : (goals : List Goal) → goals_of_steps (map untouched goals) ≡ goals
untouched-goals [] = refl
untouched-goals (goal ∷ goals) = ap (λ rest. goal ∷ rest) (untouched-goals goals)

pub portions-of : (parts : List code_step.Step) → map (λ part. portion_of (step_of part)) parts ≡ map portion_of (map step_of parts)
portions-of [] = refl
portions-of (part ∷ parts) = ap (λ rest. portion_of (step_of part) ∷ rest) (portions-of parts)

-- the goals that are left as they are have the numbers behind those of the step
behind : (before : ℕ) (others : List Goal) (i : ℕ) → sub (before + i) ≡ numbered_portion before (map portion_of (map untouched others)) i
behind before [] i = refl
behind before (goal ∷ others) zero = refl
behind before (goal ∷ others) (suc i) =
    let next : before + suc i ≡ before + 1 + i = omega arith in
    ap sub next ∙ behind (before + 1) others i

in-place : (portion : Portion) (others : List Goal) (i : ℕ) → in_place_of_first portion i ≡ numbered_portion 0 (portion ∷ map portion_of (map untouched others)) i
in-place portion others zero = sym (same-numbers (λ i. sub (0 + i)) (λ i. ap sub (zero-add i)) portion.justification)
in-place portion others (suc i) =
    let same : portion.subgoals + i ≡ 0 + portion.subgoals + i = omega arith in
    ap sub same ∙ behind (0 + portion.subgoals) others i

-- so a portion in place of the first subgoal is the splice with all other goals left as they are
first-is-spliced : (step : Step) (refinement : code_step.Step) (count : ℕ) (others : List Goal) → count ≡ length refinement.goals.items
    → refined_first (record { subgoals = count; justification = tree_of refinement.just }) step.justification ≡ (spliced step (step_of refinement ∷ map untouched others)).justification
first-is-spliced step refinement count others is =
    let many = length-map refinement.goals.items goal_of in
    ap (λ (count : ℕ). refined_first (record { subgoals = count; justification = tree_of refinement.just }) step.justification) (is ∙ sym many)
    ∙ ap (λ (new : ℕ → Justification). replace_subs new step.justification) (λ i n. in-place (portion_of (step_of refinement)) others n i)

pub refined_is : (step : Step) (refinement : code_step.Step) (count : ℕ) (others all : List code_goal.Goal) (tree : Justification) (left : List Goal) → count ≡ length refinement.goals.items
    → goals_of others ≡ left → goals_of all ≡ goals_of refinement.goals.items ++ goals_of others
    → tree ≡ refined_first (record { subgoals = count; justification = tree_of refinement.just }) step.justification
    → record { goals = goals_of all; justification = tree } ≡ spliced step (step_of refinement ∷ map untouched left)
refined_is step refinement count others all tree left counted places both is =
    let goals : goals_of all ≡ goals_of_steps (step_of refinement ∷ map untouched left) =
    both ∙ ap (λ l. goals_of refinement.goals.items ++ l) (places ∙ sym (untouched-goals left)) in
    let whole = is ∙ first-is-spliced step refinement count left counted in
    λ i. record { goals = goals i; justification = whole i }

pub refused_is : (step : Step) (refinement : code_step.Step) (count : ℕ) (others : List Goal) (fault : Fault) → count ≡ length refinement.goals.items
    → IsRefused (refined_first (record { subgoals = count; justification = tree_of refinement.just }) step.justification) fault
    → IsRefused (spliced step (step_of refinement ∷ map untouched others)).justification fault
refused_is step refinement count others fault counted refused = subst (λ (tree : Justification). IsRefused tree fault) (first-is-spliced step refinement count others counted) refused
