-- The steps that turn goals, as they are put together.
use Rattle.std.proofs.Common.{◌≡◌, inl, inr, ℕ, zero, suc, ◌+◌, ◌-◌, ◌≤◌, ◌<◌, List, [], ◌∷◌, ◌++◌, length, map, take, drop, sym, subst, ◌∙◌, ap, arith}
use Rattle.std.proofs.lemmas.List.{map-append, drop-map, length-map}
use Rattle.hol_model.specs.declared.fault.Fault.{Fault}
use Rattle.hol_model.specs.declared.fault.Fault.TheVariants.{Memory}
use Rattle.hol_model.specs.Goals.Justifications.{Justification}
use Rattle.hol_model.specs.Goals.ValidSteps.{Step}
use Rattle.hol_model.specs.Goals.Splicing.{portion_of, splice}
use Rattle.hol_model.specs.Goals.GoalStates.{untouched, rotated}
use Rattle.hol_just.specs.declared.goal.Goal as code_goal
use Rattle.hol_just.specs.declared.goal.Step as code_step
use Rattle.hol_just.specs.Steps.{goal_of, goals_of, step_of, IsRefused}
use Rattle.hol_just.specs.Growing.{grown_tree}
use Rattle.hol_goals.specs.declared.stage.Opening.{Opening}
use Rattle.hol_goals.specs.Stages.{opening_of}
use Rattle.hol_goals.specs.Turning.{numbered, numbered_from, last_of, turning_steps}
use Rattle.hol_goals.proofs.Refinements.{portions-of}
use Rattle.hol_goals.proofs.TurnedNumbers.{turns-are, depth-turned}

last-number : (number count : ℕ) → numbered_from number (suc count) ≡ numbered_from number count ++ numbered (number + count) ∷ []
last-number number zero =
    let same : number ≡ number + 0 = omega arith in
    ap (λ (n : ℕ). numbered n ∷ []) same
last-number number (suc count) =
    let next : suc number + count ≡ number + suc count = omega arith in
    ap (λ rest. numbered number ∷ rest) (last-number (suc number) count ∙ ap (λ (n : ℕ). numbered_from (suc number) count ++ numbered n ∷ []) next)

pub one-number : (first number : ℕ) (old new : List code_step.Step) (step : code_step.Step) → first ≤ number → map step_of old ≡ numbered_from first (number - first)
    → step_of step ≡ numbered number → new ≡ old ++ step ∷ [] → map step_of new ≡ numbered_from first (number + 1 - first)
one-number first number old new step within are is put =
    let next : suc (number - first) ≡ number + 1 - first = omega (arith, within) in
    let same : number ≡ first + (number - first) = omega (arith, within) in
    ap (map step_of) put ∙ map-append step_of old (step ∷ []) ∙ ap (λ l. l ++ step_of step ∷ []) are ∙ ap (λ (s : Step). numbered_from first (number - first) ++ s ∷ []) (is ∙ ap numbered same)
    ∙ sym (last-number first (number - first)) ∙ ap (numbered_from first) next

pub all-steps : (turns : ℕ) (goals : List code_goal.Goal) (first more all : List code_step.Step) (last : code_step.Step) → turns < length goals
    → map step_of first ≡ numbered_from (length goals - turns) (length goals - (length goals - turns))
    → map step_of more ≡ map step_of first ++ map untouched (goals_of (drop turns goals)) → step_of last ≡ last_of turns (goals_of goals) → all ≡ more ++ last ∷ []
    → map step_of all ≡ turning_steps turns (goals_of goals)
all-steps turns goals first more all last within are others is put =
    let count : length goals - (length goals - turns) ≡ turns = omega (arith, within) in
    let long : length goals ≡ length (goals_of goals) = sym (length-map goals goal_of) in
    ap (map step_of) put ∙ map-append step_of more (last ∷ [])
    ∙ ap (λ l. l ++ step_of last ∷ [])
    (others ∙ ap (λ l. l ++ map untouched (goals_of (drop turns goals)))
    (are ∙ ap (numbered_from (length goals - turns)) count ∙ ap (λ (n : ℕ). numbered_from (n - turns) turns) long))
    ∙ ap (λ l. numbered_from (length (goals_of goals) - turns) turns ++ map untouched l ++ step_of last ∷ []) (sym (drop-map goal_of turns goals))
    ∙ ap (λ (s : Step). numbered_from (length (goals_of goals) - turns) turns ++ map untouched (drop turns (goals_of goals)) ++ s ∷ []) is

tree-is : (turns : ℕ) (justification : Justification) (goals : List code_goal.Goal) (steps : List code_step.Step) → map step_of steps ≡ turning_steps turns (goals_of goals)
    → splice justification (map (λ part. portion_of (step_of part)) steps) ≡ splice justification (map portion_of (turning_steps turns (goals_of goals)))
tree-is turns justification goals steps are = ap (splice justification) (portions-of steps ∙ ap (map portion_of) are)

turns-within : (turns : ℕ) (goals : List code_goal.Goal) → turns < length goals → turns < length (goals_of goals)
turns-within turns goals within = subst (λ (n : ℕ). turns < n) (sym (length-map goals goal_of)) within

pub turned-opening : (turns : ℕ) (opening : Opening) (goals : List code_goal.Goal) (steps : List code_step.Step) (tree : Justification) → turns < length opening.goals.items
    → goals_of goals ≡ drop turns (goals_of opening.goals.items) ++ take turns (goals_of opening.goals.items) → map step_of steps ≡ turning_steps turns (goals_of opening.goals.items)
    → tree ≡ splice (grown_tree opening.just) (map (λ part. portion_of (step_of part)) steps)
    → record { goals = goals_of goals; justification = tree } ≡ rotated turns (opening_of opening)
turned-opening turns opening goals steps tree within places are is =
    let whole = is ∙ tree-is turns (grown_tree opening.just) opening.goals.items steps are in
    let one : record { goals = goals_of goals; justification = tree }
    ≡ record {
      goals = drop turns (goals_of opening.goals.items) ++ take turns (goals_of opening.goals.items);
      justification = splice (grown_tree opening.just) (map portion_of (turning_steps turns (goals_of opening.goals.items)));
    } = λ i. record { goals = places i; justification = whole i } in
    one ∙ turns-are turns (opening_of opening) (turns-within turns opening.goals.items within)

-- a turned tree is not too deep
pub turned-fits : (turns : ℕ) (opening : Opening) (steps : List code_step.Step) (fault : Fault) → turns < length opening.goals.items
    → map step_of steps ≡ turning_steps turns (goals_of opening.goals.items) → IsRefused (splice (grown_tree opening.just) (map (λ part. portion_of (step_of part)) steps)) fault → fault ≡ Memory
turned-fits turns opening steps fault within are (inl memory) = memory
turned-fits turns opening steps fault within are (inr deep) =
    let same = depth-turned turns (goals_of opening.goals.items) (grown_tree opening.just) (turns-within turns opening.goals.items within) in
    let is = rw (tree-is turns (grown_tree opening.just) opening.goals.items steps are) at deep.1 in
    cc (sym same ∙ is, opening.within)
