-- The refined proof stands at the first open goal.
use Rattle.std.proofs.Common.{◌≡◌, ◌<◌, inl, inr, List, [], ◌∷◌, map, drop, length, refl, sym, ap, subst, true, Option, None, Some, Result, Ok, Err, arith}
use Rattle.std.specs.Prelude.{IfOk, IfErr}
use Rattle.std.specs.Option.{option_map}
use Rattle.hol_model.specs.declared.fault.Fault.{Fault}
use Rattle.hol_model.specs.declared.fault.Fault.TheVariants.{NoGoal}
use Rattle.hol_model.specs.Goals.Goals.{Goal}
use Rattle.hol_model.specs.Kernel.Theorem.{Theorem}
use Rattle.hol_model.specs.Goals.ValidSteps.{Step}
use Rattle.hol_model.specs.Goals.Splicing.{spliced}
use Rattle.hol_just.specs.Steps.{goals_of, IsRefused}
use Rattle.hol_just.specs.Growing.{grown_tree}
use Rattle.hol_model.specs.Goals.Replays.{is_within_depth}
use Rattle.hol_model.specs.Goals.GoalStates.{Stage, underway, proved, Proof, untouched, focus_outcome, stage_focus, step_focus}
use Rattle.hol_goals.specs.declared.stage.GoalState.{GoalState}
use Rattle.hol_goals.specs.declared.stage.Opening.{Opening}
use Rattle.hol_goals.specs.Stages.{opening_of, state_of}
use Rattle.hol_goals.specs.Refinements.{Refines}
use Rattle.hol_goals.proofs.Tops.{some-open}

pub nothing_set : (found : Option Proof) → None ≡ option_map (λ (proof : Proof). proof.stage) found → focus_outcome found ≡ Err NoGoal
nothing_set None same = refl
nothing_set (Some proof) same = cc

pub is_done : (found : Option Proof) (theorem : Theorem) → Some (proved theorem) ≡ option_map (λ (proof : Proof). proof.stage) found → focus_outcome found ≡ Err NoGoal
is_done None theorem same = cc
is_done (Some proof) theorem same = let one : proved theorem ≡ proof.stage = cc in ap (stage_focus proof) (sym one)

refines-at : (proof : Proof) (step refinement : Step) (goals : List Goal) → 0 < length goals → (result : Result GoalState Fault)
    → IfOk result (λ made. state_of made ≡ spliced step (refinement ∷ map untouched (drop 1 goals)))
    → IfOk result (λ made. is_within_depth (grown_tree made.just) ≡ true)
    → IfErr result (IsRefused (spliced step (refinement ∷ map untouched (drop 1 goals))).justification)
    → Refines (step_focus proof step goals) refinement result
refines-at proof step refinement [] some result ok within err = absurd (omega (arith, some))
refines-at proof step refinement (goal ∷ others) some (Ok made) ok within err = (record { proof = proof; step = step; goal = goal; others = others }, refl, ok, within)
refines-at proof step refinement (goal ∷ others) some (Err fault) ok within (inl memory) = inl memory
refines-at proof step refinement (goal ∷ others) some (Err fault) ok within (inr deep) =
    inr (inr (record { focus = record { proof = proof; step = step; goal = goal; others = others }; is = refl; large = deep.0; deep = deep.1 }))

pub refines : (found : Option Proof) (opening : Opening) (refinement : Step) → Some (underway (opening_of opening)) ≡ option_map (λ (proof : Proof). proof.stage) found
    → (result : Result GoalState Fault)
    → IfOk result (λ made. state_of made ≡ spliced (opening_of opening) (refinement ∷ map untouched (drop 1 (goals_of opening.goals.items))))
    → IfOk result (λ made. is_within_depth (grown_tree made.just) ≡ true)
    → IfErr result (IsRefused (spliced (opening_of opening) (refinement ∷ map untouched (drop 1 (goals_of opening.goals.items)))).justification)
    → Refines (focus_outcome found) refinement result
refines None opening refinement same result ok within err = cc
refines (Some proof) opening refinement same result ok within err =
    let one : underway (opening_of opening) ≡ proof.stage = cc in
    subst (λ (stage : Stage). Refines (stage_focus proof stage) refinement result) one
    (refines-at proof (opening_of opening) refinement (goals_of opening.goals.items) (some-open opening.goals.items opening.open) result ok within err)
