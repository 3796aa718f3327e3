-- What the stage at hand tells of the proof.
use Rattle.std.proofs.Common.{◌≡◌, ◌<◌, refl, sym, ◌∙◌, ap, subst, List, [], ◌∷◌, length, Option, None, Some, Ok, Err, arith}
use Rattle.std.specs.Option.{option_map}
use Rattle.std.specs.Prelude.{IfSome}
use Rattle.hol_model.specs.declared.fault.Fault.TheVariants.{NoGoal}
use Rattle.hol_model.specs.Goals.Goals.{Goal}
use Rattle.hol_model.specs.Goals.GoalStates.{Stage, Proof, stage_theorem, open_goals, top_outcome, goals_of_proof, underway, proved, focus_outcome, stage_focus, step_focus}
use Rattle.hol_model.specs.Kernel.Theorem.{Theorem}
use Rattle.hol_model.specs.Goals.ValidSteps.{Step}
use Rattle.hol_just.specs.declared.goal.Goal as code_goal
use Rattle.hol_just.specs.Steps.{goals_of}
use Rattle.hol_goals.specs.Refinements.{goal_in_focus}
use Rattle.hol_goals.specs.declared.stage.Opening.{Opening}
use Rattle.hol_goals.specs.Stages.{opening_of, HasGoals}

pub no_top : (found : Option Proof) → None ≡ option_map (λ (proof : Proof). proof.stage) found → Err NoGoal ≡ top_outcome found
no_top None same = refl
no_top (Some proof) same = cc

pub top_of : (found : Option Proof) (stage : Stage) → Some stage ≡ option_map (λ (proof : Proof). proof.stage) found → stage_theorem stage ≡ top_outcome found
top_of None stage same = cc
top_of (Some proof) stage same = let one : stage ≡ proof.stage = cc in ap stage_theorem one

pub no_goals : (found : Option Proof) → None ≡ option_map (λ (proof : Proof). proof.stage) found → [] ≡ goals_of_proof found
no_goals None same = refl
no_goals (Some proof) same = cc

pub goals_at : (found : Option Proof) (stage : Stage) → Some stage ≡ option_map (λ (proof : Proof). proof.stage) found → open_goals stage ≡ goals_of_proof found
goals_at None stage same = cc
goals_at (Some proof) stage same = let one : stage ≡ proof.stage = cc in ap open_goals one

-- a proof under way has a goal

pub some-open : (goals : List code_goal.Goal) → 0 < length goals → 0 < length (goals_of goals)
some-open [] some = some
some-open (goal ∷ goals) some = omega arith

pub none_set : (found : Option Proof) → None ≡ option_map (λ (proof : Proof). proof.stage) found → IfSome found (λ (proof : Proof). HasGoals proof.stage)
none_set None same = tt
none_set (Some proof) same = cc

pub none_left : (found : Option Proof) (theorem : Theorem) → Some (proved theorem) ≡ option_map (λ (proof : Proof). proof.stage) found → IfSome found (λ (proof : Proof). HasGoals proof.stage)
none_left None theorem same = tt
none_left (Some proof) theorem same = let one : proved theorem ≡ proof.stage = cc in subst HasGoals one tt

pub some_left : (found : Option Proof) (opening : Opening) → Some (underway (opening_of opening)) ≡ option_map (λ (proof : Proof). proof.stage) found
    → IfSome found (λ (proof : Proof). HasGoals proof.stage)
some_left None opening same = tt
some_left (Some proof) opening same = let one : underway (opening_of opening) ≡ proof.stage = cc in subst HasGoals one (some-open opening.goals.items opening.open)

pub no_focus : (found : Option Proof) → None ≡ option_map (λ (proof : Proof). proof.stage) found → Err NoGoal ≡ goal_in_focus (focus_outcome found)
no_focus None same = refl
no_focus (Some proof) same = cc

pub done_focus : (found : Option Proof) (theorem : Theorem) → Some (proved theorem) ≡ option_map (λ (proof : Proof). proof.stage) found → Err NoGoal ≡ goal_in_focus (focus_outcome found)
done_focus None theorem same = cc
done_focus (Some proof) theorem same =
    let one : proved theorem ≡ proof.stage = cc in
    ap (λ stage. goal_in_focus (stage_focus proof stage)) one

pub focus_at : (found : Option Proof) (step : Step) (goal : Goal) (others : List Goal) → Some (underway step) ≡ option_map (λ (proof : Proof). proof.stage) found
    → step.goals ≡ goal ∷ others → Ok goal ≡ goal_in_focus (focus_outcome found)
focus_at None step goal others same at = cc
focus_at (Some proof) step goal others same at =
    let one : underway step ≡ proof.stage = cc in
    ap (λ (l : List Goal). goal_in_focus (step_focus proof step l)) (sym at) ∙ ap (λ stage. goal_in_focus (stage_focus proof stage)) one
