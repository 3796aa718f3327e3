-- The stage that a rotation reaches.
use Rattle.std.proofs.Common.{◌≡◌, inl, ℕ, ◌%◌, length, refl, sym, ◌∙◌, ap, Option, None, Some, Result, Ok, Err}
use Rattle.std.specs.Prelude.{IfErr, OnOk, OnErr}
use Rattle.std.specs.Option.{option_map}
use Rattle.std.proofs.lemmas.List.{length-map}
use Rattle.hol_model.specs.declared.fault.Fault.{Fault}
use Rattle.hol_model.specs.declared.fault.Fault.TheVariants.{Memory, NoGoal}
use Rattle.hol_model.specs.Kernel.Theorem.{Theorem}
use Rattle.hol_model.specs.Goals.ValidSteps.{Step}
use Rattle.hol_model.specs.Goals.GoalStates.{Proof, Stack, Stage, underway, proved, rotated, rotated_stage, rotate_outcome, advanced, changed_stack}
use Rattle.hol_model.specs.Goals.StackCalls.{Changes}
use Rattle.hol_just.specs.Steps.{goal_of}
use Rattle.hol_goals.specs.declared.stage.Opening.{Opening}
use Rattle.hol_goals.specs.Stages.{opening_of, GoesOn}
use Rattle.hol_goals.proofs.Turns.{rest-of-turns}

pub nothing_set : (found : Option Proof) (n : ℕ) → None ≡ option_map (λ (proof : Proof). proof.stage) found → rotate_outcome found n ≡ Err NoGoal
nothing_set None n same = refl
nothing_set (Some proof) n same = cc

pub is_done : (found : Option Proof) (theorem : Theorem) (n : ℕ) → Some (proved theorem) ≡ option_map (λ (proof : Proof). proof.stage) found → rotate_outcome found n ≡ Err NoGoal
is_done None theorem n same = cc
is_done (Some proof) theorem n same =
    let one : proved theorem ≡ proof.stage = cc in
    ap (λ (stage : Stage). rotated_stage proof stage n) (sym one)

reaches : (found : Option Proof) (step : Step) (n : ℕ) → Some (underway step) ≡ option_map (λ (proof : Proof). proof.stage) found
    → (proof : Proof) × (found ≡ Some proof) × (rotate_outcome found n ≡ Ok (advanced proof (underway (rotated n step))))
reaches None step n same = cc
reaches (Some proof) step n same =
    let one : underway step ≡ proof.stage = cc in
    (proof, refl, ap (λ (stage : Stage). rotated_stage proof stage n) (sym one))

-- turned by what is left of so many turns
pub rotates : (old new : Stack) (opening made : Opening) (n : ℕ) (result : Result (Unit {0}) Fault) → Some (underway (opening_of opening)) ≡ option_map (λ (proof : Proof). proof.stage) old.proof
    → opening_of made ≡ rotated (n % length opening.goals.items) (opening_of opening) → OnOk result (GoesOn old new (underway (opening_of made)))
    → IfErr result (λ fault. fault ≡ Memory) → OnErr result (new ≡ old) → Changes result (rotate_outcome old.proof n) (changed_stack old) old new
rotates old new opening made n (Ok done) same turned ok err kept =
    let reached = reaches old.proof (opening_of opening) n same in
    let whole : rotated n (opening_of opening) ≡ opening_of made =
    rest-of-turns n (opening_of opening) ∙ ap (λ (count : ℕ). rotated (n % count) (opening_of opening)) (length-map opening.goals.items goal_of) ∙ sym turned in (
      advanced reached.0 (underway (opening_of made)),
      reached.2 ∙ ap (λ (step : Step). Ok (advanced reached.0 (underway step))) whole,
      ok reached.0 reached.1,
    )
rotates old new opening made n (Err fault) same turned ok err kept = (inl err, kept)
