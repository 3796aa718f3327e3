-- The stage that a refined proof reaches.
use Rattle.std.proofs.Common.{◌≡◌, ◌<◌, inl, inr, List, [], ◌∷◌, length, map, true, refl, sym, ap, subst, Option, None, Some, Result, Ok, Err, arith}
use Rattle.hol_model.specs.declared.fault.Fault.{Fault}
use Rattle.hol_model.specs.declared.fault.Fault.TheVariants.{TooLarge}
use Rattle.hol_model.specs.Logic.Theory.{Theory}
use Rattle.hol_model.specs.Kernel.Theorem.{Theorem}
use Rattle.hol_model.specs.Texts.Reading.{◌>>=◌}
use Rattle.hol_model.specs.Goals.Goals.{Goal}
use Rattle.hol_model.specs.Goals.Justifications.{Justification}
use Rattle.hol_model.specs.Goals.ValidSteps.{Step}
use Rattle.hol_model.specs.Goals.Replays.{Store, IsReplay, is_within_depth}
use Rattle.hol_model.specs.Kernel.Answers.{Is, Then, goes_on, stops}
use Rattle.hol_model.specs.Goals.GoalStates.{Stage, underway, proved, Proof, Stack, Focus, step_focus, stage_focus, focus_outcome, expanded, closing_outcome, IsStageOf, IsStage, IsExpanded, advanced}
use Rattle.hol_just.specs.declared.goal.Goal as code_goal
use Rattle.hol_just.specs.Steps.{goal_of, goals_of, IsTooDeep}
use Rattle.hol_just.specs.Growing.{grown_tree}
use Rattle.hol_goals.specs.declared.stage.GoalState.{GoalState}
use Rattle.hol_goals.specs.declared.attempt.Attempt.{Attempt}
use Rattle.hol_goals.specs.declared.expanding.Expansion.{Expansion}
use Rattle.hol_goals.specs.Refinements.{Refines}
use Rattle.hol_goals.specs.Stages.{stage_of, state_of, proof_at, shown, attempt_of}
use Rattle.hol_goals.specs.Expansions.{IsProof, Reaches, Finishes, IsExpandedBy}
use Rattle.hol_goals.proofs.Tops.{some-open}

-- what was proved is told

pub finishes : (theory : Theory) (store : Store) (goal : Goal) (justification : Justification) (old new : Stack) (theorem : Theorem) (result : Result Expansion Fault)
    → IsProof theory store goal justification (Ok theorem) → Reaches old new (proved theorem) result → Finishes theory store goal justification old new result
finishes theory store goal justification old new theorem (Ok expansion) proof reaches = (theorem, proof, reaches.0, reaches.1)
finishes theory store goal justification old new theorem (Err fault) proof reaches = (inl reaches.0, reaches.1)

-- the proof and the goal of the first open goal

focus-proof : (found : Option Proof) (focus : Focus) → focus_outcome found ≡ Ok focus → found ≡ Some focus.proof
focus-proof None focus same = cc
focus-proof (Some proof) focus same = at proof.stage same
  where
    goals : (step : Step) (open_goals : List Goal) → step_focus proof step open_goals ≡ Ok focus → Some proof ≡ Some focus.proof
    goals step [] same = cc
    goals step (goal ∷ others) same =
        let one : record { proof = proof; step = step; goal = goal; others = others } ≡ focus = cc in
        ap (λ (f : Focus). Some f.proof) one

    at : (stage : Stage) → stage_focus proof stage ≡ Ok focus → Some proof ≡ Some focus.proof
    at (underway step) same = goals step step.goals same
    at (proved theorem) same = cc

proof-goal : (goal : Goal) (stages : List Stage) (proof : Proof) → proof_at goal stages ≡ Some proof → proof.goal ≡ goal
proof-goal goal [] proof same = cc
proof-goal goal (stage ∷ stages) proof same =
    let one : Some proof ≡ proof_at goal (stage ∷ stages) = sym same in
    go one
  where
    goal_in : Option Proof → Goal
    goal_in None = goal
    goal_in (Some p) = p.goal

    go : Some proof ≡ proof_at goal (stage ∷ stages) → proof.goal ≡ goal
    go one = ap goal_in one

focus-goal : (attempt : Attempt) (focus : Focus) → focus_outcome (attempt_of attempt).proof ≡ Ok focus → focus.proof.goal ≡ goal_of attempt.goal
focus-goal attempt focus same =
    proof-goal (goal_of attempt.goal) (shown attempt.change (map stage_of attempt.stages.items)) focus.proof (focus-proof (attempt_of attempt).proof focus same)

-- goals are left open

stays-open : (theory : Theory) (store : Store) (goal : Goal) (step : Step) → 0 < length step.goals → is_within_depth step.justification ≡ true
    → IsStage theory (IsReplay theory store []) goal step (Ok (underway step))
stays-open theory store goal step some within =
    subst (λ fits. IsStageOf theory (IsReplay theory store []) goal step fits step.goals (Ok (underway step))) (sym within) (go step.goals some)
  where
    go : (goals : List Goal) → 0 < length goals → IsStageOf theory (IsReplay theory store []) goal step true goals (Ok (underway step))
    go [] some = absurd (omega (arith, some))
    go (first ∷ others) some = refl

-- no goal is left

abbrev as_stage : Result Theorem Fault → Result Stage Fault
as_stage answer = answer >>= λ closed. Ok (proved closed)

closed-stage : (theory : Theory) (store : Store) (goal : Goal) (step : Step) (theorem : Theorem) → IsProof theory store goal step.justification (Ok theorem)
    → Then (IsReplay theory store [] step.justification) (λ found. Is (closing_outcome theory goal found >>= λ closed. Ok (proved closed))) (Ok (proved theorem))
closed-stage theory store goal step theorem (goes_on found replayed is) =
    goes_on found replayed (ap as_stage is)
closed-stage theory store goal step theorem (stops fault replayed is) = cc

refused-stage : (theory : Theory) (store : Store) (goal : Goal) (step : Step) (fault : Fault) → IsProof theory store goal step.justification (Err fault)
    → Then (IsReplay theory store [] step.justification) (λ found. Is (closing_outcome theory goal found >>= λ closed. Ok (proved closed))) (Err fault)
refused-stage theory store goal step fault (goes_on found replayed is) =
    goes_on found replayed (ap as_stage is)
refused-stage theory store goal step fault (stops other replayed is) =
    let one : fault ≡ other = cc in
    stops other replayed (ap (λ (f : Fault). Err f) one)

none-left : (theory : Theory) (store : Store) (goal : Goal) (step : Step) (answer : Result Stage Fault) → step.goals ≡ [] → is_within_depth step.justification ≡ true
    → Then (IsReplay theory store [] step.justification) (λ found. Is (closing_outcome theory goal found >>= λ closed. Ok (proved closed))) answer
    → IsStage theory (IsReplay theory store []) goal step answer
none-left theory store goal step answer none within proof =
    subst (λ fits. IsStageOf theory (IsReplay theory store []) goal step fits step.goals answer) (sym within)
    (subst (λ (goals : List Goal). IsStageOf theory (IsReplay theory store []) goal step true goals answer) (sym none) proof)

-- a refined proof is too deep

too-deep : (theory : Theory) (store : Store) (goal : Goal) (step : Step) → IsTooDeep step.justification → IsStage theory (IsReplay theory store []) goal step (Err TooLarge)
too-deep theory store goal step deep =
    subst (λ fits. IsStageOf theory (IsReplay theory store []) goal step fits step.goals (Err TooLarge)) (sym deep) refl

-- ---- the whole

-- the refined proof is refused
pub is_refused : (theory : Theory) (store : Store) (refinement : Step) (old : Stack) (fault : Fault) → Refines (focus_outcome old.proof) refinement (Err fault)
    → IsExpandedBy theory store refinement old old (Err fault)
is_refused theory store refinement old fault (inl memory) = (inl memory, refl)
is_refused theory store refinement old fault (inr (inl none)) = (inr (inl none), refl)
is_refused theory store refinement old fault (inr (inr deep)) =
    let fails = too-deep theory store deep.focus.proof.goal (expanded deep.focus refinement) deep.deep in (
      inr (inr (record {
        focus = deep.focus;
        found = deep.is;
        fails =
            stops fault (subst (λ (f : Fault). IsStage theory (IsReplay theory store []) deep.focus.proof.goal (expanded deep.focus refinement) (Err f))
            (sym deep.large) fails) refl;
      })),
      refl,
    )

reached : (theory : Theory) (store : Store) (focus : Focus) (refinement : Step) (stage : Stage) → IsStage theory (IsReplay theory store []) focus.proof.goal (expanded focus refinement) (Ok stage)
    → IsExpanded theory (IsReplay theory store []) focus refinement (Ok (advanced focus.proof stage))
reached theory store focus refinement stage is = goes_on stage is refl

-- goals are left open
pub proceeds : (theory : Theory) (store : Store) (refinement : Step) (attempt : Attempt) (new : Stack) (step : GoalState) (result : Result Expansion Fault) → 0 < length step.goals.items
    → Refines (focus_outcome (attempt_of attempt).proof) refinement (Ok step) → Reaches (attempt_of attempt) new (underway (state_of step)) result
    → IsExpandedBy theory store refinement (attempt_of attempt) new result
proceeds theory store refinement attempt new step (Ok expansion) some refines reaches =
    let focus = refines.0 in
    let open_stage = stays-open theory store focus.proof.goal (state_of step) (some-open step.goals.items some) refines.3 in
    let stage : IsStage theory (IsReplay theory store []) focus.proof.goal (expanded focus refinement) (Ok (underway (state_of step))) =
    subst (λ (s : Step). IsStage theory (IsReplay theory store []) focus.proof.goal s (Ok (underway (state_of step)))) refines.2 open_stage in
    record {
      focus = focus;
      found = refines.1;
      proof = advanced focus.proof (underway (state_of step));
      expanded = reached theory store focus refinement (underway (state_of step)) stage;
      changed = reaches.0 focus.proof (focus-proof (attempt_of attempt).proof focus refines.1);
      tells = reaches.1;
    }
proceeds theory store refinement attempt new step (Err fault) some refines reaches = (inl reaches.0, reaches.1)

no-goals : (goals : List code_goal.Goal) → length goals ≡ 0 → goals_of goals ≡ []
no-goals [] none = refl
no-goals (goal ∷ goals) none = cc

-- no goal is left
pub closes_goal : (theory : Theory) (store : Store) (refinement : Step) (attempt : Attempt) (new : Stack) (step : GoalState) (result : Result Expansion Fault) → length step.goals.items ≡ 0
    → Refines (focus_outcome (attempt_of attempt).proof) refinement (Ok step) → Finishes theory store (goal_of attempt.goal) (grown_tree step.just) (attempt_of attempt) new result
    → IsExpandedBy theory store refinement (attempt_of attempt) new result
closes_goal theory store refinement attempt new step (Ok expansion) none refines finishes =
    let focus = refines.0 in
    let theorem = finishes.0 in
    let goal = focus-goal attempt focus refines.1 in
    let proof : IsProof theory store focus.proof.goal (grown_tree step.just) (Ok theorem) = subst (λ (g : Goal). IsProof theory store g (grown_tree step.just) (Ok theorem)) (sym goal) finishes.1 in
    let closed = none-left theory store focus.proof.goal (state_of step) (Ok (proved theorem)) (no-goals step.goals.items none) refines.3
    (closed-stage theory store focus.proof.goal (state_of step) theorem proof) in
    let stage : IsStage theory (IsReplay theory store []) focus.proof.goal (expanded focus refinement) (Ok (proved theorem)) =
    subst (λ (s : Step). IsStage theory (IsReplay theory store []) focus.proof.goal s (Ok (proved theorem))) refines.2 closed in
    record {
      focus = focus;
      found = refines.1;
      proof = advanced focus.proof (proved theorem);
      expanded = reached theory store focus refinement (proved theorem) stage;
      changed = finishes.2 focus.proof (focus-proof (attempt_of attempt).proof focus refines.1);
      tells = finishes.3;
    }
closes_goal theory store refinement attempt new step (Err fault) none refines (inl memory, kept) = (inl memory, kept)
closes_goal theory store refinement attempt new step (Err fault) none refines (inr fails, kept) =
    let focus = refines.0 in
    let goal = focus-goal attempt focus refines.1 in
    let proof : IsProof theory store focus.proof.goal (grown_tree step.just) (Err fault) = subst (λ (g : Goal). IsProof theory store g (grown_tree step.just) (Err fault)) (sym goal) fails in
    let closed = none-left theory store focus.proof.goal (state_of step) (Err fault) (no-goals step.goals.items none) refines.3
    (refused-stage theory store focus.proof.goal (state_of step) fault proof) in
    let stage : IsStage theory (IsReplay theory store []) focus.proof.goal (expanded focus refinement) (Err fault) =
    subst (λ (s : Step). IsStage theory (IsReplay theory store []) focus.proof.goal s (Err fault)) refines.2 closed in
    (inr (inr (record { focus = focus; found = refines.1; fails = stops fault stage refl })), kept)
