-- The proof of a goal under way, and what can be taken back (Edinburgh LCF's goals, HOL Light's `g`, `e`, `b`, `r`).
use Rattle.std.specs.Prelude.{ℕ, zero, suc, ◌-◌, nat_lt, if◌then◌else◌, Bool, true, false, List, [], ◌∷◌, ◌++◌, length, map, take, Option, Some, None, Result, Ok, Err}
use Rattle.hol_model.specs.declared.fault.Fault.{Fault}
use Rattle.hol_model.specs.declared.fault.Fault.TheVariants.{TooLarge, NotBool, NoGoal, GoalsRemain, NothingToUndo, InvalidStep}
use Rattle.hol_model.specs.declared.limits.TheConstants.{KEPT_EXPANSIONS_LIMIT}
use Rattle.hol_model.specs.Terms.NamedTerm.{NamedTerm, equation, is_within_limits}
use Rattle.hol_model.specs.Logic.Theory.{Theory}
use Rattle.hol_model.specs.Kernel.Outcome.{unless, refused}
use Rattle.hol_model.specs.Kernel.Theorem.{Theorem}
use Rattle.hol_model.specs.Kernel.Rules.{first_unknown, is_formula, refl_outcome, eq_mp_outcome}
use Rattle.hol_model.specs.Texts.Reading.{◌>>=◌}
use Rattle.hol_model.specs.Goals.Goals.{Goal}
use Rattle.hol_model.specs.Goals.Justifications.{Justification, sub}
use Rattle.hol_model.specs.Goals.ValidSteps.{Step}
use Rattle.hol_model.specs.Goals.Splicing.{replace_subs, spliced}
use Rattle.hol_model.specs.Kernel.Answers.{Is, Then}
use Rattle.hol_model.specs.Goals.Achieving.{achieves}
use Rattle.hol_model.specs.Goals.Replays.{is_within_depth}

-- ---- states

-- how far a proof has come: the step from its goal to the goals that are open, or the theorem of the goal
pub data Stage : Type 0 where
  underway : Step → Stage
  proved : Theorem → Stage

abbrev pub open_goals : Stage → List Goal
open_goals (underway step) = step.goals
open_goals (proved theorem) = []

-- the goal that was set, how far its proof has come, and the stages before, the newest first
pub record Proof : Type 0 where
  pub goal : Goal
  pub stage : Stage
  pub kept : List Stage

-- the step that leaves a goal as it is
abbrev pub untouched : Goal → Step
untouched goal = record { goals = goal ∷ []; justification = sub 0 }

-- the proof of a goal that nothing was done to
abbrev pub begun : Goal → Proof
begun goal = record { goal = goal; stage = underway (untouched goal); kept = [] }

-- the proof at a further stage; the stage before is kept, and the oldest forgotten where they are too many
abbrev pub advanced : Proof → Stage → Proof
advanced proof stage = record { goal = proof.goal; stage = stage; kept = take KEPT_EXPANSIONS_LIMIT (proof.stage ∷ proof.kept) }

-- ---- changes

-- a term as a goal without assumptions
abbrev pub goal_of : NamedTerm → Goal
goal_of term = record { assumptions = []; target = term }

-- `set`: a formula that is known, whose equation with itself is within the limits
abbrev pub set_outcome : Theory → NamedTerm → Result Proof Fault
set_outcome theory term =
    unless (is_formula term) NotBool
    (refused (first_unknown theory term)
    (unless (is_within_limits (equation term term)) TooLarge
    (Ok (begun (goal_of term)))))

abbrev pub restored : Goal → List Stage → Result Proof Fault
restored goal [] = Err NothingToUndo
restored goal (stage ∷ kept) = Ok (record { goal = goal; stage = stage; kept = kept })

-- `back`: the last change is taken back
abbrev pub back_outcome : Option Proof → Result Proof Fault
back_outcome None = Err NoGoal
back_outcome (Some proof) = restored proof.goal proof.kept

-- the first goal behind the others
abbrev pub rotated_goals : List Goal → List Goal
rotated_goals [] = []
rotated_goals (goal ∷ goals) = goals ++ goal ∷ []

-- the number that a subgoal has then, where there are so many: a number past them stays
abbrev pub rotated_number : ℕ → ℕ → ℕ
rotated_number goals zero = goals - 1
rotated_number goals (suc i) = if nat_lt (suc i) goals then i else suc i

abbrev pub rotated_once : Step → Step
rotated_once step = record {
  goals = rotated_goals step.goals;
  justification = replace_subs (λ i. sub (rotated_number (length step.goals) i)) step.justification;
}

-- the first goal moved to the end, so many times
abbrev pub rotated : ℕ → Step → Step
rotated zero step = step
rotated (suc n) step = rotated n (rotated_once step)

abbrev pub rotated_stage : Proof → Stage → ℕ → Result Proof Fault
rotated_stage proof (underway step) n = Ok (advanced proof (underway (rotated n step)))
rotated_stage proof (proved theorem) n = Err NoGoal

-- `rotate`
abbrev pub rotate_outcome : Option Proof → ℕ → Result Proof Fault
rotate_outcome None n = Err NoGoal
rotate_outcome (Some proof) n = rotated_stage proof proof.stage n

abbrev pub stage_theorem : Stage → Result Theorem Fault
stage_theorem (underway step) = Err GoalsRemain
stage_theorem (proved theorem) = Ok theorem

-- `top_thm`: the theorem of the goal, once no goal is open
abbrev pub top_outcome : Option Proof → Result Theorem Fault
top_outcome None = Err NoGoal
top_outcome (Some proof) = stage_theorem proof.stage

-- `expand`

-- a proof under way, at its first open goal
pub record Focus : Type 0 where
  pub proof : Proof
  pub step : Step
  pub goal : Goal
  pub others : List Goal

abbrev pub step_focus : Proof → Step → List Goal → Result Focus Fault
step_focus proof step [] = Err NoGoal
step_focus proof step (goal ∷ others) = Ok (record { proof = proof; step = step; goal = goal; others = others })

abbrev pub stage_focus : Proof → Stage → Result Focus Fault
stage_focus proof (underway step) = step_focus proof step step.goals
stage_focus proof (proved theorem) = Err NoGoal

abbrev pub focus_outcome : Option Proof → Result Focus Fault
focus_outcome None = Err NoGoal
focus_outcome (Some proof) = stage_focus proof proof.stage

-- the first goal refined: its subgoals stand before the other goals
abbrev pub expanded : Focus → Step → Step
expanded focus refinement = spliced focus.step (refinement ∷ map untouched focus.others)

-- a replayed theorem that achieves the goal, with the goal's own term: by EQ_MP with REFL of it
abbrev pub closing_outcome : Theory → Goal → Theorem → Result Theorem Fault
closing_outcome theory goal theorem = unless (achieves goal theorem) InvalidStep (refl_outcome theory goal.target >>= λ same. eq_mp_outcome theory same theorem)

abbrev pub IsStageOf : Theory → (Justification → Result Theorem Fault → Type 0) → Goal → Step → Bool → List Goal → Result Stage Fault → Type 0
IsStageOf theory replays goal step false goals = Is (Err TooLarge)
IsStageOf theory replays goal step true (first ∷ others) = Is (Ok (underway step))
IsStageOf theory replays goal step true [] =
    Then (replays step.justification) (λ theorem. Is (closing_outcome theory goal theorem >>= λ closed. Ok (proved closed)))

-- a justification that is not too deep leaves its goals open; without goals it is replayed as a whole
abbrev pub IsStage : Theory → (Justification → Result Theorem Fault → Type 0) → Goal → Step → Result Stage Fault → Type 0
IsStage theory replays goal step = IsStageOf theory replays goal step (is_within_depth step.justification) step.goals

-- `expand`, once the first goal is refined
abbrev pub IsExpanded : Theory → (Justification → Result Theorem Fault → Type 0) → Focus → Step → Result Proof Fault → Type 0
IsExpanded theory replays focus refinement =
    Then (IsStage theory replays focus.proof.goal (expanded focus refinement)) (λ stage. Is (Ok (advanced focus.proof stage)))

-- what a refiner makes of a goal: a step, the lemmas with those that were proved on the way, and how many steps it leaves
pub record Refinement : Type 0 where
  pub step : Step
  pub lemmas : List Theorem
  pub left : ℕ

-- a proof one step further, the lemmas, and how many steps are left
pub record Expansion : Type 0 where
  pub proof : Proof
  pub lemmas : List Theorem
  pub left : ℕ

-- what may come of `expand`, by what the refiner may make of the first goal, and what a replay over the lemmas may answer
abbrev pub MayExpand : Theory → (Goal → Result Refinement Fault → Type 0) → (List Theorem → Justification → Result Theorem Fault → Type 0) → Option Proof → Result Expansion Fault → Type 0
MayExpand theory refines replays found =
    Then (Is (focus_outcome found)) (λ focus.
    Then (refines focus.goal) (λ refinement.
    Then (IsExpanded theory (replays refinement.lemmas) focus refinement.step) (λ proof.
    Is (Ok (record { proof = proof; lemmas = refinement.lemmas; left = refinement.left })))))

-- ---- the stack

-- the proof under way, if a goal was set, and the proof as it was before the last change, where that can be undone
pub record Stack : Type 0 where
  pub proof : Option Proof
  pub before : Option Proof

-- no goal was set
abbrev pub empty_stack : Stack
empty_stack = record { proof = None; before = None }

-- the stack after `set`, which forgets what was there
abbrev pub set_stack : Stack → Proof → Stack
set_stack stack proof = record { proof = Some proof; before = None }

-- the stack after `expand`, `rotate` or `back`
abbrev pub changed_stack : Stack → Proof → Stack
changed_stack stack proof = record { proof = Some proof; before = stack.proof }

abbrev pub reverted_to : Stack → Option Proof → Stack
reverted_to stack None = stack
reverted_to stack (Some proof) = record { proof = Some proof; before = None }

-- `revert`: the last change is undone, where it was `expand`, `rotate` or `back`
abbrev pub reverted : Stack → Stack
reverted stack = reverted_to stack stack.before

-- the goals that are open, none where no goal is set
abbrev pub goals_of_proof : Option Proof → List Goal
goals_of_proof None = []
goals_of_proof (Some proof) = open_goals proof.stage
