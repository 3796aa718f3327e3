-- What the calls on the way answer, and the store that they leave.
use Rattle.std.specs.Prelude.{◌≡◌, ◌⊎◌, ℕ, suc, List, length, true, false, Option, None, Some, Result, Ok, Err}
use Rattle.hol_model.specs.declared.fault.Fault.{Fault}
use Rattle.hol_model.specs.declared.fault.Fault.TheVariants.{Memory, RefineFails, UnknownName}
use Rattle.hol_model.specs.Terms.NamedTerm.{NamedTerm}
use Rattle.hol_model.specs.Logic.Theory.{Theory}
use Rattle.hol_model.specs.Kernel.Theorem.{Theorem}
use Rattle.hol_model.specs.Kernel.Rules.{dest_equation}
use Rattle.hol_model.specs.Goals.Goals.{Goal}
use Rattle.hol_model.specs.Goals.ValidSteps.{Step}
use Rattle.hol_model.specs.Goals.Replays.{Store, with_lemma, IsProvedOver}
use Rattle.hol_model.specs.Goals.Achieving.{are_assumed}
use Rattle.hol_model.specs.Refining.HostFunctions.{HostConversions}
use Rattle.hol_model.specs.Refining.Refiners.{Leaf, IsStep, EquatesTarget, converted, proved_by_lemma, theorems_named, AnswersAllRules, AnswersTautology}
use Rattle.hol_model.specs.Refining.Combinators.{leaf, at, Runs}
use Rattle.hol_just.specs.Steps.{goal_of}
use Rattle.hol_just.specs.declared.goal.Goal as code_goal
use Rattle.hol_just.specs.declared.goal.Step as code_step
use Rattle.hol_refine.specs.TableAnswers.{step_in}
use Rattle.hol_host.specs.Host.{HostRefiners, host_of}
use Rattle.hol_theorem_library.specs.Library.{store_in}
use Rattle.hol_theorem_library.specs.declared.library.Library.{Library}

-- why names are refused, where these are their theorems
abbrev pub IsUnnamed : Option (List Theorem) → Fault → Type 0
IsUnnamed found fault = (fault ≡ Memory) ⊎ ((fault ≡ UnknownName) × (found ≡ None))

-- the rules of the theorems of the names, in order
pub record AreNamedRules (store : Store) (names : List (List ℕ)) (rules : List Theorem) : Type 0 where
  pub found : List Theorem
  pub named : theorems_named store names ≡ Some found
  pub are_rules : AnswersAllRules found (Ok rules)

-- ---- steps by a theorem, which is the last lemma of the store that is left

-- by an equation of the goal's target
pub record IsConverted (theory : Theory) (before : Store) (goal : Goal) (theorem : Theorem) (step : Step) (after : Store) : Type 0 where
  pub assumed : are_assumed theorem.hypotheses goal ≡ true
  pub proved : IsProvedOver theory theorem
  pub sides : NamedTerm × NamedTerm
  pub is_equation : dest_equation theorem.conclusion ≡ Some sides
  pub equates : EquatesTarget goal sides.1 theorem
  pub is_step : IsStep (converted (length before.lemmas) goal sides.1) step
  pub stored : after ≡ with_lemma before theorem

-- by the goal's target itself
pub record IsProvedStep (theory : Theory) (before : Store) (theorem : Theorem) (step : Step) (after : Store) : Type 0 where
  pub proved : IsProvedOver theory theorem
  pub is_step : IsStep (proved_by_lemma (length before.lemmas)) step
  pub stored : after ≡ with_lemma before theorem

-- a refusal, which leaves the store as it is
pub record IsRefusal (before : Store) (Causes : Fault → Type 0) (fault : Fault) (after : Store) : Type 0 where
  pub cause : Causes fault
  pub stored : after ≡ before

-- there is no memory, or a hypothesis is not assumed
abbrev pub IsUnassumed : Goal → Theorem → Fault → Type 0
IsUnassumed goal theorem fault = (fault ≡ Memory) ⊎ ((fault ≡ RefineFails) × (are_assumed theorem.hypotheses goal ≡ false))

abbrev pub AnswersConverted : Theory → Store → Goal → Theorem → Result Step Fault → Store → Type 0
AnswersConverted theory before goal theorem (Ok step) after = IsConverted theory before goal theorem step after
AnswersConverted theory before goal theorem (Err fault) after = IsRefusal before (IsUnassumed goal theorem) fault after

abbrev pub AnswersProved : Theory → Store → Theorem → Result Step Fault → Store → Type 0
AnswersProved theory before theorem (Ok step) after = IsProvedStep theory before theorem step after
AnswersProved theory before theorem (Err fault) after = IsRefusal before (λ fault. fault ≡ Memory) fault after

-- TAUT_TAC: by what TAUT answers on the target
pub data AnswersTaut (theory : Theory) (before : Store) (goal : Goal) : Result Step Fault → Store → Type 0 where
  taut_refuses : {fault : Fault} {after : Store} → AnswersTautology theory goal.target (Err fault) → after ≡ before → AnswersTaut theory before goal (Err fault) after
  taut_answers : {mid : Store} {result : Result Step Fault} {after : Store} (theorem : Theorem) → AnswersTautology theory goal.target (Ok theorem) → mid ≡ before
      → AnswersProved theory mid theorem result after → AnswersTaut theory before goal result after

-- ---- what a refiner answers once its step is spent

abbrev pub RefinesOn : HostRefiners → HostConversions → Library → ℕ → Leaf → code_goal.Goal → Result code_step.Step Fault → Library → ℕ → Type 0
RefinesOn refiners conversions before steps l goal result after left =
    Runs before.recorder.theory (host_of refiners conversions) (at (store_in before) (suc steps)) (leaf l) (goal_of goal) (step_in result) (at (store_in after) left)
