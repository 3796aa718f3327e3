-- Small runs, told step by step.
use Rattle.std.specs.Prelude.{◌≡◌, ◌⊎◌, ℕ, suc, List, [], ◌∷◌, true, false, Contains, Option, Some, Result, Ok, Err}
use Rattle.hol_model.specs.declared.fault.Fault.{Fault}
use Rattle.hol_model.specs.declared.fault.Fault.TheVariants.{Memory, TooLarge, LengthMismatch}
use Rattle.hol_model.specs.Terms.HolType.{HolType}
use Rattle.hol_model.specs.Terms.NamedTerm.{NamedTerm, variable, equation}
use Rattle.hol_model.specs.Terms.Nameless.{image}
use Rattle.hol_model.specs.Terms.Measures.{nameless_within_limits}
use Rattle.hol_model.specs.Logic.Theory.{Theory}
use Rattle.hol_model.specs.Logic.Logic.{logical_definitions}
use Rattle.hol_model.specs.Logic.NamedLogic.{Abstracted, true_term, false_term, conjunction, implication}
use Rattle.hol_model.specs.Kernel.Theorem.{Theorem}
use Rattle.hol_model.specs.Kernel.Rules.{dest_equation, is_formula, refl_outcome, trans_outcome}
use Rattle.hol_model.specs.Derived.DerivedRules.{IsConclusion}
use Rattle.hol_model.specs.Rewrites.RenamedBody.{renamed_body}
use Rattle.hol_model.specs.Goals.Goals.{Goal}
use Rattle.hol_model.specs.Goals.GoalStates.{goal_of}
use Rattle.hol_model.specs.declared.rule.Rule.TheVariants as rules
use Rattle.hol_model.specs.Goals.Justifications as tree
use Rattle.hol_model.specs.Goals.ValidSteps.{Step}
use Rattle.hol_model.specs.Goals.Replays.{Store, has_room_for_step}
use Rattle.hol_model.specs.Refining.HostFunctions.{Host, IsAcceptable, HostConversions}
use Rattle.hol_model.specs.Refining.Conversions.{Converts, rules_conv, top_depth_conv}
use Rattle.hol_model.specs.Refining.Refiners.{Leaf, all_tac, no_tac, refl_tac, conj_tac, eq_tac, table}
use Rattle.hol_model.specs.Refining.Combinators.{Tactic, leaf, host_tac, chain, one_link, one_more, then_all, then_each, Stage, at, Runs}

-- ALL_TAC THEN ALL_TAC
abbrev pub all_then_all : Tactic
all_then_all = chain (leaf all_tac) (one_link (then_all (leaf all_tac)))

-- it answers the goal itself with two steps, and nothing with one
pub record TwoSteps (theory : Theory) (host : Host) (store : Store) (term : NamedTerm) : Type 0 where
  pub suffice : (step : Step) × (step.goals ≡ goal_of term ∷ []) × Runs theory host (at store 2) all_then_all (goal_of term) (Ok step) (at store 0)
  pub are_needed : (step : Step) (after : Stage) → ¬ (Runs theory host (at store 1) all_then_all (goal_of term) (Ok step) after)

-- FIRST THENL [ONE]
abbrev pub then_one : Leaf → Leaf → Tactic
then_one first one = chain (leaf first) (one_link (then_each (one_more (leaf one))))

-- one refiner for the two subgoals of a conjunction
abbrev pub OneForTwoIsRefused : Host → Type 0
OneForTwoIsRefused host =
    (theory : Theory) (store : Store) (left : ℕ)
    → Runs theory host (at store (suc left)) (then_one conj_tac all_tac) (goal_of (conjunction true_term true_term)) (Err LengthMismatch) (at store left)

-- where no subgoal is left the list is not run
abbrev pub ListIsNotRun : Host → Type 0
ListIsNotRun host =
    (theory : Theory) (store : Store) (left : ℕ) (name : List ℕ) (ty : HolType)
    → (step : Step) × (step.goals ≡ [])
    × Runs theory host (at store (suc left)) (then_one refl_tac no_tac) (goal_of (equation (variable name ty) (variable name ty))) (Ok step) (at store left)

-- TOP_DEPTH_CONV at a variable that no rule rewrites: one step for the place, one for the end of REPEATC, one for the variable,
-- one for what stays
abbrev pub FourStepsAtLeaf : HostConversions → Type 0
FourStepsAtLeaf hosts =
    (theory : Theory) (store : Store) (depth left : ℕ) (name : List ℕ) (ty : HolType) (same joined : Theorem)
    → refl_outcome theory (variable name ty) ≡ Ok same → trans_outcome theory same same ≡ Ok joined
    → Converts theory store hosts depth (suc (suc (suc (suc left)))) (top_depth_conv (rules_conv [])) (variable name ty) (Ok joined) left

-- any formula from `F`, which is assumed
abbrev pub from_false : NamedTerm → Step
from_false term = record { goals = []; justification = tree.by_rule (rules.Contr term) (tree.part (tree.by_rule (rules.Assume false_term) tree.no_parts) tree.no_parts) }

-- a step that proves `T` from `F` is not taken
abbrev pub LiarIsRefused : Type 0
LiarIsRefused = (store : Store) → ¬ (IsAcceptable logical_definitions store (goal_of true_term) (from_false true_term))

-- a host's step that is acceptable, and the one that its function may answer, is taken, where it has room
abbrev pub HostIsHeard : Host → Type 0
HostIsHeard host =
    (theory : Theory) (store : Store) (left : ℕ) (name : List ℕ) (goal : Goal) (step : Step) (answer : Result Step Fault) (after : Stage)
    → Contains host.refiners name → ((answered : Option Step) → host.refines name goal answered → answered ≡ Some step)
    → IsAcceptable theory store goal step → has_room_for_step theory store step ≡ true
    → Runs theory host (at store (suc left)) (host_tac name) goal answer after → (answer ≡ Ok step) ⊎ (answer ≡ Err Memory)

-- EQ_TAC is refused where the second subgoal is past the limits
abbrev pub SecondIsTooLarge : Type 0
SecondIsTooLarge =
    (store : Store) (goal : Goal) (sides : NamedTerm × NamedTerm) (fresh : List ℕ) → dest_equation goal.target ≡ Some sides → is_formula sides.0 ≡ true
    → nameless_within_limits (image (implication sides.1 sides.0)) ≡ false → table store eq_tac goal fresh ≡ Err TooLarge

-- a variable that keeps its name leaves the body as it is
abbrev pub BodyIsKept : Type 0
BodyIsKept = (quantified : Abstracted) (body : NamedTerm) → IsConclusion (renamed_body quantified quantified.name) body → body ≡ quantified.body

pub record ExamplesRun (host : Host) : Type 0 where
  pub two_steps : (theory : Theory) (store : Store) (term : NamedTerm) → TwoSteps theory host store term
  pub one_for_two : OneForTwoIsRefused host
  pub not_run : ListIsNotRun host
  pub four_steps : FourStepsAtLeaf host.conversions
  pub liar : LiarIsRefused
  pub heard : HostIsHeard host
  pub too_large : SecondIsTooLarge
  pub kept : BodyIsKept
