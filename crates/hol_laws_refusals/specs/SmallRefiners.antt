-- Derivations of what a refiner expression answers in which all that it meets is small: each goal that it refines, what a refiner
-- takes beside its goal, and what a conversion meets. No limit on the depth of a justification is passed, and what a host answers
-- leaves room.
use Rattle.std.specs.Prelude.{◌≡◌, ℕ, List, [], ◌∷◌, map, true, Option, Some, None, Result}
use Rattle.std.specs.List.{list_all}
use Rattle.hol_model.specs.declared.fault.Fault.{Fault}
use Rattle.hol_model.specs.Terms.Nameless.{image}
use Rattle.hol_model.specs.Logic.Theory.{Theory}
use Rattle.hol_model.specs.Logic.NamedLogic.{Abstracted, dest_exists}
use Rattle.hol_model.specs.Kernel.Theorem.{Theorem}
use Rattle.hol_model.specs.Derived.DerivedRules.{body_with}
use Rattle.hol_model.specs.Rewrites.SmallTerms.{is_small}
use Rattle.hol_model.specs.Goals.Goals.{Goal}
use Rattle.hol_model.specs.Goals.ValidSteps.{Step}
use Rattle.hol_model.specs.Goals.Replays.{Store, has_room_for_step}
use Rattle.hol_model.specs.Refining.HostFunctions.{Host}
use Rattle.hol_model.specs.Refining.Refiners.{Leaf, exists_tac, mp_tac, choose_tac, rewrite_tac}
use Rattle.hol_model.specs.Refining.Combinators.{Tactic, Links, Stage, Runs, RunsOn, RunsEach}
use Rattle.hol_model.specs.Refining.Combinators as run
use Rattle.hol_laws_refusals.specs.SmallConversions.{IsSmallTheorem, StaysSmall}

-- the target and the assumptions of the goal are small
abbrev pub IsSmallGoal : Goal → Type 0
IsSmallGoal goal = list_all is_small (image goal.target ∷ map image goal.assumptions) ≡ true

-- so are the theorems that are stored under the names
abbrev pub IsSmallIfThere : Option Theorem → Type 0
IsSmallIfThere None = Unit {0}
IsSmallIfThere (Some theorem) = IsSmallTheorem theorem

abbrev pub AreSmallTheorems : Store → List (List ℕ) → Type 0
AreSmallTheorems store [] = Unit {0}
AreSmallTheorems store (name ∷ names) = IsSmallIfThere (store.named name) × AreSmallTheorems store names

-- what the refiner takes beside the goal is small: a theorem that becomes part of the goal, those that it rewrites by, and the
-- body of the goal with the witness
abbrev pub TakesSmall : Store → Leaf → Goal → Type 0
TakesSmall store (mp_tac name) goal = IsSmallIfThere (store.named name)
TakesSmall store (choose_tac name) goal = IsSmallIfThere (store.named name)
TakesSmall store (rewrite_tac names) goal = AreSmallTheorems store names
TakesSmall store (exists_tac witness) goal = (quantified : Abstracted) → dest_exists goal.target ≡ Some quantified → is_small (body_with quantified witness) ≡ true
TakesSmall store _ goal = Unit {0}

module _ (theory : Theory) (host : Host) where
  abbrev mutual
    -- what the refiner meets on the goal is small
    pub RunsSmall : {before after : Stage} {t : Tactic} {goal : Goal} {answer : Result Step Fault} → Runs theory host before t goal answer after → Type 0
    RunsSmall {goal = goal} (run.leaf_refines {store} {l} there answers) = IsSmallGoal goal × TakesSmall store l goal
    RunsSmall {goal = goal} (run.leaf_is_refused {store} {l} refuses) = IsSmallGoal goal × TakesSmall store l goal
    RunsSmall {goal = goal} (run.conversion_is_refused {store} by r) = IsSmallGoal goal × StaysSmall theory store host.conversions r
    RunsSmall {goal = goal} (run.conversion_is_not_assumed {store} by r foreign) = IsSmallGoal goal × StaysSmall theory store host.conversions r
    RunsSmall {goal = goal} (run.conversion_refines {store} by r assumed proved dest equates is) = IsSmallGoal goal × StaysSmall theory store host.conversions r
    -- the host's step leaves room
    RunsSmall {goal = goal} (run.host_refines {store} answered named says answers) = IsSmallGoal goal × (has_room_for_step theory store answered ≡ true)
    RunsSmall (run.first_is_refused r) = RunsSmall r
    RunsSmall (run.first_goes_on r s) = RunsSmall r × LinksRunSmall s
    RunsSmall (run.first_answers r) = RunsSmall r
    RunsSmall (run.first_is_not_caught r uncaught) = RunsSmall r
    RunsSmall (run.last_is_refused r) = RunsSmall r
    RunsSmall (run.first_is_caught r caught s) = RunsSmall r × RunsSmall s
    -- the limit on depth is passed
    RunsSmall (run.repeat_is_too_deep r deep) = ⊥
    RunsSmall (run.runs_as_defined is r) = RunsSmall r
    RunsSmall {goal = goal} _ = IsSmallGoal goal

    pub LinksRunSmall : {before after : Stage} {step : Step} {links : Links} {answer : Result Step Fault} → RunsOn theory host before step links answer after → Type 0
    LinksRunSmall (run.next_is_refused is r) = EachRunsSmall r
    LinksRunSmall (run.splice_is_too_deep is r deep) = ⊥
    LinksRunSmall (run.next_goes_on is r fits s) = EachRunsSmall r × LinksRunSmall s
    LinksRunSmall _ = Unit {0}

    pub EachRunsSmall : {before after : Stage} {tasks : List (Tactic × Goal)} {answer : Result (List Step) Fault} → RunsEach theory host before tasks answer after → Type 0
    EachRunsSmall (run.one_is_refused r) = RunsSmall r
    EachRunsSmall (run.one_is_done r s is) = RunsSmall r × EachRunsSmall s
    EachRunsSmall _ = Unit {0}
