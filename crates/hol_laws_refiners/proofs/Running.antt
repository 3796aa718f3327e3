-- What a refiner answers is a valid step, where the refiners without parts answer such.
use Rattle.std.proofs.Common.{◌≡◌, List, [], ◌∷◌, length, Result, Ok, Err, Option, Some, None, true, refl, sym, ap, subst}
use Rattle.hol_model.specs.declared.fault.Fault.{Fault}
use Rattle.hol_model.specs.Terms.NamedTerm.{NamedTerm}
use Rattle.hol_model.specs.Logic.Theory.{Theory}
use Rattle.hol_model.specs.Kernel.Theorem.{Theorem}
use Rattle.hol_model.specs.Goals.Goals.{Goal}
use Rattle.hol_model.specs.Goals.ValidSteps.{Step}
use Rattle.hol_model.specs.Goals.Splicing.{spliced}
use Rattle.hol_laws_steps.proofs.Validity.{replays-show-valid}
use Rattle.hol_model.specs.Goals.Replays.{Store, sequents_in, with_lemma, IsStoreOver, IsProvedOver, IsKnownGoal, AreKnownGoals}
use Rattle.hol_model.specs.Refining.HostFunctions.{Host, AnswersHostStep}
use Rattle.hol_model.specs.Refining.Refiners.{Leaf, AnswersTable, IsStep, EquatesTarget, converted, proved_by_lemma, AnswersTautology}
use Rattle.hol_model.specs.Refining.Combinators.{Tactic, Tactics, Link, Links, leaf, host_tac, chain, orelse, repeat, try, no_more, more, then_all, then_each, on_all, paired, paired_before}
use Rattle.hol_model.specs.Refining.Combinators.{assigned, defined_as, with_step, Stage, IsLater, Runs, RunsOn, RunsEach, no_step_is_left, leaf_refines, leaf_is_refused, conversion_is_refused}
use Rattle.hol_model.specs.Refining.Combinators.{conversion_is_not_assumed, conversion_refines, taut_is_refused, taut_refines, host_is_unknown, host_fails, host_refines, first_is_refused}
use Rattle.hol_model.specs.Refining.Combinators.{first_goes_on, first_answers, first_is_not_caught, last_is_refused, first_is_caught, repeat_is_too_deep, runs_as_defined, finds_no_memory, ends}
use Rattle.hol_model.specs.Refining.Combinators.{lengths_differ, next_is_refused, splice_is_too_deep, next_goes_on, goes_on_without_memory, none_is_left, one_is_refused, one_is_done}
use Rattle.hol_model.specs.Refining.Combinators.{each_finds_no_memory}
use Rattle.hol_model.specs.Goals.Achieving.{are_assumed}
use Rattle.hol_model.specs.Goals.GoodSteps.{IsGoodStep}
use Rattle.hol_model.specs.Refining.RefinerConditions.{HasKnownWitness, HasKnownWitnesses, HasKnownWitnessesInLink, HasLogic, HaveKnownWitnesses, HaveKnownWitnessesInLinks}
use Rattle.hol_laws_refiners.proofs.Later.{runs-later, runs_each-later}
use Rattle.hol_laws_refiners.proofs.GoodSteps.{good-later, store-later, AreGood, good-spliced}

-- the refiners without parts answer good steps
pub record LeavesAreGood (theory : Theory) : Type 0 where
  pub of_table : (store : Store) (l : Leaf) (goal : Goal) (step : Step) → IsStoreOver theory store → HasKnownWitness theory l → IsKnownGoal theory goal
      → AnswersTable theory store l goal (Ok step) → IsGoodStep theory store goal step
  pub of_conversion : (store : Store) (goal : Goal) (right : NamedTerm) (theorem : Theorem) (step : Step) → IsKnownGoal theory goal
      → are_assumed theorem.hypotheses goal ≡ true → IsProvedOver theory theorem → EquatesTarget goal right theorem
      → IsStep (converted (length store.lemmas) goal right) step → IsGoodStep theory (with_lemma store theorem) goal step
  pub of_tautology : (store : Store) (goal : Goal) (theorem : Theorem) (step : Step) → AnswersTautology theory goal.target (Ok theorem)
      → IsStep (proved_by_lemma (length store.lemmas)) step → IsGoodStep theory (with_lemma store theorem) goal step

-- ---- which refiner runs on which goal

abbrev pub AreKnownTasks : Theory → List (Tactic × Goal) → Type 0
AreKnownTasks theory [] = Unit {0}
AreKnownTasks theory (task ∷ tasks) = HasKnownWitnesses theory task.0 × IsKnownGoal theory task.1 × AreKnownTasks theory tasks

abbrev pub goals_of : List (Tactic × Goal) → List Goal
goals_of [] = []
goals_of (task ∷ tasks) = task.1 ∷ goals_of tasks

-- the tasks are for these goals, and known
record AreTasksFor (theory : Theory) (goals : List Goal) (tasks : List (Tactic × Goal)) : Type 0 where
  same : goals_of tasks ≡ goals
  known : AreKnownTasks theory tasks

abbrev TasksFor : Theory → List Goal → Option (List (Tactic × Goal)) → Type 0
TasksFor theory goals None = Unit {0}
TasksFor theory goals (Some tasks) = AreTasksFor theory goals tasks

on_all-for : (theory : Theory) (t : Tactic) (goals : List Goal) → HasKnownWitnesses theory t → AreKnownGoals theory goals → AreTasksFor theory goals (on_all t goals)
on_all-for theory t [] h k = record { same = refl; known = tt }
on_all-for theory t (goal ∷ goals) h k =
    let rest = on_all-for theory t goals h k.1 in
    record { same = ap (λ others. goal ∷ others) rest.same; known = (h, k.0, rest.known) }

paired-before : (theory : Theory) (t : Tactic) (goal : Goal) (goals : List Goal) (tasks : Option (List (Tactic × Goal))) → HasKnownWitnesses theory t
    → IsKnownGoal theory goal → TasksFor theory goals tasks
    → TasksFor theory (goal ∷ goals) (paired_before t goal tasks)
paired-before theory t goal goals None h k rest = tt
paired-before theory t goal goals (Some tasks) h k rest = record { same = ap (λ others. goal ∷ others) rest.same; known = (h, k, rest.known) }

paired-for : (theory : Theory) (ts : Tactics) (goals : List Goal) → HaveKnownWitnesses theory ts → AreKnownGoals theory goals → TasksFor theory goals (paired ts goals)
paired-for theory no_more [] h k = record { same = refl; known = tt }
paired-for theory no_more (goal ∷ goals) h k = tt
paired-for theory (more t ts) [] h k = tt
paired-for theory (more t ts) (goal ∷ goals) h k = paired-before theory t goal goals (paired ts goals) h.0 k.0 (paired-for theory ts goals h.1 k.1)

assigned-for : (theory : Theory) (l : Link) (goals : List Goal) → HasKnownWitnessesInLink theory l → AreKnownGoals theory goals → TasksFor theory goals (assigned l goals)
assigned-for theory (then_all t) goals h k = on_all-for theory t goals h k
assigned-for theory (then_each ts) [] h k = record { same = refl; known = tt }
assigned-for theory (then_each ts) (goal ∷ goals) h k = paired-for theory ts (goal ∷ goals) h k

tasks-for : (theory : Theory) (l : Link) (goals : List Goal) (tasks : List (Tactic × Goal)) → HasKnownWitnessesInLink theory l → AreKnownGoals theory goals
    → assigned l goals ≡ Some tasks → AreTasksFor theory goals tasks
tasks-for theory l goals tasks h k is = subst (TasksFor theory goals) is (assigned-for theory l goals h k)

-- ---- the refiners that stand for others

abbrev KnownIn : Theory → Option Tactic → Type 0
KnownIn theory None = Unit {0}
KnownIn theory (Some t) = HasKnownWitnesses theory t

defined-known : (theory : Theory) (t : Tactic) → HasKnownWitnesses theory t → KnownIn theory (defined_as t)
defined-known theory (leaf l) h = tt
defined-known theory (host_tac name) h = tt
defined-known theory (chain t links) h = tt
defined-known theory (orelse t ts) h = tt
defined-known theory (repeat t) h = ((h, (h, tt)), (tt, tt))
defined-known theory (try t) h = (h, (tt, tt))

definition-known : (theory : Theory) (t u : Tactic) → defined_as t ≡ Some u → HasKnownWitnesses theory t → HasKnownWitnesses theory u
definition-known theory t u is h = subst (KnownIn theory) is (defined-known theory t h)

-- ---- runs

module _ (theory : Theory) (host : Host) (logic : HasLogic theory) (leaves : LeavesAreGood theory) where
  abbrev GoodAnswer : Store → Goal → Result Step Fault → Type 0
  GoodAnswer store goal (Ok step) = IsGoodStep theory store goal step
  GoodAnswer store goal (Err fault) = Unit {0}

  abbrev GoodAnswers : Store → List (Tactic × Goal) → Result (List Step) Fault → Type 0
  GoodAnswers store tasks (Ok steps) = AreGood theory store (goals_of tasks) steps
  GoodAnswers store tasks (Err fault) = Unit {0}

  table-good : (store : Store) (l : Leaf) (goal : Goal) (answer : Result Step Fault) → IsStoreOver theory store → HasKnownWitness theory l → IsKnownGoal theory goal
      → AnswersTable theory store l goal answer → GoodAnswer store goal answer
  table-good store l goal (Ok step) over h k is = leaves.of_table store l goal step over h k is
  table-good store l goal (Err fault) over h k is = tt

  host-good : (store : Store) (goal : Goal) (answered : Step) (answer : Result Step Fault) → AnswersHostStep theory store goal answered answer → GoodAnswer store goal answer
  host-good store goal answered (Ok step) answers =
      let good : IsGoodStep theory store goal answered = record { valid = replays-show-valid theory (sequents_in store) goal answered answers.0.passes; known = answers.0.known } in
      subst (IsGoodStep theory store goal) (sym answers.1) good
  host-good store goal answered (Err fault) answers = tt

  -- a good step before others
  in-front : (mid after : Stage) (t : Tactic) (goal : Goal) (tasks : List (Tactic × Goal)) (step : Step) (others answer : Result (List Step) Fault)
      → IsLater theory mid after → answer ≡ with_step step others
      → IsGoodStep theory mid.store goal step → GoodAnswers after.store tasks others → GoodAnswers after.store ((t, goal) ∷ tasks) answer
  in-front mid after t goal tasks step (Ok steps) answer later is good rest =
      subst (GoodAnswers after.store ((t, goal) ∷ tasks)) (sym is) (good-later theory logic mid after goal step later good, rest)
  in-front mid after t goal tasks step (Err fault) answer later is good rest = subst (GoodAnswers after.store ((t, goal) ∷ tasks)) (sym is) tt

  -- a good step, its subgoals refined by good ones
  refined : (before mid : Stage) (goal : Goal) (step : Step) (tasks : List (Tactic × Goal)) (steps : List Step) → IsLater theory before mid → goals_of tasks ≡ step.goals
      → IsGoodStep theory before.store goal step
      → AreGood theory mid.store (goals_of tasks) steps → IsGoodStep theory mid.store goal (spliced step steps)
  refined before mid goal step tasks steps later same good each =
      good-spliced theory mid.store goal step steps (good-later theory logic before mid goal step later good) (subst (λ (goals : List Goal). AreGood theory mid.store goals steps) same each)

  mutual
    pub runs-good : {before after : Stage} {t : Tactic} {goal : Goal} {answer : Result Step Fault} → Runs theory host before t goal answer after
        → IsStoreOver theory before.store → HasKnownWitnesses theory t → IsKnownGoal theory goal → GoodAnswer after.store goal answer
    runs-good (no_step_is_left spends) over h k = tt
    runs-good (leaf_refines {store} {l} {goal} {answer} listed is) over h k = table-good store l goal answer over h k is
    runs-good (leaf_is_refused is) over h k = tt
    runs-good (conversion_is_refused by r) over h k = tt
    runs-good (conversion_is_not_assumed by r foreign) over h k = tt
    runs-good (conversion_refines {store} {goal} {theorem} {sides} {step} by r assumed proved dest equates is) over h k =
        leaves.of_conversion store goal sides.1 theorem step k assumed proved equates is
    runs-good (taut_is_refused is) over h k = tt
    runs-good (taut_refines {store} {goal} {theorem} {step} answers proved is) over h k = leaves.of_tautology store goal theorem step answers is
    runs-good (host_is_unknown lacks) over h k = tt
    runs-good (host_fails is fails) over h k = tt
    runs-good (host_refines {store} {goal} {answer} answered is says answers) over h k = host-good store goal answered answer answers
    runs-good (first_is_refused r) over h k = tt
    runs-good (first_goes_on {before} {mid} {goal} {step} r s) over h k =
        runs_on-good s goal (store-later theory before mid (runs-later theory host r) over) h.1 (runs-good r over h.0 k)
    runs-good (first_answers r) over h k = runs-good r over h.0 k
    runs-good (first_is_not_caught r passes) over h k = tt
    runs-good (last_is_refused r) over h k = tt
    runs-good (first_is_caught {before} {mid} r caught s) over h k = runs-good s (store-later theory before mid (runs-later theory host r) over) h.1 k
    runs-good (repeat_is_too_deep r deep) over h k = tt
    runs-good (runs_as_defined {t} {u} is r) over h k = runs-good r over (definition-known theory t u is h) k
    runs-good (finds_no_memory later) over h k = tt

    pub runs_on-good : {before after : Stage} {step : Step} {links : Links} {answer : Result Step Fault} → RunsOn theory host before step links answer after
        → (goal : Goal) → IsStoreOver theory before.store → HaveKnownWitnessesInLinks theory links → IsGoodStep theory before.store goal step
        → GoodAnswer after.store goal answer
    runs_on-good ends goal over h good = good
    runs_on-good (lengths_differ differ) goal over h good = tt
    runs_on-good (next_is_refused is r) goal over h good = tt
    runs_on-good (splice_is_too_deep is r deep) goal over h good = tt
    runs_on-good (next_goes_on {before} {mid} {step} {l} {tasks} {steps} is r fits s) goal over h good =
        let later = runs_each-later theory host r in
        let for = tasks-for theory l step.goals tasks h.0 good.known is in
        runs_on-good s goal (store-later theory before mid later over) h.1 (refined before mid goal step tasks steps later for.same good (runs_each-good r over for.known))
    runs_on-good (goes_on_without_memory later) goal over h good = tt

    pub runs_each-good : {before after : Stage} {tasks : List (Tactic × Goal)} {answer : Result (List Step) Fault} → RunsEach theory host before tasks answer after
        → IsStoreOver theory before.store → AreKnownTasks theory tasks → GoodAnswers after.store tasks answer
    runs_each-good none_is_left over known = tt
    runs_each-good (one_is_refused r) over known = tt
    runs_each-good (one_is_done {before} {mid} {after} {t} {goal} {tasks} {step} {others} {answer} r s is) over known =
        in-front mid after t goal tasks step others answer (runs_each-later theory host s) is (runs-good r over known.0 known.1)
        (runs_each-good s (store-later theory before mid (runs-later theory host r) over) known.2)
    runs_each-good (each_finds_no_memory later) over known = tt
