-- Refiner expressions (Edinburgh LCF's tactics and tacticals): what each may answer for a goal, with the steps that it spends
-- and the lemmas that it leaves.
use Rattle.std.specs.Prelude.{◌≡◌, ℕ, suc, ◌≤◌, List, [], ◌∷◌, ◌++◌, length, map, Bool, true, false, Contains, Option, Some, None, Result, Ok, Err}
use Rattle.hol_model.specs.declared.fault.Fault.{Fault}
use Rattle.hol_model.specs.declared.fault.Fault.TheVariants.{Memory, TooLarge, RefineFails, LengthMismatch, StepLimit, UnknownName}
use Rattle.hol_model.specs.Terms.NamedTerm.{NamedTerm}
use Rattle.hol_model.specs.Logic.Theory.{Theory}
use Rattle.hol_model.specs.Logic.Derivable.{IsMember}
use Rattle.hol_model.specs.Kernel.Theorem.{Theorem}
use Rattle.hol_model.specs.Kernel.Rules.{dest_equation}
use Rattle.hol_model.specs.Goals.Goals.{Goal}
use Rattle.hol_model.specs.Goals.Justifications.{sub}
use Rattle.hol_model.specs.Goals.ValidSteps.{Step}
use Rattle.hol_model.specs.Goals.Splicing.{spliced}
use Rattle.hol_model.specs.Goals.Replays.{Store, with_lemma, IsProvedOver, is_within_depth}
use Rattle.hol_model.specs.Refining.HostFunctions.{Host, AnswersHostStep}
use Rattle.hol_model.specs.Refining.Conversions.{Conversion, Converts, is_caught}
use Rattle.hol_model.specs.Goals.Achieving.{are_assumed}
use Rattle.hol_model.specs.Refining.Refiners.{Leaf, all_tac, taut_tac, is_in_table, AnswersTable, IsStep, GoesBy, IsRefusedBefore, EquatesTarget, converted, proved_by_lemma, AnswersTautology}

mutual
  pub data Tactic : Type 0 where
    leaf : Leaf → Tactic
    -- a host's
    host_tac : List ℕ → Tactic
    -- t THEN .. THENL [..] ..
    chain : Tactic → Links → Tactic
    -- t ORELSE .. ORELSE ..
    orelse : Tactic → Tactics → Tactic
    repeat : Tactic → Tactic
    try : Tactic → Tactic

  pub data Tactics : Type 0 where
    no_more : Tactics
    more : Tactic → Tactics → Tactics

  -- one refiner for all subgoals, or a list of one for each
  pub data Link : Type 0 where
    then_all : Tactic → Link
    then_each : Tactics → Link

  pub data Links : Type 0 where
    no_link : Links
    link : Link → Links → Links

-- ---- which refiner runs on which subgoal

abbrev pub on_all : Tactic → List Goal → List (Tactic × Goal)
on_all t goals = map (λ goal. (t, goal)) goals

-- a pair in front, where there are pairs
abbrev pub paired_before : Tactic → Goal → Option (List (Tactic × Goal)) → Option (List (Tactic × Goal))
paired_before t goal None = None
paired_before t goal (Some pairs) = Some ((t, goal) ∷ pairs)

-- the first refiner with the first subgoal, and so on; none where there are more of one than of the other
abbrev pub paired : Tactics → List Goal → Option (List (Tactic × Goal))
paired no_more [] = Some []
paired no_more (goal ∷ goals) = None
paired (more t ts) [] = None
paired (more t ts) (goal ∷ goals) = paired_before t goal (paired ts goals)

-- where there is no subgoal, a list of any length will do
abbrev pub assigned : Link → List Goal → Option (List (Tactic × Goal))
assigned (then_all t) goals = Some (on_all t goals)
assigned (then_each ts) [] = Some []
assigned (then_each ts) (goal ∷ goals) = paired ts (goal ∷ goals)

-- ---- the refiners that stand for others

abbrev pub one_more : Tactic → Tactics
one_more t = more t no_more

abbrev pub one_link : Link → Links
one_link first = link first no_link

abbrev pub defined_as : Tactic → Option Tactic
defined_as (repeat t) = Some (orelse (chain t (one_link (then_all (repeat t)))) (one_more (leaf all_tac)))
defined_as (try t) = Some (orelse t (one_more (leaf all_tac)))
defined_as _ = None

-- ---- what a refiner may answer

-- a step is spent before anything else
abbrev pub spends_step : Tactic → Bool
spends_step (leaf l) = true
spends_step (host_tac name) = true
spends_step _ = false

-- what changes while an expression runs: lemmas are added, and steps spent
pub record Stage : Type 0 where
  pub store : Store
  pub steps : ℕ

abbrev pub at : Store → ℕ → Stage
at store steps = record { store = store; steps = steps }

-- no more steps are left, and the store has further lemmas alone
pub record IsLater (theory : Theory) (before after : Stage) : Type 0 where
  pub steps : after.steps ≤ before.steps
  pub named : after.store.named ≡ before.store.named
  pub added : List Theorem
  pub lemmas : after.store.lemmas ≡ before.store.lemmas ++ added
  pub proved : (theorem : Theorem) → IsMember theorem added → IsProvedOver theory theorem

-- a step in front of others
abbrev pub with_step : Step → Result (List Step) Fault → Result (List Step) Fault
with_step step (Ok steps) = Ok (step ∷ steps)
with_step step (Err fault) = Err fault

-- a goal that nothing has refined yet
abbrev pub left_open : Goal → Step
left_open goal = record { goals = goal ∷ []; justification = sub 0 }

module _ (theory : Theory) (host : Host) where
  mutual
    -- From the first stage the refiner may answer this for the goal and leave the last stage, where the host has these
    -- functions.
    pub data Runs : Stage → Tactic → Goal → Result Step Fault → Stage → Type 0 where
      no_step_is_left : {store : Store} {t : Tactic} {goal : Goal} → spends_step t ≡ true → Runs (at store 0) t goal (Err StepLimit) (at store 0)
      leaf_refines : {store : Store} {left : ℕ} {l : Leaf} {goal : Goal} {answer : Result Step Fault} → is_in_table l ≡ true
          → AnswersTable theory store l goal answer → Runs (at store (suc left)) (leaf l) goal answer (at store left)
      -- by a conversion
      leaf_is_refused : {store : Store} {left : ℕ} {l : Leaf} {goal : Goal} {fault : Fault} → IsRefusedBefore store l fault
          → Runs (at store (suc left)) (leaf l) goal (Err fault) (at store left)
      conversion_is_refused : {store : Store} {steps left : ℕ} {l : Leaf} {goal : Goal} {c : Conversion} {fault : Fault} → GoesBy store l c
          → Converts theory store host.conversions 0 steps c goal.target (Err fault) left
          → Runs (at store (suc steps)) (leaf l) goal (Err fault) (at store left)
      conversion_is_not_assumed : {store : Store} {steps left : ℕ} {l : Leaf} {goal : Goal} {c : Conversion} {theorem : Theorem} → GoesBy store l c
          → Converts theory store host.conversions 0 steps c goal.target (Ok theorem) left → are_assumed theorem.hypotheses goal ≡ false
          → Runs (at store (suc steps)) (leaf l) goal (Err RefineFails) (at store left)
      conversion_refines : {store : Store} {steps left : ℕ} {l : Leaf} {goal : Goal} {c : Conversion} {theorem : Theorem} {sides : NamedTerm × NamedTerm} {step : Step}
          → GoesBy store l c → Converts theory store host.conversions 0 steps c goal.target (Ok theorem) left
          → are_assumed theorem.hypotheses goal ≡ true → IsProvedOver theory theorem → dest_equation theorem.conclusion ≡ Some sides
          → EquatesTarget goal sides.1 theorem → IsStep (converted (length store.lemmas) goal sides.1) step
          → Runs (at store (suc steps)) (leaf l) goal (Ok step) (at (with_lemma store theorem) left)
      -- TAUT_TAC
      taut_is_refused : {store : Store} {left : ℕ} {goal : Goal} {fault : Fault} → AnswersTautology theory goal.target (Err fault)
          → Runs (at store (suc left)) (leaf taut_tac) goal (Err fault) (at store left)
      taut_refines : {store : Store} {left : ℕ} {goal : Goal} {theorem : Theorem} {step : Step} → AnswersTautology theory goal.target (Ok theorem)
          → IsProvedOver theory theorem → IsStep (proved_by_lemma (length store.lemmas)) step
          → Runs (at store (suc left)) (leaf taut_tac) goal (Ok step) (at (with_lemma store theorem) left)
      -- a host's refiner
      host_is_unknown : {store : Store} {left : ℕ} {name : List ℕ} {goal : Goal} → ¬ (Contains host.refiners name)
          → Runs (at store (suc left)) (host_tac name) goal (Err UnknownName) (at store left)
      host_fails : {store : Store} {left : ℕ} {name : List ℕ} {goal : Goal} → Contains host.refiners name → host.refines name goal None
          → Runs (at store (suc left)) (host_tac name) goal (Err RefineFails) (at store left)
      host_refines : {store : Store} {left : ℕ} {name : List ℕ} {goal : Goal} {answer : Result Step Fault} (answered : Step)
          → Contains host.refiners name → host.refines name goal (Some answered) → AnswersHostStep theory store goal answered answer
          → Runs (at store (suc left)) (host_tac name) goal answer (at store left)
      -- t THEN ..
      first_is_refused : {before after : Stage} {t : Tactic} {links : Links} {goal : Goal} {fault : Fault} → Runs before t goal (Err fault) after
          → Runs before (chain t links) goal (Err fault) after
      first_goes_on : {before mid after : Stage} {t : Tactic} {links : Links} {goal : Goal} {step : Step} {answer : Result Step Fault}
          → Runs before t goal (Ok step) mid → RunsOn mid step links answer after → Runs before (chain t links) goal answer after
      -- t ORELSE ..
      first_answers : {before after : Stage} {t : Tactic} {ts : Tactics} {goal : Goal} {step : Step} → Runs before t goal (Ok step) after
          → Runs before (orelse t ts) goal (Ok step) after
      first_is_not_caught : {before after : Stage} {t : Tactic} {ts : Tactics} {goal : Goal} {fault : Fault} → Runs before t goal (Err fault) after
          → is_caught fault ≡ false → Runs before (orelse t ts) goal (Err fault) after
      last_is_refused : {before after : Stage} {t : Tactic} {goal : Goal} {fault : Fault} → Runs before t goal (Err fault) after
          → Runs before (orelse t no_more) goal (Err fault) after
      first_is_caught : {before mid after : Stage} {t u : Tactic} {ts : Tactics} {goal : Goal} {fault : Fault} {answer : Result Step Fault}
          → Runs before t goal (Err fault) mid → is_caught fault ≡ true → Runs mid (orelse u ts) goal answer after
          → Runs before (orelse t (more u ts)) goal answer after
      -- others
      -- the justification of REPEAT is too deep already, whatever refines the goals that are left
      repeat_is_too_deep : {before after : Stage} {t : Tactic} {goal : Goal} {step : Step} → RepeatsSoFar before t goal step after
          → is_within_depth step.justification ≡ false → Runs before (repeat t) goal (Err TooLarge) after
      runs_as_defined : {before after : Stage} {t u : Tactic} {goal : Goal} {answer : Result Step Fault} → defined_as t ≡ Some u
          → Runs before u goal answer after → Runs before t goal answer after
      -- any may find no memory
      finds_no_memory : {before after : Stage} {t : Tactic} {goal : Goal} → IsLater theory before after → Runs before t goal (Err Memory) after

    -- The step's subgoals are refined further, by one link after another.
    pub data RunsOn : Stage → Step → Links → Result Step Fault → Stage → Type 0 where
      ends : {stage : Stage} {step : Step} → RunsOn stage step no_link (Ok step) stage
      lengths_differ : {stage : Stage} {step : Step} {l : Link} {ls : Links} → assigned l step.goals ≡ None
          → RunsOn stage step (link l ls) (Err LengthMismatch) stage
      next_is_refused : {before after : Stage} {step : Step} {l : Link} {ls : Links} {tasks : List (Tactic × Goal)} {fault : Fault}
          → assigned l step.goals ≡ Some tasks → RunsEach before tasks (Err fault) after → RunsOn before step (link l ls) (Err fault) after
      splice_is_too_deep : {before after : Stage} {step : Step} {l : Link} {ls : Links} {tasks : List (Tactic × Goal)} {steps : List Step}
          → assigned l step.goals ≡ Some tasks → RunsEach before tasks (Ok steps) after → is_within_depth (spliced step steps).justification ≡ false
          → RunsOn before step (link l ls) (Err TooLarge) after
      next_goes_on : {before mid after : Stage} {step : Step} {l : Link} {ls : Links} {tasks : List (Tactic × Goal)} {steps : List Step} {answer : Result Step Fault}
          → assigned l step.goals ≡ Some tasks → RunsEach before tasks (Ok steps) mid → is_within_depth (spliced step steps).justification ≡ true
          → RunsOn mid (spliced step steps) ls answer after → RunsOn before step (link l ls) answer after
      goes_on_without_memory : {before after : Stage} {step : Step} {ls : Links} → IsLater theory before after
          → RunsOn before step ls (Err Memory) after

    -- Each refiner runs on its goal, one after another.
    pub data RunsEach : Stage → List (Tactic × Goal) → Result (List Step) Fault → Stage → Type 0 where
      none_is_left : {stage : Stage} → RunsEach stage [] (Ok []) stage
      one_is_refused : {before after : Stage} {t : Tactic} {goal : Goal} {tasks : List (Tactic × Goal)} {fault : Fault}
          → Runs before t goal (Err fault) after → RunsEach before ((t, goal) ∷ tasks) (Err fault) after
      one_is_done : {before mid after : Stage} {t : Tactic} {goal : Goal} {tasks : List (Tactic × Goal)} {step : Step} {others answer : Result (List Step) Fault}
          → Runs before t goal (Ok step) mid → RunsEach mid tasks others after → answer ≡ with_step step others
          → RunsEach before ((t, goal) ∷ tasks) answer after
      each_finds_no_memory : {before after : Stage} {tasks : List (Tactic × Goal)} → IsLater theory before after
          → RunsEach before tasks (Err Memory) after

    -- What REPEAT has made of the goal: the refiner has run on it, REPEAT has answered for the first of its subgoals and has come
    -- so far with the next, and the others are left.
    pub data RepeatsSoFar : Stage → Tactic → Goal → Step → Stage → Type 0 where
      has_run : {before after : Stage} {t : Tactic} {goal : Goal} {step : Step} → Runs before t goal (Ok step) after → RepeatsSoFar before t goal step after
      goes_down : {before mid later after : Stage} {t : Tactic} {goal next : Goal} {step further : Step} (firsts others : List Goal) {steps : List Step}
          → Runs before t goal (Ok step) mid → step.goals ≡ firsts ++ next ∷ others → RunsEach mid (on_all (repeat t) firsts) (Ok steps) later
          → RepeatsSoFar later t next further after → RepeatsSoFar before t goal (spliced step (steps ++ further ∷ map left_open others)) after
