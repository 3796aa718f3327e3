-- Goals stay posed as the store grows, and the subgoals of answered steps are posed in turn.
use Rattle.std.proofs.Common.{◌≡◌, ℕ, zero, suc, ◌<◌, List, [], ◌∷◌, ◌++◌, length, get_or, Option, Some, None, Result, Ok, Err, sym, subst, arith}
use Rattle.std.specs.Prelude.{IfOk}
use Rattle.hol_model.specs.declared.fault.Fault.{Fault}
use Rattle.hol_model.specs.Logic.Theory.{Theory}
use Rattle.hol_model.specs.Goals.Goals.{Goal}
use Rattle.hol_model.specs.Goals.ValidSteps.{Step}
use Rattle.hol_model.specs.Goals.Splicing.{goals_of_steps}
use Rattle.hol_model.specs.Goals.Replays.{Store, IsKnownGoal, AreKnownGoals}
use Rattle.hol_model.specs.Goals.GoodSteps.{IsGoodStep}
use Rattle.hol_model.specs.Refining.HostFunctions.{Host}
use Rattle.hol_model.specs.Refining.RefinerConditions.{HasKnownWitnesses, HaveKnownWitnesses, HasKnownWitnessesInLink, HaveKnownWitnessesInLinks}
use Rattle.hol_model.specs.Refining.Combinators.{Tactic, Tactics, Link, Links, chain, orelse, leaf, no_more, more, link, then_all, then_each, on_all, paired, paired_before}
use Rattle.hol_model.specs.Refining.Combinators.{assigned, with_step, Stage, IsLater, Runs, RunsEach, none_is_left, one_is_refused, one_is_done, each_finds_no_memory}
use Rattle.hol_laws_refiners.proofs.Later.{runs-later, runs_each-later}
use Rattle.hol_laws_refiners.proofs.GoodSteps.{store-later}
use Rattle.hol_laws_refiners.proofs.Lemmas.{refiners-answer-valid}
use Rattle.hol_model.specs.Refining.Refiners.{all_tac}
use Rattle.hol_just.specs.Steps.{goal_of, goals_of, step_of}
use Rattle.hol_just.specs.declared.goal.Goal as code_goal
use Rattle.hol_just.specs.declared.goal.Step as code_step
use Rattle.hol_combine.specs.Repeating.{Frame, begun, with_done, with_goal}
use Rattle.hol_combine.specs.Posed.{IsGrounded, IsPosed, ArePosed}
use Rattle.hol_combine.specs.Answers.{answer_of, AnswersSpliced, RunsLink, none_assigned, runs_assigned}

pub known-append : (theory : Theory) (xs ys : List Goal) → AreKnownGoals theory xs → AreKnownGoals theory ys → AreKnownGoals theory (xs ++ ys)
known-append theory [] ys h k = k
known-append theory (x ∷ xs) ys h k = (h.0, known-append theory xs ys h.1 k)

-- the witnesses of a task, and its goal
abbrev pub AreKnownTasks : Theory → List (Tactic × Goal) → Type 0
AreKnownTasks theory [] = Unit {0}
AreKnownTasks theory (task ∷ tasks) = (HasKnownWitnesses theory task.0 × IsKnownGoal theory task.1) × AreKnownTasks theory tasks

abbrev AreKnownIn : Theory → Option (List (Tactic × Goal)) → Type 0
AreKnownIn theory None = Unit {0}
AreKnownIn theory (Some tasks) = AreKnownTasks theory tasks

on_all-known : (theory : Theory) (t : Tactic) (goals : List Goal) → HasKnownWitnesses theory t → AreKnownGoals theory goals → AreKnownTasks theory (on_all t goals)
on_all-known theory t [] h k = tt
on_all-known theory t (goal ∷ goals) h k = ((h, k.0), on_all-known theory t goals h k.1)

paired-before : (theory : Theory) (t : Tactic) (goal : Goal) (tasks : Option (List (Tactic × Goal))) → HasKnownWitnesses theory t → IsKnownGoal theory goal → AreKnownIn theory tasks
    → AreKnownIn theory (paired_before t goal tasks)
paired-before theory t goal None h k rest = tt
paired-before theory t goal (Some tasks) h k rest = ((h, k), rest)

paired-known : (theory : Theory) (ts : Tactics) (goals : List Goal) → HaveKnownWitnesses theory ts → AreKnownGoals theory goals → AreKnownIn theory (paired ts goals)
paired-known theory no_more [] h k = tt
paired-known theory no_more (goal ∷ goals) h k = tt
paired-known theory (more t ts) [] h k = tt
paired-known theory (more t ts) (goal ∷ goals) h k = paired-before theory t goal (paired ts goals) h.0 k.0 (paired-known theory ts goals h.1 k.1)

assigned-known : (theory : Theory) (l : Link) (goals : List Goal) → HasKnownWitnessesInLink theory l → AreKnownGoals theory goals → AreKnownIn theory (assigned l goals)
assigned-known theory (then_all t) goals h k = on_all-known theory t goals h k
assigned-known theory (then_each ts) [] h k = tt
assigned-known theory (then_each ts) (goal ∷ goals) h k = paired-known theory ts (goal ∷ goals) h k

tasks-known : (theory : Theory) (l : Link) (goals : List Goal) (tasks : List (Tactic × Goal)) → HasKnownWitnessesInLink theory l → AreKnownGoals theory goals → assigned l goals ≡ Some tasks
    → AreKnownTasks theory tasks
tasks-known theory l goals tasks h k is = subst (AreKnownIn theory) is (assigned-known theory l goals h k)

-- a list of refiners, one for each goal
pub list-posed : (theory : Theory) {store : Store} {goals : List Goal} {l : Link} (ts : Tactics) → l ≡ then_each ts → ArePosed theory store (λ theory. HasKnownWitnessesInLink theory l) goals
    → ArePosed theory store (λ theory. HaveKnownWitnesses theory ts) goals
list-posed theory ts is posed = record { grounded = posed.grounded; witnesses = subst (λ (l : Link). HasKnownWitnessesInLink theory l) is posed.witnesses; known = posed.known }

module _ (theory : Theory) (host : Host) where
  pub grounded-later : {before after : Stage} → IsLater theory before after → IsGrounded theory before.store → IsGrounded theory after.store
  grounded-later {before} {after} later grounded = record { logic = grounded.logic; proved = store-later theory before after later grounded.proved }

  pub grounded-after : {before after : Stage} {t : Tactic} {goal : Goal} {answer : Result Step Fault} → Runs theory host before t goal answer after → IsGrounded theory before.store
      → IsGrounded theory after.store
  grounded-after r grounded = grounded-later (runs-later theory host r) grounded

  pub answers-good : {before after : Stage} {t : Tactic} {goal : Goal} {step : Step} → Runs theory host before t goal (Ok step) after → IsGrounded theory before.store → HasKnownWitnesses theory t
      → IsKnownGoal theory goal → IsGoodStep theory after.store goal step
  answers-good {before} {after} {t} {goal} {step} r grounded witnesses known =
      refiners-answer-valid host theory before after t goal step grounded.logic grounded.proved witnesses known r

  pub answer-good : {before after : Stage} {t : Tactic} {goal : Goal} (answer : Result code_step.Step Fault) → Runs theory host before t goal (answer_of answer) after
      → IsPosed theory before.store t goal → IfOk answer (λ step. IsGoodStep theory after.store goal (step_of step))
  answer-good (Ok step) r posed = answers-good r posed.grounded posed.witnesses posed.known
  answer-good (Err fault) r posed = tt

  -- ---- the subgoals of several steps

  abbrev AreKnownOf : Result (List Step) Fault → Type 0
  AreKnownOf (Ok steps) = AreKnownGoals theory (goals_of_steps steps)
  AreKnownOf (Err fault) = Unit {0}

  in-front : (step : Step) (others answer : Result (List Step) Fault) → answer ≡ with_step step others → AreKnownGoals theory step.goals → AreKnownOf others → AreKnownOf answer
  in-front step (Ok steps) answer is h k = subst AreKnownOf (sym is) (known-append theory step.goals (goals_of_steps steps) h k)
  in-front step (Err fault) answer is h k = subst AreKnownOf (sym is) tt

  each-known : {before after : Stage} {tasks : List (Tactic × Goal)} {answer : Result (List Step) Fault} → RunsEach theory host before tasks answer after → IsGrounded theory before.store
      → AreKnownTasks theory tasks → AreKnownOf answer
  each-known none_is_left grounded known = tt
  each-known (one_is_refused r) grounded known = tt
  each-known (one_is_done {step} {others} {answer} r s is) grounded known =
      in-front step others answer is (answers-good r grounded known.0.0 known.0.1).known (each-known s (grounded-after r grounded) known.1)
  each-known (each_finds_no_memory later) grounded known = tt

  -- what a link leaves
  pub link-known : {before after : Stage} {l : Link} {goals : List Goal} {steps : List Step} → RunsLink theory host before l goals (Ok steps) after → IsGrounded theory before.store
      → HasKnownWitnessesInLink theory l → AreKnownGoals theory goals → AreKnownGoals theory (goals_of_steps steps)
  link-known {l} {goals} (runs_assigned {tasks} is r) grounded witnesses known = each-known r grounded (tasks-known theory l goals tasks witnesses known is)

  pub grounded-after-link : {before after : Stage} {l : Link} {goals : List Goal} {answer : Result (List Step) Fault} → RunsLink theory host before l goals answer after
      → IsGrounded theory before.store → IsGrounded theory after.store
  grounded-after-link (none_assigned is) grounded = grounded
  grounded-after-link (runs_assigned is r) grounded = grounded-later (runs_each-later theory host r) grounded

  -- ---- one expression on one goal

  -- ALL_TAC behind what was refused
  pub stays-posed : {before after : Stage} {t u : Tactic} {goal : Goal} {answer : Result Step Fault} → Runs theory host before t goal answer after → IsPosed theory before.store u goal
      → IsPosed theory after.store (leaf all_tac) goal
  stays-posed r posed = record { grounded = grounded-after r posed.grounded; witnesses = tt; known = posed.known }

  -- what is behind the first of a chain, and of an ORELSE
  pub links-posed : {before after : Stage} {t : Tactic} {links : Links} {goal : Goal} {step : Step} → Runs theory host before t goal (Ok step) after
      → IsPosed theory before.store (chain t links) goal → ArePosed theory after.store (λ theory. HaveKnownWitnessesInLinks theory links) step.goals
  links-posed r posed = record {
    grounded = grounded-after r posed.grounded;
    witnesses = posed.witnesses.1;
    known = (answers-good r posed.grounded posed.witnesses.0 posed.known).known;
  }

  pub others-posed : {before after : Stage} {t : Tactic} {ts : Tactics} {goal : Goal} {answer : Result Step Fault} → Runs theory host before t goal answer after
      → IsPosed theory before.store (orelse t ts) goal → ArePosed theory after.store (λ theory. HaveKnownWitnesses theory ts) (goal ∷ [])
  others-posed r posed = record { grounded = grounded-after r posed.grounded; witnesses = posed.witnesses.1; known = (posed.known, tt) }

  pub further-posed : {before after : Stage} {t : Tactic} {goal : Goal} {answer : Result Step Fault} (u : Tactic) (ts : Tactics) → Runs theory host before t goal answer after
      → ArePosed theory before.store (λ theory. HaveKnownWitnesses theory (more u ts)) (goal ∷ []) → ArePosed theory after.store (λ theory. HaveKnownWitnesses theory ts) (goal ∷ [])
  further-posed u ts r posed = record { grounded = grounded-after r posed.grounded; witnesses = posed.witnesses.1; known = posed.known }

  -- ---- one link after another

  pub made-posed : {before after : Stage} {l : Link} {made : Step} {steps : List Step} (ls : Links) (step : Step) → RunsLink theory host before l step.goals (Ok steps) after
      → ArePosed theory before.store (λ theory. HaveKnownWitnessesInLinks theory (link l ls)) step.goals → AnswersSpliced step.justification steps (Ok made)
      → ArePosed theory after.store (λ theory. HaveKnownWitnessesInLinks theory ls) made.goals
  made-posed ls step r posed is = record {
    grounded = grounded-after-link r posed.grounded;
    witnesses = posed.witnesses.1;
    known = subst (λ (step : Step). AreKnownGoals theory step.goals) (sym is.0) (link-known r posed.grounded posed.witnesses.0 posed.known);
  }

  -- ---- one goal after another

  pub goals-posed : {before after : Stage} {t : Tactic} {goal : Goal} {goals : List Goal} {answer : Result Step Fault} → Runs theory host before t goal answer after
      → ArePosed theory before.store (λ theory. HasKnownWitnesses theory t) (goal ∷ goals) → ArePosed theory after.store (λ theory. HasKnownWitnesses theory t) goals
  goals-posed r posed = record { grounded = grounded-after r posed.grounded; witnesses = posed.witnesses; known = posed.known.1 }

  pub pairs-posed : {before after : Stage} {t : Tactic} {goal : Goal} {goals : List Goal} {answer : Result Step Fault} (ts : Tactics) → Runs theory host before t goal answer after
      → ArePosed theory before.store (λ theory. HaveKnownWitnesses theory (more t ts)) (goal ∷ goals) → ArePosed theory after.store (λ theory. HaveKnownWitnesses theory ts) goals
  pairs-posed ts r posed = record { grounded = grounded-after r posed.grounded; witnesses = posed.witnesses.1; known = posed.known.1 }

  -- ---- the frames of REPEAT

  -- the subgoals that are left of each frame are known
  abbrev pub AreKnownFrames : List Frame → Type 0
  AreKnownFrames [] = Unit {0}
  AreKnownFrames (frame ∷ frames) = AreKnownGoals theory frame.left × AreKnownFrames frames

  pub record FramesPosed (store : Store) (t : Tactic) (frames : List Frame) : Type 0 where
    pub grounded : IsGrounded theory store
    pub witnesses : HasKnownWitnesses theory t
    pub known : AreKnownFrames frames

  -- the next subgoal of the frame on top, and what it leaves
  pub next-posed : {store : Store} {t : Tactic} {frame : Frame} {frames : List Frame} {goal : Goal} → FramesPosed store t (with_goal goal frame ∷ frames) → IsPosed theory store t goal
  next-posed posed = record { grounded = posed.grounded; witnesses = posed.witnesses; known = posed.known.0.0 }

  pub taken-posed : {store : Store} {t : Tactic} {frame : Frame} {frames : List Frame} {goal : Goal} → FramesPosed store t (with_goal goal frame ∷ frames) → FramesPosed store t (frame ∷ frames)
  taken-posed posed = record { grounded = posed.grounded; witnesses = posed.witnesses; known = (posed.known.0.1, posed.known.1) }

  pub begun-posed : {before after : Stage} {t : Tactic} {goal : Goal} {step : Step} (above : Option ℕ) → Runs theory host before t goal (Ok step) after → IsPosed theory before.store t goal
      → FramesPosed after.store t (begun above step ∷ [])
  begun-posed above r posed = record {
    grounded = grounded-after r posed.grounded;
    witnesses = posed.witnesses;
    known = ((answers-good r posed.grounded posed.witnesses posed.known).known, tt);
  }

  pub descends-posed : {before after : Stage} {t : Tactic} {goal : Goal} {step : Step} {frames : List Frame} (above : Option ℕ)
      → Runs theory host before t goal (Ok step) after → IsPosed theory before.store t goal
      → FramesPosed before.store t frames → FramesPosed after.store t (begun above step ∷ frames)
  descends-posed above r posed frames = record {
    grounded = grounded-after r posed.grounded;
    witnesses = posed.witnesses;
    known = ((answers-good r posed.grounded posed.witnesses posed.known).known, frames.known);
  }

  pub resumes-posed : {before after : Stage} {t u : Tactic} {goal : Goal} {made : Step} {frame : Frame} {frames : List Frame} → Runs theory host before u goal (Ok made) after
      → FramesPosed before.store t (frame ∷ frames) → FramesPosed after.store t (with_done frame made ∷ frames)
  resumes-posed r posed = record { grounded = grounded-after r posed.grounded; witnesses = posed.witnesses; known = posed.known }

  pub closes-posed : {store : Store} {t : Tactic} {frame below : Frame} {frames : List Frame} (step : Step) → FramesPosed store t (frame ∷ below ∷ frames)
      → FramesPosed store t (with_done below step ∷ frames)
  closes-posed step posed = record { grounded = posed.grounded; witnesses = posed.witnesses; known = posed.known.1 }
