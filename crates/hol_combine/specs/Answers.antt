-- What the answers of the code stand for.
use Rattle.std.specs.Prelude.{◌≡◌, ◌⊎◌, ℕ, List, map, true, false, Some, None, Result, Ok, Err}
use Rattle.std.proofs.Common.{Vec, Global}
use Rattle.hol_model.specs.declared.fault.Fault.{Fault}
use Rattle.hol_model.specs.declared.fault.Fault.TheVariants.{Memory, TooLarge, LengthMismatch}
use Rattle.hol_model.specs.Terms.NamedTerm.{NamedTerm}
use Rattle.hol_model.specs.Logic.Theory.{Theory}
use Rattle.hol_model.specs.Goals.Goals.{Goal}
use Rattle.hol_model.specs.Goals.ValidSteps.{Step}
use Rattle.hol_model.specs.Goals.Justifications.{Justification}
use Rattle.hol_model.specs.Goals.Splicing.{splice, portion_of, goals_of_steps}
use Rattle.hol_model.specs.Goals.Replays.{Store, is_within_depth}
use Rattle.hol_model.specs.Refining.HostFunctions.{Host, HostConversions}
use Rattle.hol_model.specs.Refining.Combinators.{Tactic, Tactics, leaf, host_tac, orelse, repeat, Link, Stage, at, assigned, paired, on_all, Runs, RunsOn, RunsEach}
use Rattle.hol_tactic_exprs.specs.Expressions.{leaf_of, tactic_of, tactics_of, link_of, links_of}
use Rattle.hol_tactic_exprs.specs.declared.leaf.Leaf.{Leaf}
use Rattle.hol_tactic_exprs.specs.declared.tac.Tac.{Tac}
use Rattle.hol_tactic_exprs.specs.declared.tac.Link as code_link
use Rattle.hol_just.specs.Steps.{goal_of, goals_of, step_of}
use Rattle.hol_just.specs.declared.goal.Goal as code_goal
use Rattle.hol_just.specs.declared.goal.Step as code
use Rattle.hol_host.specs.Host.{HostRefiners, host_of}

abbrev pub answer_of : Result code.Step Fault → Result Step Fault
answer_of (Ok step) = Ok (step_of step)
answer_of (Err fault) = Err fault

abbrev pub answers_of : Result (Vec code.Step Global) Fault → Result (List Step) Fault
answers_of (Ok steps) = Ok (map step_of steps.items)
answers_of (Err fault) = Err fault

-- a step with this justification, its subgoals refined by the steps
abbrev pub put_together : Justification → List Step → Step
put_together justification steps = record { goals = goals_of_steps steps; justification = splice justification (map portion_of steps) }

-- that step, where its justification is not too deep
abbrev pub AnswersSpliced : Justification → List Step → Result Step Fault → Type 0
AnswersSpliced justification steps (Ok made) = (made ≡ put_together justification steps) × (is_within_depth made.justification ≡ true)
AnswersSpliced justification steps (Err fault) = (fault ≡ Memory) ⊎ ((fault ≡ TooLarge) × (is_within_depth (put_together justification steps).justification ≡ false))

-- ---- what a list of refiners answers

-- what the refiners that a link assigns to the subgoals answer
pub data RunsLink (theory : Theory) (host : Host) : Stage → Link → List Goal → Result (List Step) Fault → Stage → Type 0 where
  none_assigned : {stage : Stage} {l : Link} {goals : List Goal} → assigned l goals ≡ None → RunsLink theory host stage l goals (Err LengthMismatch) stage
  runs_assigned : {before after : Stage} {l : Link} {goals : List Goal} {tasks : List (Tactic × Goal)} {answer : Result (List Step) Fault} → assigned l goals ≡ Some tasks
      → RunsEach theory host before tasks answer after → RunsLink theory host before l goals answer after

-- what the refiners answer, each for the goal at its place
pub record RunsPaired (theory : Theory) (host : Host) (before : Stage) (ts : Tactics) (goals : List Goal) (answer : Result (List Step) Fault) (after : Stage) : Type 0 where
  pub tasks : List (Tactic × Goal)
  pub pairs : paired ts goals ≡ Some tasks
  pub runs : RunsEach theory host before tasks answer after

-- whatever refiner was refused so in the last place of an ORELSE, with these behind it the ORELSE answers this
pub record GoesOnAfter (theory : Theory) (host : Host) (mid : Stage) (fault : Fault) (ts : Tactics) (goal : Goal) (answer : Result Step Fault) (after : Stage) : Type 0 where
  pub answers : (before : Stage) (t : Tactic) → Runs theory host before t goal (Err fault) mid → Runs theory host before (orelse t ts) goal answer after

-- ---- the same of values of the code: a host's refiners and conversions, the store, and the steps that are left, before and after

abbrev pub Refines : HostRefiners → HostConversions → Theory → Store → ℕ → Tac NamedTerm → code_goal.Goal → Result code.Step Fault → Store → ℕ → Type 0
Refines refiners conversions theory before steps tac goal result after left =
    Runs theory (host_of refiners conversions) (at before steps) (tactic_of tac) (goal_of goal) (answer_of result) (at after left)

abbrev pub LeafRefines : HostRefiners → HostConversions → Theory → Store → ℕ → Leaf NamedTerm → code_goal.Goal → Result code.Step Fault → Store → ℕ → Type 0
LeafRefines refiners conversions theory before steps l goal result after left =
    Runs theory (host_of refiners conversions) (at before steps) (leaf (leaf_of l)) (goal_of goal) (answer_of result) (at after left)

abbrev pub HostRefines : HostRefiners → HostConversions → Theory → Store → ℕ → List ℕ → code_goal.Goal → Result code.Step Fault → Store → ℕ → Type 0
HostRefines refiners conversions theory before steps name goal result after left =
    Runs theory (host_of refiners conversions) (at before steps) (host_tac name) (goal_of goal) (answer_of result) (at after left)

abbrev pub Repeats : HostRefiners → HostConversions → Theory → Store → ℕ → Tac NamedTerm → code_goal.Goal → Result code.Step Fault → Store → ℕ → Type 0
Repeats refiners conversions theory before steps again goal result after left =
    Runs theory (host_of refiners conversions) (at before steps) (repeat (tactic_of again)) (goal_of goal) (answer_of result) (at after left)

-- behind a refiner that was refused so
abbrev pub GoesOn : HostRefiners → HostConversions → Theory → Store → ℕ → Fault → List (Tac NamedTerm) → code_goal.Goal → Result code.Step Fault → Store → ℕ → Type 0
GoesOn refiners conversions theory before steps fault rest goal result after left =
    GoesOnAfter theory (host_of refiners conversions) (at before steps) fault (tactics_of rest) (goal_of goal) (answer_of result) (at after left)

abbrev pub Chains : HostRefiners → HostConversions → Theory → Store → ℕ → code.Step → List (code_link.Link NamedTerm) → Result code.Step Fault → Store → ℕ → Type 0
Chains refiners conversions theory before steps step links result after left =
    RunsOn theory (host_of refiners conversions) (at before steps) (step_of step) (links_of links) (answer_of result) (at after left)

abbrev pub LinkRefines : HostRefiners → HostConversions → Theory → Store → ℕ → code_link.Link NamedTerm → List code_goal.Goal → Result (Vec code.Step Global) Fault → Store → ℕ → Type 0
LinkRefines refiners conversions theory before steps l goals result after left =
    RunsLink theory (host_of refiners conversions) (at before steps) (link_of l) (goals_of goals) (answers_of result) (at after left)

abbrev pub AllRefine : HostRefiners → HostConversions → Theory → Store → ℕ → Tac NamedTerm → List code_goal.Goal → Result (Vec code.Step Global) Fault → Store → ℕ → Type 0
AllRefine refiners conversions theory before steps tac goals result after left =
    RunsEach theory (host_of refiners conversions) (at before steps) (on_all (tactic_of tac) (goals_of goals)) (answers_of result) (at after left)

abbrev pub EachRefines : HostRefiners → HostConversions → Theory → Store → ℕ → List (Tac NamedTerm) → List code_goal.Goal → Result (Vec code.Step Global) Fault → Store → ℕ → Type 0
EachRefines refiners conversions theory before steps tacs goals result after left =
    RunsPaired theory (host_of refiners conversions) (at before steps) (tactics_of tacs) (goals_of goals) (answers_of result) (at after left)
