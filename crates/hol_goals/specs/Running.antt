-- What running an expression on the first open goal makes of a stack.
use Rattle.std.specs.Prelude.{◌≡◌, ℕ, Result, Ok, Err, IsErrOf}
use Rattle.hol_model.specs.declared.fault.Fault.{Fault}
use Rattle.hol_model.specs.declared.fault.Fault.TheVariants.{InvalidStep}
use Rattle.hol_model.specs.Terms.NamedTerm.{NamedTerm}
use Rattle.hol_model.specs.Logic.Theory.{Theory}
use Rattle.hol_model.specs.Goals.ValidSteps.{Step}
use Rattle.hol_model.specs.Goals.Replays.{Store}
use Rattle.hol_model.specs.Goals.GoodSteps.{IsGoodStep}
use Rattle.hol_model.specs.Goals.GoalStates.{Stack, Focus, focus_outcome}
use Rattle.hol_model.specs.Goals.GoalStates as states
use Rattle.hol_model.specs.Goals.StackCalls.{Expands, RefusesExpansion}
use Rattle.hol_model.specs.Refining.HostFunctions.{Host, HostConversions}
use Rattle.hol_model.specs.Refining.Combinators.{Tactic, Stage, at, Runs}
use Rattle.hol_model_sessions.specs.SessionTools.{IsStackExpansion}
use Rattle.hol_tactic_exprs.specs.Expressions.{tactic_of}
use Rattle.hol_tactic_exprs.specs.declared.tac.Tac.{Tac}
use Rattle.hol_just.specs.Steps.{step_of}
use Rattle.hol_just.specs.declared.goal.Step as code
use Rattle.hol_host.specs.Host.{HostRefiners, host_of}
use Rattle.hol_combine.specs.Answers.{answer_of}
use Rattle.hol_goals.specs.declared.expanding.Expansion.{Expansion}
use Rattle.hol_goals.specs.Expansions.{told_of}

-- the refiner runs on the goal in focus; or there is none, and nothing is spent
pub data RunsFirst (theory : Theory) (host : Host) (before : Stage) (tactic : Tactic) (found : Result Focus Fault) (answer : Result Step Fault) (after : Stage) : Type 0 where
  none_is_open : (fault : Fault) → found ≡ Err fault → answer ≡ Err fault → RunsFirst theory host before tactic found answer after
  runs_on : (focus : Focus) → found ≡ Ok focus → Runs theory host before tactic focus.goal answer after → RunsFirst theory host before tactic found answer after

abbrev pub RefinesFirst : HostRefiners → HostConversions → Theory → Store → ℕ → Tac NamedTerm → Stack → Result code.Step Fault → Store → ℕ → Type 0
RefinesFirst refiners conversions theory before steps tac stack result after left =
    RunsFirst theory (host_of refiners conversions) (at before steps) (tactic_of tac) (focus_outcome stack.proof) (answer_of result) (at after left)

-- the step is valid for the goal in focus, if one is, and its subgoals are known
abbrev pub IsGoodFirst : Theory → Store → Stack → code.Step → Type 0
IsGoodFirst theory store stack step = (focus : Focus) → focus_outcome stack.proof ≡ Ok focus → IsGoodStep theory store focus.goal (step_of step)

-- what may come of refining the first open goal of the stack by the expression
abbrev pub May : HostRefiners → HostConversions → Theory → Store → ℕ → Tac NamedTerm → Stack → Result states.Expansion Fault → Type 0
May refiners conversions theory before steps tac stack =
    IsStackExpansion theory (host_of refiners conversions) (at before steps) (tactic_of tac) stack.proof

-- an invalid step is the expression's own: the replay of a whole proof is refused for memory or room alone
abbrev pub ClosesIfValid : HostRefiners → HostConversions → Theory → Store → ℕ → Tac NamedTerm → Stack → Result Expansion Fault → Store → ℕ → Type 0
ClosesIfValid refiners conversions theory before steps tac stack result after left =
    IsErrOf result InvalidStep → RunsFirst theory (host_of refiners conversions) (at before steps) (tactic_of tac) (focus_outcome stack.proof) (Err InvalidStep) (at after left)

-- the stack is expanded so; or it is refused so, and the stack is as before
abbrev pub IsExpandedTo : HostRefiners → HostConversions → Theory → Store → ℕ → Tac NamedTerm → Stack → Stack → Result Expansion Fault → Store → ℕ → Type 0
IsExpandedTo refiners conversions theory before steps tac old new (Ok expansion) after left =
    Expands (May refiners conversions theory before steps tac old) old new after.lemmas left (told_of expansion)
IsExpandedTo refiners conversions theory before steps tac old new (Err fault) after left =
    RefusesExpansion (May refiners conversions theory before steps tac old) old new left fault
