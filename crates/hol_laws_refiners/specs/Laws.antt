-- The statements of the laws on conversions and refiner expressions.
use Rattle.std.specs.Prelude.{◌≡◌, ℕ, ◌<◌, ◌≤◌, Some, Result, Ok, Err, IfOk}
use Rattle.hol_model.specs.declared.fault.Fault.{Fault}
use Rattle.hol_model.specs.declared.fault.Fault.TheVariants.{StepLimit}
use Rattle.hol_model.specs.Terms.NamedTerm.{NamedTerm}
use Rattle.hol_model.specs.Terms.Nameless.{image}
use Rattle.hol_model.specs.Logic.Theory.{Theory, IsLegal}
use Rattle.hol_model.specs.Kernel.Theorem.{Theorem}
use Rattle.hol_model.specs.Kernel.Rules.{dest_equation}
use Rattle.hol_model.specs.Goals.Goals.{Goal}
use Rattle.hol_model.specs.Goals.ValidSteps.{Step}
use Rattle.hol_model.specs.Goals.Replays.{Store, IsProvedOver, IsStoreOver, IsKnownGoal}
use Rattle.hol_model.specs.Refining.HostFunctions.{Host, HostConversions}
use Rattle.hol_model.specs.Refining.Conversions.{Conversion, Converts}
use Rattle.hol_model.specs.Refining.Refiners.{EquatesTarget}
use Rattle.hol_model.specs.Goals.GoodSteps.{IsGoodStep}
use Rattle.hol_model.specs.Refining.RefinerConditions.{HasLogic, HasKnownWitnesses}
use Rattle.hol_model.specs.Refining.Combinators.{Tactic, Stage, IsLater, Runs}

-- ---- steps

-- where a conversion is refused for want of steps, none is left
abbrev pub StopsAtEnd : {A : Type 0} → Result A Fault → ℕ → Type 0
StopsAtEnd answer left = answer ≡ Err StepLimit → left ≡ 0

-- what is answered has cost a step
abbrev pub CostsStep : {A : Type 0} → Result A Fault → ℕ → ℕ → Type 0
CostsStep answer steps left = IfOk answer (λ x. left < steps)

-- a conversion spends no more steps than there are, one at least where it answers, and is refused for want of them only where
-- none is left
pub record ConversionSpends (theory : Theory) (store : Store) (hosts : HostConversions) : Type 0 where
  pub spends : (depth steps left : ℕ) (c : Conversion) (t : NamedTerm) (answer : Result Theorem Fault) → Converts theory store hosts depth steps c t answer left → left ≤ steps
  pub costs : (depth steps left : ℕ) (c : Conversion) (t : NamedTerm) (answer : Result Theorem Fault) → Converts theory store hosts depth steps c t answer left → CostsStep answer steps left
  pub stops : (depth steps left : ℕ) (c : Conversion) (t : NamedTerm) (answer : Result Theorem Fault) → Converts theory store hosts depth steps c t answer left → StopsAtEnd answer left

abbrev pub ConversionsSpend : HostConversions → Type 0
ConversionsSpend hosts = (theory : Theory) (store : Store) → ConversionSpends theory store hosts

-- so does a refiner, which leaves further lemmas alone
pub record RefinerSpends (theory : Theory) (host : Host) : Type 0 where
  pub spends : (before after : Stage) (t : Tactic) (goal : Goal) (answer : Result Step Fault) → Runs theory host before t goal answer after → IsLater theory before after
  pub costs : (before after : Stage) (t : Tactic) (goal : Goal) (answer : Result Step Fault) → Runs theory host before t goal answer after → CostsStep answer before.steps after.steps
  pub stops : (before after : Stage) (t : Tactic) (goal : Goal) (answer : Result Step Fault) → Runs theory host before t goal answer after → StopsAtEnd answer after.steps

abbrev pub RefinersSpend : Host → Type 0
RefinersSpend host = (theory : Theory) → RefinerSpends theory host

-- ---- equations

-- the theorem says that the term equals something, up to the names of bound variables
pub record IsEquationOf (t : NamedTerm) (theorem : Theorem) : Type 0 where
  pub sides : NamedTerm × NamedTerm
  pub is_equation : dest_equation theorem.conclusion ≡ Some sides
  pub same_left : image sides.0 ≡ image t

-- what a conversion answers on a term is an equation of the term
abbrev pub ConversionsAnswerEquations : HostConversions → Type 0
ConversionsAnswerEquations hosts =
    (theory : Theory) (store : Store) (depth steps left : ℕ) (c : Conversion) (t : NamedTerm) (theorem : Theorem)
    → Converts theory store hosts depth steps c t (Ok theorem) left → IsEquationOf t theorem

-- an equation of a known goal's target, proved over the theory, is an equation of formulas
abbrev pub EquationsOfTargets : Type 0
EquationsOfTargets =
    (theory : Theory) (goal : Goal) (theorem : Theorem) → IsLegal theory → IsKnownGoal theory goal → IsProvedOver theory theorem
    → (equation : IsEquationOf goal.target theorem) → EquatesTarget goal equation.sides.1 theorem

-- ---- validity

-- what a refiner answers for a known goal is a valid step, over the store that it leaves, whatever a host's functions answer
abbrev pub RefinersAnswerValid : Host → Type 0
RefinersAnswerValid host =
    (theory : Theory) (before after : Stage) (t : Tactic) (goal : Goal) (step : Step)
    → HasLogic theory → IsStoreOver theory before.store → HasKnownWitnesses theory t → IsKnownGoal theory goal
    → Runs theory host before t goal (Ok step) after → IsGoodStep theory after.store goal step
