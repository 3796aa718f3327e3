-- A host's functions: their names, what each may answer, and what becomes of it. They may answer anything, and equal calls may
-- answer differently.
use Rattle.std.specs.Prelude.{◌≡◌, ℕ, List, [], Option, Some, Result, Ok, Err, ◌⊎◌}
use Rattle.hol_model.specs.declared.fault.Fault.{Fault}
use Rattle.hol_model.specs.declared.fault.Fault.TheVariants.{InvalidStep}
use Rattle.hol_model.specs.Terms.NamedTerm.{NamedTerm}
use Rattle.hol_model.specs.Terms.Nameless.{image}
use Rattle.hol_model.specs.Terms.Nameless.{nameless_type}
use Rattle.hol_model.specs.Logic.Theory.{Theory}
use Rattle.hol_model.specs.Kernel.Theorem.{Theorem}
use Rattle.hol_model.specs.Logic.Derivable.{nameless_equation}
use Rattle.hol_model.specs.Goals.Goals.{Sequent, Goal}
use Rattle.hol_model.specs.Goals.Justifications.{Justification, sequent_of}
use Rattle.hol_model.specs.Goals.ValidSteps.{Step, PassesReplays}
use Rattle.hol_model.specs.Goals.Replays.{Store, sequents_in, AreKnownGoals, has_room, has_room_for_step, HasSequent, IsWant}

-- what a host's conversion answers where it does not fail: a term, and why the term that it was given equals that
pub record HostEquation : Type 0 where
  pub term : NamedTerm
  pub justification : Justification

-- the conversions of a host: their names, and what the one of a name may answer on a term, none where it fails
pub record HostConversions : Type 1 where
  pub names : List (List ℕ)
  pub converts : List ℕ → NamedTerm → Option HostEquation → Type 0

abbrev pub no_host_conversions : HostConversions
no_host_conversions = record { names = []; converts = λ name term answer. ⊥ }

-- the functions of a host: its refiners' names, what the one of a name may answer for a goal, and its conversions
pub record Host : Type 1 where
  pub refiners : List (List ℕ)
  pub refines : List ℕ → Goal → Option Step → Type 0
  pub conversions : HostConversions

-- ---- a host's conversion

-- the equation of a term and what a host's conversion answered for it, without hypotheses
abbrev pub promised : NamedTerm → HostEquation → Sequent
promised term answered =
    record { hypotheses = []; conclusion = nameless_equation (nameless_type [] (image term)) (image term) (image answered.term) }

-- replayed, the justification gives the equation
abbrev pub GivesEquation : Theory → Store → NamedTerm → HostEquation → Type 0
GivesEquation theory store term answered = sequent_of theory (sequents_in store) [] answered.justification ≡ Some (promised term answered)

-- the justification is replayed at once: its theorem, where it gives the equation, and else the refusal of the step
abbrev pub AnswersHostEquation : Theory → Store → NamedTerm → HostEquation → Result Theorem Fault → Type 0
AnswersHostEquation theory store term answered (Ok theorem) =
    GivesEquation theory store term answered × HasSequent (promised term answered) theorem
AnswersHostEquation theory store term answered (Err fault) =
    ((fault ≡ InvalidStep) × (¬ (GivesEquation theory store term answered))) ⊎ IsWant fault (has_room theory (sequents_in store) [] answered.justification)

-- ---- a host's refiner

-- the step's subgoals are of known formulas, and the step passes the replays that show it valid
pub record IsAcceptable (theory : Theory) (store : Store) (goal : Goal) (step : Step) : Type 0 where
  pub known : AreKnownGoals theory step.goals
  pub passes : PassesReplays theory (sequents_in store) goal step

-- the test of a step: accepted are exactly the steps that are acceptable
abbrev pub AnswersAccept : {A : Type 0} → Theory → Store → Goal → Step → Result A Fault → Type 0
AnswersAccept theory store goal step (Ok x) = IsAcceptable theory store goal step
AnswersAccept theory store goal step (Err fault) =
    ((fault ≡ InvalidStep) × (¬ (IsAcceptable theory store goal step))) ⊎ IsWant fault (has_room_for_step theory store step)

-- a host's step is taken as it is where it is acceptable, and else refused
abbrev pub AnswersHostStep : Theory → Store → Goal → Step → Result Step Fault → Type 0
AnswersHostStep theory store goal answered (Ok step) = IsAcceptable theory store goal answered × (step ≡ answered)
AnswersHostStep theory store goal answered (Err fault) = AnswersAccept {A = Step} theory store goal answered (Err fault)
