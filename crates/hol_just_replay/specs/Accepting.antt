-- Subgoals supposed under one more hypothesis, and the test of a step by replays over them.
use Rattle.std.specs.Prelude.{◌≡◌, ◌⊎◌, List, [], ◌∷◌, ◌++◌, map, Bool, true, false, ◌&&◌, Option, Some, Result, Ok, Err}
use Rattle.std.specs.List.{list_all}
use Rattle.hol_model.specs.declared.fault.Fault.{Fault}
use Rattle.hol_model.specs.declared.fault.Fault.TheVariants.{Memory, TooLarge, InvalidStep}
use Rattle.hol_model.specs.Terms.NamedTerm.{NamedTerm}
use Rattle.hol_model.specs.Terms.Nameless.{Nameless, image}
use Rattle.hol_model.specs.Logic.Theory.{Theory}
use Rattle.hol_model.specs.Kernel.Theorem.{Theorem}
use Rattle.hol_model.specs.Logic.Logic.{false_term}
use Rattle.hol_model.specs.Goals.Goals.{Sequent, Goal}
use Rattle.hol_model.specs.Derived.DerivedRules.{is_roomy, terms_of_theorem}
use Rattle.hol_model.specs.Derived.Inference.{require, is_known_formula}
use Rattle.hol_model.specs.Goals.Justifications.{NamedSequents, sequent_of}
use Rattle.hol_model.specs.Goals.ValidSteps.{Step, supposed, PassesReplay}
use Rattle.hol_model.specs.Goals.Replays.{AreKnownGoals, terms_of_goals, has_room}
use Rattle.hol_journal.specs.Journal.{Journal, Recorded}
use Rattle.hol_journal.specs.Growth.{IsGrown, IsHeld}
use Rattle.hol_equal.specs.Inferred.{IsDrawn}
use Rattle.hol_prelude_derivations.specs.Derivations.{AreMade}
use Rattle.hol_just_replay.specs.Room.{IsNotLarge, are_roomy}

-- ---- goals of known terms, as a test

abbrev pub are_known_formulas : Theory → List NamedTerm → Bool
are_known_formulas theory terms = list_all (λ term. is_known_formula theory (image term)) terms

abbrev pub is_known_goal : Theory → Goal → Bool
is_known_goal theory goal = is_known_formula theory (image goal.target) && are_known_formulas theory goal.assumptions

abbrev pub are_known_goals : Theory → List Goal → Bool
are_known_goals theory goals = list_all (λ goal. is_known_goal theory goal) goals

-- ---- subgoals that are supposed

-- `F`, from one formula
abbrev pub falsity_from : Nameless → Sequent
falsity_from extra = record { hypotheses = extra ∷ []; conclusion = false_term }

-- a theorem's sequent under further assumptions, where these are known
abbrev pub with_assumptions : Theory → List Nameless → Nameless → List NamedTerm → Option Sequent
with_assumptions theory hypotheses conclusion assumptions =
    require (are_known_formulas theory assumptions) (Some (record { hypotheses = hypotheses ++ map image assumptions; conclusion = conclusion }))

-- a goal's sequent under hypotheses that give `F`, where the goal is known
abbrev pub supposed_from : Theory → List Nameless → Goal → Option Sequent
supposed_from theory hypotheses goal =
    require (is_known_goal theory goal) (Some (record { hypotheses = hypotheses ++ map image goal.assumptions; conclusion = image goal.target }))

-- each of the theorems has the sequent of a goal
abbrev pub AreSupposed : Theory → List Nameless → List Goal → List Recorded → Type 0
AreSupposed theory hypotheses [] [] = Unit {0}
AreSupposed theory hypotheses (goal ∷ goals) (made ∷ all) = IsDrawn (supposed_from theory hypotheses goal) (Ok made.theorem) × AreSupposed theory hypotheses goals all
AreSupposed theory hypotheses _ _ = ⊥

-- there is no memory, or a term is too large, or a term is not known
abbrev pub IsUnsupposed : Bool → Fault → Type 0
IsUnsupposed known fault = ((fault ≡ InvalidStep) × (known ≡ false)) ⊎ ((fault ≡ Memory) ⊎ (fault ≡ TooLarge))

-- the terms of a theorem that says `F`, and of a goal, leave room
pub record HasGoalRoom (falsity : Theorem) (goal : Goal) : Type 0 where
  pub falsity_roomy : are_roomy (terms_of_theorem falsity) ≡ true
  pub goal_roomy : are_roomy (image goal.target ∷ map image goal.assumptions) ≡ true

-- a theorem under some assumptions, where others are left: what comes of these comes of all
pub record IsAssuming (old now : Journal) (hypotheses : List Nameless) (conclusion : Nameless) (all left : List NamedTerm) (made : Recorded) : Type 0 where
  pub grown : IsGrown old now
  pub theory : now.theory ≡ old.theory
  pub held : IsHeld now made
  pub leads : (result : Result Theorem Fault) → IsDrawn (with_assumptions old.theory (map image made.theorem.hypotheses) (image made.theorem.conclusion) left) result
      → IsDrawn (with_assumptions old.theory hypotheses conclusion all) result
  pub room : are_roomy (conclusion ∷ hypotheses) ≡ true → are_roomy (map image all) ≡ true → (are_roomy (terms_of_theorem made.theorem) ≡ true) × (are_roomy (map image left) ≡ true)

-- theorems for some goals, where others are left
pub record IsSupposing (old now : Journal) (hypotheses : List Nameless) (all left : List Goal) (made : List Recorded) : Type 0 where
  pub are_made : AreMade now made
  pub grown : IsGrown old now
  pub theory : now.theory ≡ old.theory
  pub known : are_known_goals old.theory all ≡ are_known_goals old.theory left
  pub room : are_roomy (terms_of_goals all) ≡ true → are_roomy (terms_of_goals left) ≡ true
  pub leads : (others : List Recorded) → AreSupposed old.theory hypotheses left others → AreSupposed old.theory hypotheses all (made ++ others)

-- ---- steps that pass

-- the step's subgoals are of known formulas, and it makes the goal under the hypothesis under which they are supposed
pub record PassesUnder (theory : Theory) (store : NamedSequents) (extra : Nameless) (goal : Goal) (step : Step) : Type 0 where
  pub known : AreKnownGoals theory step.goals
  pub passes : PassesReplay theory store extra goal step

-- the sequent that the step makes under one more hypothesis, where its subgoals are known
abbrev pub sequent_under : Theory → NamedSequents → Nameless → Step → Option Sequent
sequent_under theory store extra step =
    require (are_known_goals theory step.goals) (sequent_of theory store (map (supposed extra) step.goals) step.justification)

-- the goal with further assumptions
abbrev pub goal_under : List NamedTerm → Goal → Goal
goal_under extra goal = record { assumptions = extra ++ goal.assumptions; target = goal.target }

-- what holds of the one formula from which a theorem says `F`
abbrev pub UnderFormula : Theorem → (Nameless → Type 0) → Type 0
UnderFormula falsity holds = (extra : Nameless) → IsDrawn (Some (falsity_from extra)) (Ok falsity) → holds extra

-- the formula, the step's subgoals, and the replay over these under the formula leave room
pub record HasRoomUnder (theory : Theory) (store : NamedSequents) (extra : Nameless) (step : Step) : Type 0 where
  pub extra_roomy : is_roomy extra ≡ true
  pub goals_roomy : are_roomy (terms_of_goals step.goals) ≡ true
  pub replay_roomy : has_room theory store (map (supposed extra) step.goals) step.justification ≡ true

-- the step's theorem under the formula; too large only where there is no room
pub record IsReplayedUnder (theory : Theory) (store : NamedSequents) (step : Step) (result : Result Theorem Fault) (extra : Nameless) : Type 0 where
  pub drawn : IsDrawn (sequent_under theory store extra step) result
  pub fits : HasRoomUnder theory store extra step → IsNotLarge result

-- whether the step passes under the formula; or there is no memory, or no room
abbrev pub AnswersUnder : {A : Type 0} → Theory → NamedSequents → Goal → Step → Result A Fault → Nameless → Type 0
AnswersUnder theory store goal step (Ok x) extra = PassesUnder theory store extra goal step
AnswersUnder theory store goal step (Err fault) extra =
    ((fault ≡ InvalidStep) × (PassesUnder theory store extra goal step → ⊥)) ⊎ ((fault ≡ Memory) ⊎ ((fault ≡ TooLarge) × (HasRoomUnder theory store extra step → ⊥)))
