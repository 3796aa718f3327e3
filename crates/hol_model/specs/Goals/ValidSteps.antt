-- Steps of a proof from the goal back, which of them are valid (Edinburgh LCF), and the replays that show it.
use Rattle.std.specs.Prelude.{◌≡◌, List, [], ◌∷◌, map, Some}
use Rattle.hol_model.specs.Terms.Nameless.{Nameless, image}
use Rattle.hol_model.specs.Logic.Theory.{Theory}
use Rattle.hol_model.specs.Logic.Derivable.{IsMember}
use Rattle.hol_model.specs.Logic.Logic.{false_term, conjunction}
use Rattle.hol_model.specs.Goals.Goals.{Sequent, Goal, IsValidStep}
use Rattle.hol_model.specs.Goals.Justifications.{Justification, NamedSequents, sequent_of}

-- subgoals, and the justification that makes the goal's sequent of theirs
pub record Step : Type 0 where
  pub goals : List Goal
  pub justification : Justification

-- whatever achieves the subgoals, the step makes of it what achieves the goal
abbrev pub IsValid : Theory → NamedSequents → Goal → Step → Type 0
IsValid theory store goal step = IsValidStep goal step.goals (λ sequents. sequent_of theory store sequents step.justification)

-- the steps are valid for the goals, one by one
abbrev pub AreValid : Theory → NamedSequents → List Goal → List Step → Type 0
AreValid theory store [] [] = Unit {0}
AreValid theory store (goal ∷ goals) (step ∷ steps) = IsValid theory store goal step × AreValid theory store goals steps
AreValid theory store _ _ = ⊥

-- replays that suppose the subgoals

-- the goal's own sequent under one more hypothesis
abbrev pub supposed : Nameless → Goal → Sequent
supposed extra goal = record { hypotheses = extra ∷ map image goal.assumptions; conclusion = image goal.target }

-- the goal's conclusion, from its assumptions and one hypothesis more
pub record AchievesUnder (extra : Nameless) (goal : Goal) (sequent : Sequent) : Type 0 where
  pub same_conclusion : sequent.conclusion ≡ image goal.target
  pub assumed : (term : Nameless) → IsMember term sequent.hypotheses → IsMember term (extra ∷ map image goal.assumptions)

-- where each subgoal is supposed under one more hypothesis, the step makes the goal under that hypothesis
pub record PassesReplay (theory : Theory) (store : NamedSequents) (extra : Nameless) (goal : Goal) (step : Step) : Type 0 where
  pub sequent : Sequent
  pub is_made : sequent_of theory store (map (supposed extra) step.goals) step.justification ≡ Some sequent
  pub achieves : AchievesUnder extra goal sequent

-- F /\ F, which is another term than F
abbrev pub false_twice : Nameless
false_twice = conjunction false_term false_term

-- the step passes under `F`, and again under `F /\ F`
pub record PassesReplays (theory : Theory) (store : NamedSequents) (goal : Goal) (step : Step) : Type 0 where
  pub once : PassesReplay theory store false_term goal step
  pub twice : PassesReplay theory store false_twice goal step
