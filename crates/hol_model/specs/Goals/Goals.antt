-- When a sequent achieves a goal, and a step is valid for one (Edinburgh LCF's tactics).
use Rattle.std.specs.Prelude.{◌≡◌, List, [], ◌∷◌, map, Option, Some}
use Rattle.hol_model.specs.Terms.NamedTerm.{NamedTerm}
use Rattle.hol_model.specs.Terms.Nameless.{Nameless, image}
use Rattle.hol_model.specs.Logic.Derivable.{IsMember}

-- hypotheses and a conclusion
pub record Sequent : Type 0 where
  pub hypotheses : List Nameless
  pub conclusion : Nameless

-- assumptions and the term to be proved
pub record Goal : Type 0 where
  pub assumptions : List NamedTerm
  pub target : NamedTerm

-- the conclusion is the image of the goal's, and each hypothesis the image of an assumption
pub record Achieves (goal : Goal) (sequent : Sequent) : Type 0 where
  pub same_conclusion : sequent.conclusion ≡ image goal.target
  pub assumed : (term : Nameless) → IsMember term sequent.hypotheses → IsMember term (map image goal.assumptions)

-- the sequents achieve the goals, one by one
abbrev pub AchieveEach : List Goal → List Sequent → Type 0
AchieveEach [] [] = Unit {0}
AchieveEach [] (sequent ∷ sequents) = ⊥
AchieveEach (goal ∷ goals) [] = ⊥
AchieveEach (goal ∷ goals) (sequent ∷ sequents) = Achieves goal sequent × AchieveEach goals sequents

-- a sequent comes of it, and achieves the goal
pub record GivesAchieving (goal : Goal) (given : Option Sequent) : Type 0 where
  pub sequent : Sequent
  pub is_given : given ≡ Some sequent
  pub achieves : Achieves goal sequent

-- from any sequents that achieve the subgoals, the step's justification gives one that achieves the goal
abbrev pub IsValidStep : Goal → List Goal → (List Sequent → Option Sequent) → Type 0
IsValidStep goal subgoals justify = (sequents : List Sequent) → AchieveEach subgoals sequents → GivesAchieving goal (justify sequents)
