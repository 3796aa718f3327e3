-- A step whose subgoals are refined by further steps.
use Rattle.std.specs.Prelude.{ℕ, zero, suc, ◌+◌, List, [], ◌∷◌, ◌++◌, length, map}
use Rattle.hol_model.specs.Goals.Goals.{Goal}
use Rattle.hol_model.specs.Goals.Justifications.{Justification, sub, named, lemma, by_rule, Parts, no_parts, part}
use Rattle.hol_model.specs.Goals.ValidSteps.{Step}

-- another justification in place of each subgoal
abbrev mutual
  pub replace_subs : (ℕ → Justification) → Justification → Justification
  replace_subs new (sub i) = new i
  replace_subs new (named name) = named name
  replace_subs new (lemma k) = lemma k
  replace_subs new (by_rule rule parts) = by_rule rule (replace_subs_in_parts new parts)

  pub replace_subs_in_parts : (ℕ → Justification) → Parts → Parts
  replace_subs_in_parts new no_parts = no_parts
  replace_subs_in_parts new (part first rest) = part (replace_subs new first) (replace_subs_in_parts new rest)

-- each subgoal numbered so much higher
abbrev pub shift_subs : ℕ → Justification → Justification
shift_subs by justification = replace_subs (λ i. sub (by + i)) justification

-- a justification over so many subgoals
pub record Portion : Type 0 where
  pub subgoals : ℕ
  pub justification : Justification

-- the justification with this number, its subgoals numbered after those of the justifications before
abbrev pub numbered_portion : ℕ → List Portion → ℕ → Justification
numbered_portion before [] i = sub (before + i)
numbered_portion before (portion ∷ portions) zero = shift_subs before portion.justification
numbered_portion before (portion ∷ portions) (suc i) = numbered_portion (before + portion.subgoals) portions i

-- the justification of each portion in place of the subgoal that it refines
abbrev pub splice : Justification → List Portion → Justification
splice justification portions = replace_subs (numbered_portion 0 portions) justification

abbrev pub portion_of : Step → Portion
portion_of step = record { subgoals = length step.goals; justification = step.justification }

-- the subgoals of all steps
abbrev pub goals_of_steps : List Step → List Goal
goals_of_steps [] = []
goals_of_steps (step ∷ steps) = step.goals ++ goals_of_steps steps

-- a step whose subgoals are refined by further steps, one each
abbrev pub spliced : Step → List Step → Step
spliced step steps = record { goals = goals_of_steps steps; justification = splice step.justification (map portion_of steps) }
