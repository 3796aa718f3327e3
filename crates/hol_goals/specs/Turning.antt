-- The steps that turn goals when they are spliced in.
use Rattle.std.specs.Prelude.{ℕ, zero, suc, ◌+◌, ◌-◌, List, [], ◌∷◌, ◌++◌, length, map, take, drop}
use Rattle.hol_model.specs.Goals.Goals.{Goal}
use Rattle.hol_model.specs.Goals.Justifications.{sub}
use Rattle.hol_model.specs.Goals.ValidSteps.{Step}
use Rattle.hol_model.specs.Goals.GoalStates.{untouched}

-- the step without goals that stands for the subgoal with this number
abbrev pub numbered : ℕ → Step
numbered number = record { goals = []; justification = sub number }

-- so many of them, one number after another
abbrev pub numbered_from : ℕ → ℕ → List Step
numbered_from number zero = []
numbered_from number (suc count) = numbered number ∷ numbered_from (suc number) count

-- of so many goals and one more, the step that stands for the last
abbrev pub last_of : ℕ → List Goal → Step
last_of n goals = record { goals = take (n + 1) goals; justification = sub n }

-- the first numbers go to the end, the others come to the front, and the last step keeps the numbers past the goals
abbrev pub turning_steps : ℕ → List Goal → List Step
turning_steps turns goals = numbered_from (length goals - turns) turns ++ map untouched (drop turns goals) ++ last_of turns goals ∷ []
