-- The parts of the texts of open goals.
use Rattle.std.specs.Prelude.{ℕ, zero, suc, Bool, ◌&&◌, List, ◌++◌, codes, decimal}
use Rattle.std.specs.List.{list_all}
use Rattle.hol_model.specs.Terms.NamedTerm.{is_within_limits}
use Rattle.hol_model.specs.Terms.WellNamed.{is_well_named}
use Rattle.hol_model.specs.Texts.Reading.{Scope}
use Rattle.hol_model.specs.Texts.Texts.{text_of_goal}
use Rattle.hol_just.specs.declared.goal.Goal.{Goal}

-- how many goals are open, by their number
abbrev pub count_said : ℕ → List ℕ
count_said zero = codes "No subgoals\n"
count_said (suc zero) = codes "1 subgoal\n"
count_said (suc (suc n)) = decimal (suc (suc n)) ++ codes " subgoals\n"

-- a goal's line
abbrev pub line_of_goal : Scope → Goal → List ℕ
line_of_goal scope goal = text_of_goal scope goal.asms.items goal.concl ++ codes "\n"

-- each term of the goal is within the limits, and each name in it is of its kind
abbrev pub is_well_formed : Goal → Bool
is_well_formed goal =
    (is_within_limits goal.concl && is_well_named goal.concl)
    && (list_all is_within_limits goal.asms.items && list_all is_well_named goal.asms.items)
