use Rattle.std.proofs.Common.{◌≡◌, true, take}
use Rattle.std.specs.List.{list_all}
use Rattle.hol_script_manager.specs.GoalTexts.{is_well_formed}
use Rattle.hol_script_manager.proofs.goal_texts.goals_are_well_formed.Given as goal

abbrev pub invariant-loop-goal : goal.invariant-loop-goal
invariant-loop-goal l = list_all is_well_formed (take l.goal-index l.goals) ≡ true
