use Rattle.std.proofs.Common.{◌≡◌, ◌++◌, take, string_bytes}
use Rattle.hol_model_sessions.specs.Replies as replies
use Rattle.hol_syntax.specs.Scope.{scope_of}
use Rattle.hol_just.specs.Steps.{goals_of}
use Rattle.hol_script_manager.proofs.goal_texts.push_goals.Given as goal

abbrev pub invariant-loop-goal : goal.invariant-loop-goal
invariant-loop-goal l = string_bytes l.out ≡ string_bytes l.fn.out ++ replies.goals_text (scope_of l.scope) (goals_of (take l.goal-index l.goals))
