use Rattle.std.proofs.Common.{string_bytes}
use Rattle.hol_syntax.specs.Scope.{scope_of}
use Rattle.hol_script_manager.proofs.GoalTexts.{further_line}
use Rattle.hol_script_manager.proofs.goal_texts.push_goals.Goals as goal

pub loop-goal-preserved : goal.loop-goal-preserved
loop-goal-preserved c =
    further_line (scope_of c.args.scope.now) c.args.goals.now c.loop-goal.goal-index c.goal-item.result (string_bytes c.args.out.now) (string_bytes c.loop-goal.out) (string_bytes c.push_goal.new.out)
    c.loop-goal-test.true c.goal-item.is c.loop-goal.invariant c.in_ok-push_goal.ensures.ok
