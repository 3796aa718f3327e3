use Rattle.std.proofs.Common.{refl, inr}
use Rattle.hol_model.specs.declared.fault.Fault.TheVariants.{NoGoal}
use Rattle.hol_model_sessions.specs.CommandGrammar.{p_command}
use Rattle.hol_script_inference.specs.Sessions.{no_tools}
use Rattle.hol_script_manager.specs.Managers.{state_of}
use Rattle.hol_script_manager.proofs.GoalTurns.{p_refused}
use Rattle.hol_script_manager.proofs.Managing.{refuses, unset_there, set_there, p_turn}
use Rattle.hol_script_manager.proofs.manager.Manager.print.Goals as goal

pub returns-then-not-is_set : goal.returns-then-not-is_set
returns-then-not-is_set c =
    refuses (state_of c.args.self.now) (state_of c.args.self.now) p_command NoGoal refl
    (inr (p_refused no_tools (state_of c.args.self.now) (unset_there (state_of c.args.self.now).proof c.if-not-is_set.ensures)))

pub returns : goal.returns
returns c =
    let there = set_there (state_of c.args.self.now).proof c.if-not-is_set.ensures in
    p_turn c.args.self.now c.shown.result there.0 there.1 c.shown.ensures.ok c.shown.ensures.err
