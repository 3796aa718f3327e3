use Rattle.std.proofs.Common.{◌≡◌, refl, Ok}
use Rattle.hol_model.specs.Kernel.Theorem.{Theorem}
use Rattle.hol_model.specs.Goals.GoalStates.{top_outcome}
use Rattle.hol_model_sessions.specs.ScriptSessions.{IsProved}
use Rattle.hol_script_inference.specs.Sessions.{Goals}
use Rattle.hol_script_manager.specs.Managers.{state_of}
use Rattle.hol_script_manager.proofs.Managing.{journal_in, top_proved, no_top, shows}
use Rattle.hol_script_manager.proofs.manager.Manager.shown.Goals.{in-Ok, in-Err}
use Rattle.hol_script_manager.proofs.manager.Manager.shown.Goals as goal

pub returns-clause-ok : goal.returns-clause-ok
returns-clause-ok c =
    let manager = c.args.self.now in
    let state = state_of manager in
    let is_proved : (theorem : Theorem) → top_outcome state.proof ≡ Ok theorem → IsProved state theorem = λ theorem same.
    elim c.match-top_thm.branch [
      | in-Ok w ↦ top_proved manager w.in-Ok.theorem.now theorem c.requires c.sound.ensures (rw w.thm.ensures at w.well_formed-in-Ok.ensures)
          (w.in-Ok.ensures.made (journal_in manager) c.requires.made) w.in-Ok.ensures.outcome same
      | in-Err w ↦ no_top state.proof state w.in-Err.field-0 theorem w.in-Err.ensures.outcome same
    ] in
    shows manager c.open_goals-goals.result.now (Goals c.in_ok-text.text) c.requires c.open_goals-goals.ensures.some c.open_goals-goals.ensures.goals c.goals_are_well_formed.ensures
    is_proved c.in_ok-text.ensures.ok refl
