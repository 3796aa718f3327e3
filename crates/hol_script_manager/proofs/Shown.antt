-- What is shown of the goals of a proof is told by its text, and that none is left is said of a goal that is proved.
use Rattle.std.proofs.Common.{arith, ◌≡◌, ◌<◌, List, [], ◌∷◌, length, true, ◌&&◌, refl, sym, ap, subst, ◌∙◌, inl, inr, Some, Ok}
use Rattle.std.specs.List.{list_all}
use Rattle.hol_model.specs.Terms.HolType.{bool_type}
use Rattle.hol_model.specs.Terms.NamedTerm.{NamedTerm, is_within_limits}
use Rattle.hol_model.specs.Terms.WellNamed.{is_well_named}
use Rattle.hol_model.specs.Terms.Nameless.{image}
use Rattle.hol_model.specs.Logic.Theory.{IsKnown}
use Rattle.hol_model.specs.Logic.Derivable.{IsMember}
use Rattle.hol_model.specs.Kernel.Theorem.{Theorem}
use Rattle.hol_model.specs.Goals.Goals.{Goal}
use Rattle.hol_model.specs.Goals.Replays.{IsKnownGoal, AreKnownGoals}
use Rattle.hol_model.specs.Goals.GoalStates.{Stage, underway, proved, Proof, open_goals, stage_theorem, top_outcome}
use Rattle.hol_model.specs.Goals.GoalLaws.{IsValidStage, IsValidProof}
use Rattle.hol_model.specs.Texts.SequentTexts.{AreReadableFormulas}
use Rattle.hol_model.proofs.Tests.{first_of_both, second_of_both}
use Rattle.hol_model_sessions.specs.ScriptSessions.{State, scope_in, store_in, IsProved, IsReadableGoal, AreReadableGoals, AreShown}
use Rattle.hol_just.specs.declared.goal.Goal as code
use Rattle.hol_just.specs.Steps.{goal_of, goals_of}
use Rattle.hol_goals.specs.Stages.{HasGoals}
use Rattle.hol_script_inference.specs.Sessions.{readable}
use Rattle.hol_script_manager.specs.GoalTexts.{is_well_formed}

module _ (state : State) where
  -- the terms of a list that is known
  assumptions_readable : (terms : List NamedTerm) → ((term : NamedTerm) → IsMember term terms → IsKnown state.library.theory (image term) bool_type)
      → list_all is_within_limits terms ≡ true → list_all is_well_named terms ≡ true → AreReadableFormulas (scope_in state) terms
  assumptions_readable [] known within named = tt
  assumptions_readable (term ∷ terms) known within named = (
    readable state term (known term (inl refl)) (first_of_both (is_within_limits term) (list_all is_within_limits terms) within)
        (first_of_both (is_well_named term) (list_all is_well_named terms) named),
    assumptions_readable terms (λ other here. known other (inr here)) (second_of_both (is_within_limits term) (list_all is_within_limits terms) within)
        (second_of_both (is_well_named term) (list_all is_well_named terms) named),
  )

  goal_readable : (goal : code.Goal) → is_well_formed goal ≡ true → IsKnownGoal state.library.theory (goal_of goal) → IsReadableGoal state (goal_of goal)
  goal_readable goal formed known =
      let target = first_of_both (is_within_limits goal.concl && is_well_named goal.concl) (list_all is_within_limits goal.asms.items && list_all is_well_named goal.asms.items) formed in
      let assumptions = second_of_both (is_within_limits goal.concl && is_well_named goal.concl) (list_all is_within_limits goal.asms.items && list_all is_well_named goal.asms.items) formed in
      record {
        readable_assumptions = assumptions_readable goal.asms.items known.assumptions
            (first_of_both (list_all is_within_limits goal.asms.items) (list_all is_well_named goal.asms.items) assumptions)
            (second_of_both (list_all is_within_limits goal.asms.items) (list_all is_well_named goal.asms.items) assumptions);
        readable_target = readable state goal.concl known.target (first_of_both (is_within_limits goal.concl) (is_well_named goal.concl) target)
            (second_of_both (is_within_limits goal.concl) (is_well_named goal.concl) target);
      }

  goals_readable : (goals : List code.Goal) → list_all is_well_formed goals ≡ true → AreKnownGoals state.library.theory (goals_of goals) → AreReadableGoals state (goals_of goals)
  goals_readable [] formed known = tt
  goals_readable (goal ∷ goals) formed known = (
    goal_readable goal (first_of_both (is_well_formed goal) (list_all is_well_formed goals) formed) known.0,
    goals_readable goals (second_of_both (is_well_formed goal) (list_all is_well_formed goals) formed) known.1,
  )

  -- goals of which one at least is open
  some_shown : (goals : List Goal) → 0 < length goals → AreReadableGoals state goals → AreShown state goals
  some_shown [] never are = absurd (omega (arith, never))
  some_shown (goal ∷ goals) some are = are

  pub goals_shown : (proof : Proof) (goals : List code.Goal) → state.proof ≡ Some proof → IsValidProof state.library.theory (store_in state) proof → HasGoals proof.stage
      → goals_of goals ≡ open_goals proof.stage → list_all is_well_formed goals ≡ true → ((theorem : Theorem) → top_outcome state.proof ≡ Ok theorem → IsProved state theorem)
      → AreShown state (open_goals proof.stage)
  goals_shown proof goals here valid has same formed is_proved = go proof.stage refl valid.stage has same
    where
      go : (stage : Stage) → proof.stage ≡ stage → IsValidStage state.library.theory (store_in state) proof.goal stage → HasGoals stage → goals_of goals ≡ open_goals stage
          → AreShown state (open_goals stage)
      go (underway step) at good some told =
          some_shown step.goals some
          (subst (λ (l : List Goal). AreReadableGoals state l) told (goals_readable goals formed (subst (λ (l : List Goal). AreKnownGoals state.library.theory l) (sym told) good.known)))
      go (proved theorem) at closing some told = record {
        proof = proof;
        theorem = theorem;
        is_here = here;
        is_closed = at;
        is_proved = is_proved theorem (ap top_outcome here ∙ ap stage_theorem at);
        achieves = closing.achieves;
        own_term = closing.own_term;
      }

  -- the goal that a term is, just set
  pub goal_shown : (term : NamedTerm) → IsKnown state.library.theory (image term) bool_type → is_within_limits term ≡ true → is_well_named term ≡ true
      → AreShown state (record { assumptions = []; target = term } ∷ [])
  goal_shown term known within named = (record { readable_assumptions = tt; readable_target = readable state term known within named }, tt)
