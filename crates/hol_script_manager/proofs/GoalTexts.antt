-- Texts of goals, one after another.
use Rattle.std.proofs.Common.{◌≡◌, ℕ, ◌+◌, ◌<◌, List, [], ◌∷◌, ◌++◌, length, take, get_or, sym, ap, ◌∙◌, append-nil}
use Rattle.std.proofs.lemmas.List.{append_assoc, take_more}
use Rattle.hol_model.specs.Texts.Reading.{Scope}
use Rattle.hol_model_sessions.specs.Replies.{goals_text}
use Rattle.hol_just.specs.declared.goal.Goal as code
use Rattle.hol_just.specs.Steps.{goals_of}
use Rattle.hol_script_manager.specs.GoalTexts.{line_of_goal}

-- the last goal's line
last_line : (scope : Scope) (goals : List code.Goal) (goal : code.Goal) → goals_text scope (goals_of (goals ++ goal ∷ [])) ≡ goals_text scope (goals_of goals) ++ line_of_goal scope goal
last_line scope [] goal = append-nil (line_of_goal scope goal)
last_line scope (first ∷ goals) goal =
    ap (λ l. line_of_goal scope first ++ l) (last_line scope goals goal) ∙ sym (append_assoc (line_of_goal scope first) (goals_text scope (goals_of goals)) (line_of_goal scope goal))

-- one more line is written
pub further_line : (scope : Scope) (goals : List code.Goal) (at : ℕ) (goal : code.Goal) (begun old new : List ℕ) → at < length goals → goal ≡ get_or goals at goal
    → old ≡ begun ++ goals_text scope (goals_of (take at goals)) → new ≡ old ++ line_of_goal scope goal → new ≡ begun ++ goals_text scope (goals_of (take (at + 1) goals))
further_line scope goals at goal begun old new within is before written =
    let lines : List ℕ = goals_text scope (goals_of (take at goals)) in
    let longer : goals_text scope (goals_of (take (at + 1) goals)) ≡ lines ++ line_of_goal scope goal =
    ap (λ l. goals_text scope (goals_of l)) (take_more goals at goal within ∙ ap (λ (g : code.Goal). take at goals ++ g ∷ []) (sym is)) ∙ last_line scope (take at goals) goal in
    written ∙ ap (λ l. l ++ line_of_goal scope goal) before ∙ append_assoc begun lines (line_of_goal scope goal) ∙ ap (λ l. begun ++ l) (sym longer)
