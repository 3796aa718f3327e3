-- What is told piece by piece is told line by line: each line is told by the pieces up to it.
use Rattle.std.proofs.Common.{◌≡◌, ℕ, ◌+◌, List, [], ◌∷◌, ◌++◌, map, Bool, true, false, inl, inr, refl, sym, subst, Option, Some, None}
use Rattle.hol_model.specs.declared.fault.Fault.TheVariants.{Syntax}
use Rattle.hol_model.specs.Terms.NamedTerm.{NamedTerm}
use Rattle.hol_model.specs.Logic.Theory.{Theory}
use Rattle.hol_model.specs.Logic.Derivable.{IsMember}
use Rattle.hol_model.specs.Logic.Logic.{logical_definitions}
use Rattle.hol_model.specs.Texts.Scopes.{scope_over}
use Rattle.hol_model.specs.Goals.Goals.{Goal}
use Rattle.hol_model.proofs.Logic.Earlier.{earlier-same}
use Rattle.hol_model_sessions.specs.Script.{is_blank_text, line_feeds, leading_line_feeds}
use Rattle.hol_model_sessions.specs.Replies.{refusal_of, count_text}
use Rattle.hol_model_sessions.specs.Headline.{of_theorem, of_refusal, of_count, of_goal, of_proof, IsGoalOf, IsGrownBy, AreTold}
use Rattle.hol_model_sessions.specs.Walking.{Place, first_place, Moves, stays, declares, sets, AreReadable, goal_line, IsAnswer, silence, theorem as tells_theorem, refusal as tells_refusal}
use Rattle.hol_model_sessions.specs.Walking.{open_goals as leaves_open, no_goals, Answered, EndsWith, Walks}
use Rattle.hol_laws_sessions.specs.HeadlineLaws.{TextsArePrinted, WalksAreTold}
use Rattle.hol_laws_sessions.proofs.SetGoals.{goal-later}
use Rattle.hol_laws_sessions.proofs.ToldTexts.{row-one_line}
use Rattle.hol_laws_sessions.proofs.ToldRuns.{same-grown, one-grown, told-before}

module _ (texts : List (List ℕ)) (printed : TextsArePrinted) where
  -- one of the texts set the goal, if any is set
  abbrev IsSetHere : Theory → Option NamedTerm → Type 0
  IsSetHere theory None = Unit {0}
  IsSetHere theory (Some goal) = IsGoalOf texts theory goal

  set-later : (earlier now : Theory) → IsGrownBy texts earlier now → (goal : Option NamedTerm) → IsSetHere earlier goal → IsSetHere now goal
  set-later earlier now grown None set = tt
  set-later earlier now grown (Some goal) set = goal-later texts earlier now goal (record { added = grown.added; is_added = grown.is_added }) set

  -- a piece that is one of the texts moves the place by what the texts say
  record IsMoved (place now : Place) : Type 0 where
    grown : IsGrownBy texts place.theory now.theory
    is_set : IsSetHere now.theory now.goal

  piece-moves : (place now : Place) (piece : List ℕ) → IsMember piece texts → IsSetHere place.theory place.goal → Moves place piece now → IsMoved place now
  piece-moves place now piece there set stays = record { grown = same-grown texts place.theory; is_set = set }
  piece-moves place now piece there set (declares entry declared) =
      let grown = one-grown texts piece entry place.theory (entry ∷ place.theory) there declared refl in
      record { grown = grown; is_set = set-later place.theory (entry ∷ place.theory) grown place.goal set }
  piece-moves place now piece there set (sets goal is) = record {
    grown = same-grown texts place.theory;
    is_set = record { text = piece; there = there; earlier = place.theory; is_earlier = earlier-same place.theory place.theory refl; sets = is };
  }

  goals-told : (theory : Theory) (goals : List Goal) (later : List (List ℕ)) → AreReadable theory goals → AreTold texts theory later
      → AreTold texts theory (map (goal_line theory) goals ++ later)
  goals-told theory [] later are more = more
  goals-told theory (goal ∷ goals) later are more = (
    theory,
    same-grown texts theory,
    of_goal (record {
      goal = goal;
      spelled = refl;
      one_line = printed.goals_are_lines (scope_over theory) goal.assumptions goal.target are.0.assumptions are.0.target;
      readable_assumptions = are.0.assumptions;
      readable_target = are.0.target;
    }),
    goals-told theory goals later are.1 more,
  )

  answer-told : (number : ℕ) (place : Place) (lines later : List (List ℕ)) → IsSetHere place.theory place.goal → IsAnswer number place lines → AreTold texts place.theory later
      → AreTold texts place.theory (lines ++ later)
  answer-told number place lines later set silence more = more
  answer-told number place lines later set (tells_theorem is) more = (place.theory, same-grown texts place.theory, of_theorem is, more)
  answer-told number place lines later set (tells_refusal refused readable) more = (
    place.theory,
    same-grown texts place.theory,
    of_refusal (record { number = number; refusal = refused; spelled = refl; one_line = row-one_line printed (scope_over place.theory) refused.row readable; readable = readable }),
    more,
  )
  answer-told number place lines later set (leaves_open first others readable) more = (
    place.theory,
    same-grown texts place.theory,
    of_count (record { first = first; others = others; spelled = refl }),
    goals-told place.theory (first ∷ others) later readable more,
  )
  answer-told number place lines later set (no_goals settled) more = (
    place.theory,
    same-grown texts place.theory,
    of_proof (record {
      spelled = refl;
      goal = settled.goal;
      is_goal = subst (IsSetHere place.theory) settled.is_goal set;
      legal = settled.legal;
      derivable = settled.derivable;
      holds = settled.holds;
    }),
    more,
  )

  -- what a piece comes to, before lines that are told from there on
  piece-told : (test : Bool) (number : ℕ) (place now : Place) (piece : List ℕ) (lines later : List (List ℕ)) → IsMember piece texts → IsSetHere place.theory place.goal
      → Answered test number place piece now lines → (IsSetHere now.theory now.goal → AreTold texts now.theory later) → AreTold texts place.theory (lines ++ later)
  piece-told true number place now piece lines later there set answered more =
      subst (λ (l : List (List ℕ)). AreTold texts place.theory (l ++ later)) (sym answered.1)
      (subst (λ (p : Place). (IsSetHere p.theory p.goal → AreTold texts p.theory later) → AreTold texts place.theory later) (sym answered.0) (λ go. go set) more)
  piece-told false number place now piece lines later there set answered more =
      let moved = piece-moves place now piece there set answered.0 in
      told-before texts place.theory now.theory (lines ++ later) moved.grown (answer-told number now lines later moved.is_set answered.1 (more moved.is_set))

  last-told : (test : Bool) (number : ℕ) (place : Place) (lines : List (List ℕ)) → EndsWith test number place lines → AreTold texts place.theory lines
  last-told true number place lines ends = subst (AreTold texts place.theory) (sym ends) tt
  last-told false number place lines ends =
      subst (AreTold texts place.theory) (sym ends) (
        place.theory,
        same-grown texts place.theory,
        of_refusal (record { number = number; refusal = refusal_of Syntax; spelled = refl; one_line = refl; readable = tt }),
        tt,
      )

  walks-told : (line : ℕ) (place : Place) (pieces : List (List ℕ)) (last : List ℕ) (lines : List (List ℕ)) → ((piece : List ℕ) → IsMember piece pieces → IsMember piece texts)
      → IsSetHere place.theory place.goal → Walks line place pieces last lines → AreTold texts place.theory lines
  walks-told line place [] last lines among set walks = last-told (is_blank_text last) (line + leading_line_feeds last) place lines walks
  walks-told line place (piece ∷ pieces) last lines among set (now, first, later, whole, answered, behind) =
      subst (AreTold texts place.theory) (sym whole)
      (piece-told (is_blank_text piece) (line + leading_line_feeds piece) place now piece first later (among piece (inl refl)) set answered
      (λ set_now. walks-told (line + line_feeds piece) now pieces last later (λ other there. among other (inr there)) set_now behind))

pub walks-are-told : WalksAreTold
walks-are-told printed input before after unwritten tells = record {
  script = tells.script;
  pieces = tells.pieces;
  last = tells.last;
  lines = tells.lines;
  front = tells.front;
  read = tells.read;
  cuts = tells.cuts;
  told = walks-told tells.pieces printed 1 first_place tells.pieces tells.last tells.lines (λ piece there. there) tt tells.walks;
  whole = tells.whole;
  wrote = tells.wrote;
}
