-- What a script's output says, piece by piece: after each piece there is a theory, which the piece may have grown by one entry,
-- and a goal, which the piece may have set; the lines that the piece is answered with speak of these alone.
use Rattle.std.specs.Prelude.{◌≡◌, ℕ, ◌+◌, List, [], ◌∷◌, ◌++◌, map, Bool, true, false, Option, None, Some, codes}
use Rattle.std.specs.Io.KnownBytes.{Appends}
use Rattle.hol_model.specs.declared.fault.Fault.TheVariants.{Syntax}
use Rattle.hol_model.specs.Terms.NamedTerm.{NamedTerm}
use Rattle.hol_model.specs.Terms.Nameless.{image}
use Rattle.hol_model.specs.Logic.Theory.{Theory, Entry, IsLegal}
use Rattle.hol_model.specs.Logic.Derivable.{Derivable}
use Rattle.hol_model.specs.Logic.Logic.{logical_definitions}
use Rattle.hol_model.specs.Models.Holds.{Holds}
use Rattle.hol_model.specs.Goals.Goals.{Goal}
use Rattle.hol_model.specs.Texts.Texts.{text_of_goal}
use Rattle.hol_model.specs.Texts.SequentTexts.{IsReadableFormula, AreReadableFormulas}
use Rattle.hol_model.specs.Texts.KnownText.{Tells}
use Rattle.hol_model.specs.Texts.Scopes.{scope_over}
use Rattle.hol_model_sessions.specs.Script.{Cuts, is_blank_text, line_feeds, leading_line_feeds}
use Rattle.hol_model_sessions.specs.Replies.{Refusal, count_text, text_of_refusal, refusal_of}
use Rattle.hol_model_sessions.specs.Headline.{IsTheoremLine, SetsGoal, Declares, text_of_lines}

-- where a script has come to: the theory, and the goal that was set last
pub record Place : Type 0 where
  pub theory : Theory
  pub goal : Option NamedTerm

abbrev pub first_place : Place
first_place = record { theory = logical_definitions; goal = None }

-- what a piece may do: nothing, declare an entry, or set a goal
pub data Moves (place : Place) (piece : List ℕ) : Place → Type 0 where
  stays : Moves place piece place
  declares : (entry : Entry) → Declares place.theory piece entry → Moves place piece (record { theory = entry ∷ place.theory; goal = place.goal })
  sets : (goal : NamedTerm) → SetsGoal place.theory piece goal → Moves place piece (record { theory = place.theory; goal = Some goal })

-- a goal each term of which reads back as itself
pub record IsReadable (theory : Theory) (goal : Goal) : Type 0 where
  pub assumptions : AreReadableFormulas (scope_over theory) goal.assumptions
  pub target : IsReadableFormula (scope_over theory) goal.target

abbrev pub AreReadable : Theory → List Goal → Type 0
AreReadable theory [] = Unit {0}
AreReadable theory (goal ∷ goals) = IsReadable theory goal × AreReadable theory goals

abbrev pub goal_line : Theory → Goal → List ℕ
goal_line theory goal = text_of_goal (scope_over theory) goal.assumptions goal.target ++ codes "\n"

-- The goal that was set last follows without hypotheses from the entries of the theory, which is legal, and holds in every
-- finite standard model.
pub record IsSettled (place : Place) : Type 0 where
  pub goal : NamedTerm
  pub is_goal : place.goal ≡ Some goal
  pub legal : IsLegal place.theory
  pub derivable : Derivable place.theory [] (image goal)
  pub holds : Holds place.theory [] (image goal)

-- the lines with which a piece whose command stands in this line is answered
pub data IsAnswer (number : ℕ) (place : Place) : List (List ℕ) → Type 0 where
  silence : IsAnswer number place []
  theorem : {line : List ℕ} → IsTheoremLine place.theory line → IsAnswer number place (line ∷ [])
  refusal : (refusal : Refusal) → AreReadableFormulas (scope_over place.theory) (map (λ value. value.0) refusal.row)
      → IsAnswer number place (text_of_refusal number (scope_over place.theory) refusal ∷ [])
  open_goals : (first : Goal) (others : List Goal) → AreReadable place.theory (first ∷ others)
      → IsAnswer number place (count_text (first ∷ others) ∷ map (goal_line place.theory) (first ∷ others))
  no_goals : IsSettled place → IsAnswer number place (count_text [] ∷ [])

-- what a piece comes to: nothing where it is blank, and else a move and an answer over the place that it leads to
abbrev pub Answered : Bool → ℕ → Place → List ℕ → Place → List (List ℕ) → Type 0
Answered true number place piece now lines = (now ≡ place) × (lines ≡ [])
Answered false number place piece now lines = Moves place piece now × IsAnswer number now lines

-- what stands behind the last `;;` is no command: it is refused, if it is not blank
abbrev pub EndsWith : Bool → ℕ → Place → List (List ℕ) → Type 0
EndsWith true number place lines = lines ≡ []
EndsWith false number place lines = lines ≡ text_of_refusal number (scope_over place.theory) (refusal_of Syntax) ∷ []

-- From this line and place on the pieces are answered, one after another; each speaks of those before it and of itself alone.
abbrev pub Walks : ℕ → Place → List (List ℕ) → List ℕ → List (List ℕ) → Type 0
Walks line place [] last lines = EndsWith (is_blank_text last) (line + leading_line_feeds last) place lines
Walks line place (piece ∷ pieces) last lines =
    (now : Place) × (here : List (List ℕ)) × (later : List (List ℕ)) × (lines ≡ here ++ later)
    × Answered (is_blank_text piece) (line + leading_line_feeds piece) place piece now here
    × Walks (line + line_feeds piece) now pieces last later

-- A script was read, and what was written is the front of the lines with which its pieces are answered; the rest of the lines
-- was not written.
pub record TellsWalk (input before after : Option (List ℕ)) (unwritten : List ℕ) : Type 0 where
  pub script : List ℕ
  pub pieces : List (List ℕ)
  pub last : List ℕ
  pub lines : List (List ℕ)
  pub front : List ℕ
  pub read : Tells input script
  pub cuts : Cuts script pieces last
  pub walks : Walks 1 first_place pieces last lines
  pub whole : text_of_lines lines ≡ front ++ unwritten
  pub wrote : Appends before after front
