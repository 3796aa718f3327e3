-- Laws on the lines of a script's output.
use Rattle.std.specs.Prelude.{◌≡◌, ℕ, nat_eq, true, if◌then◌else◌, List, [], ◌∷◌, ◌++◌, codes, Option}
use Rattle.hol_model.specs.Terms.Name.{is_identifier}
use Rattle.hol_model.specs.Terms.NamedTerm.{NamedTerm}
use Rattle.hol_model.specs.Terms.Nameless.{image}
use Rattle.hol_model.specs.Logic.Theory.{Theory, IsEarlier}
use Rattle.hol_model.specs.Logic.Derivable.{IsMember}
use Rattle.hol_model.specs.Logic.Logic.{logical_definitions, false_term}
use Rattle.hol_model.specs.Texts.Reading.{Scope}
use Rattle.hol_model.specs.Texts.Texts.{text_of_sequent, text_of_goal, is_one_line}
use Rattle.hol_model.specs.Texts.SequentTexts.{IsReadableFormula, AreReadableFormulas, SequentsReadBack}
use Rattle.hol_model_sessions.specs.ScriptSessions.{Tools, Turn, text_of_turns}
use Rattle.hol_model_sessions.specs.Runs.{IsRun}
use Rattle.hol_model_sessions.specs.Walking.{Place, first_place, Walks, TellsWalk}
use Rattle.hol_model_sessions.specs.Headline.{IsTheoremLine, IsRefusalLine, IsCountLine, IsGoalLine, IsProvedLine, IsTold, IsGrownBy, AreTold, text_of_lines, TellsLines}

-- no line tells falsity without hypotheses, whatever the script added to the logical definitions
abbrev pub NoLineIsFalsity : Type 0
NoLineIsFalsity = (theory : Theory) (line : List ℕ) → IsEarlier logical_definitions theory → (told : IsTheoremLine theory line)
    → told.theorem.hypotheses ≡ [] → image told.theorem.conclusion ≡ false_term → ⊥

-- ---- which lines are theorems'

-- The line begins with an identifier, a colon and a space, whatever stands behind them.
pub record BeginsAsTheorem (line : List ℕ) : Type 0 where
  pub name : List ℕ
  pub rest : List ℕ
  pub named : is_identifier name ≡ true
  pub spelled : line ≡ name ++ codes ": " ++ rest

-- no line that tells a refusal begins so
abbrev pub RefusalsAreNoTheorems : Type 0
RefusalsAreNoTheorems = (theory : Theory) (line : List ℕ) → BeginsAsTheorem line → IsRefusalLine theory line → ⊥

-- no line that tells a goal, how many are open, or that none is, begins so
pub record GoalsAreNoTheorems : Type 0 where
  pub goals : (theory : Theory) (line : List ℕ) → BeginsAsTheorem line → IsGoalLine theory line → ⊥
  pub counts : (line : List ℕ) → BeginsAsTheorem line → IsCountLine line → ⊥
  pub proofs : (texts : List (List ℕ)) (theory : Theory) (line : List ℕ) → BeginsAsTheorem line → IsProvedLine texts theory line → ⊥

-- a told line begins so exactly where it is a theorem's
pub record TheoremsAreSeen : Type 0 where
  pub are_theorems : (texts : List (List ℕ)) (theory : Theory) (line : List ℕ) → BeginsAsTheorem line → IsTold texts theory line → IsTheoremLine theory line
  pub begin_so : (theory : Theory) (line : List ℕ) → IsTheoremLine theory line → BeginsAsTheorem line

-- ---- lines of a text

-- The line is a text without a line feed, and a line feed behind it.
pub record IsLine (line : List ℕ) : Type 0 where
  pub front : List ℕ
  pub one_line : is_one_line front ≡ true
  pub ended : line ≡ front ++ codes "\n"

-- the byte before the first of the texts
abbrev pub with_byte : ℕ → List (List ℕ) → List (List ℕ)
with_byte byte [] = (byte ∷ []) ∷ []
with_byte byte (line ∷ lines) = (byte ∷ line) ∷ lines

-- the text, cut behind each line feed
abbrev pub cut_in_lines : List ℕ → List (List ℕ)
cut_in_lines [] = []
cut_in_lines (byte ∷ bytes) = if nat_eq byte 10 then (byte ∷ []) ∷ cut_in_lines bytes else with_byte byte (cut_in_lines bytes)

-- each told line is one, so that a text of told lines is cut into these
pub record ToldLinesAreLines : Type 0 where
  pub lines : (texts : List (List ℕ)) (theory : Theory) (line : List ℕ) → IsTold texts theory line → IsLine line
  pub cut : (texts : List (List ℕ)) (theory : Theory) (lines : List (List ℕ)) → AreTold texts theory lines → cut_in_lines (text_of_lines lines) ≡ lines

-- The line is told over a theory that has the entries of this one and of the texts alone.
pub record IsToldLater (texts : List (List ℕ)) (theory : Theory) (line : List ℕ) : Type 0 where
  pub now : Theory
  pub grown : IsGrownBy texts theory now
  pub told : IsTold texts now line

-- Each line that was written whole is told by the commands of the script that was read, whether the output is complete or not.
abbrev pub WrittenLinesAreTold : Type 0
WrittenLinesAreTold =
    (input before after : Option (List ℕ)) (unwritten : List ℕ) (tells : TellsLines input before after unwritten) (line : List ℕ) → IsMember line (cut_in_lines tells.front) → IsLine line
    → IsToldLater tells.pieces logical_definitions line

-- ---- runs are told in lines

-- the text of a sequent that can be read back is one line
abbrev pub SequentsAreLines : Type 0
SequentsAreLines =
    (scope : Scope) (hypotheses : List NamedTerm) (conclusion : NamedTerm) → AreReadableFormulas scope hypotheses → IsReadableFormula scope conclusion
    → is_one_line (text_of_sequent scope hypotheses conclusion) ≡ true

-- the text of a sequent does not depend on the declared variables
abbrev pub SequentsIgnoreVariables : Type 0
SequentsIgnoreVariables =
    (scope other : Scope) → scope.generic_type ≡ other.generic_type → (hypotheses : List NamedTerm) (conclusion : NamedTerm)
    → text_of_sequent scope hypotheses conclusion ≡ text_of_sequent other hypotheses conclusion

-- so of goals
abbrev pub GoalsAreLines : Type 0
GoalsAreLines =
    (scope : Scope) (assumptions : List NamedTerm) (target : NamedTerm) → AreReadableFormulas scope assumptions → IsReadableFormula scope target
    → is_one_line (text_of_goal scope assumptions target) ≡ true

abbrev pub GoalsIgnoreVariables : Type 0
GoalsIgnoreVariables =
    (scope other : Scope) → scope.generic_type ≡ other.generic_type → (assumptions : List NamedTerm) (target : NamedTerm)
    → text_of_goal scope assumptions target ≡ text_of_goal other assumptions target

-- what is known of the texts of sequents and of goals
pub record TextsArePrinted : Type 0 where
  pub read_back : SequentsReadBack
  pub are_lines : SequentsAreLines
  pub ignore_variables : SequentsIgnoreVariables
  pub goals_are_lines : GoalsAreLines
  pub goals_ignore_variables : GoalsIgnoreVariables

-- The text is that of lines which the texts tell from the theory on.
pub record IsToldFrom (theory : Theory) (texts : List (List ℕ)) (text : List ℕ) : Type 0 where
  pub lines : List (List ℕ)
  pub told : AreTold texts theory lines
  pub whole : text_of_lines lines ≡ text

-- What a run writes is told by the pieces of its script.
abbrev pub RunsAreTold : Tools → Type 0
RunsAreTold tools =
    TextsArePrinted → (script : List ℕ) (turns : List Turn) (is_run : IsRun tools script turns) → IsToldFrom logical_definitions is_run.pieces (text_of_turns turns)

-- The text is that of lines with which the pieces are answered, from this line of the script and this place on.
pub record IsWalkedFrom (line : ℕ) (place : Place) (pieces : List (List ℕ)) (last text : List ℕ) : Type 0 where
  pub lines : List (List ℕ)
  pub walks : Walks line place pieces last lines
  pub whole : text_of_lines lines ≡ text

-- What a run writes is told piece by piece.
abbrev pub RunsAreWalked : Tools → Type 0
RunsAreWalked tools =
    TextsArePrinted → (script : List ℕ) (turns : List Turn) (is_run : IsRun tools script turns) → IsWalkedFrom 1 first_place is_run.pieces is_run.last (text_of_turns turns)

-- What is told piece by piece is told line by line.
abbrev pub WalksAreTold : Type 0
WalksAreTold =
    TextsArePrinted → (input before after : Option (List ℕ)) (unwritten : List ℕ) → TellsWalk input before after unwritten → TellsLines input before after unwritten
