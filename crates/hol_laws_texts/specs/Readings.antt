-- What a line of a script's output says to one who reads it.
use Rattle.std.specs.Prelude.{◌≡◌, ℕ, true, List, [], ◌++◌, map, codes, Option}
use Rattle.hol_model.specs.Terms.Name.{is_identifier}
use Rattle.hol_model.specs.Terms.NamedTerm.{NamedTerm}
use Rattle.hol_model.specs.Terms.Nameless.{image}
use Rattle.hol_model.specs.Logic.Theory.{Theory, IsLegal, IsEarlier}
use Rattle.hol_model.specs.Logic.Derivable.{Derivable, IsMember}
use Rattle.hol_model.specs.Logic.Logic.{logical_definitions, false_term}
use Rattle.hol_model.specs.Models.Holds.{Holds}
use Rattle.hol_model.specs.Texts.Scopes.{scope_over}
use Rattle.hol_model.specs.Texts.SequentGrammar.{ReadsSequent}
use Rattle.hol_model_sessions.specs.Headline.{IsTold, IsGrownBy, TellsLines}
use Rattle.hol_laws_sessions.specs.HeadlineLaws.{BeginsAsTheorem, IsLine, cut_in_lines}

-- The line is an identifier, `: ` and a text that is read as this sequent over the theory.
pub record ReadsAsTheorem (theory : Theory) (line : List ℕ) (sequent : List NamedTerm × NamedTerm) : Type 0 where
  pub name : List ℕ
  pub text : List ℕ
  pub named : is_identifier name ≡ true
  pub spelled : line ≡ name ++ codes ": " ++ text ++ codes "\n"
  pub read : ReadsSequent (scope_over theory) text sequent

-- The theory is legal; the sequent follows by the rules from its entries, and holds in every finite standard model.
pub record IsTrueOver (theory : Theory) (sequent : List NamedTerm × NamedTerm) : Type 0 where
  pub legal : IsLegal theory
  pub derivable : Derivable theory (map image sequent.0) (image sequent.1)
  pub holds : Holds theory (map image sequent.0) (image sequent.1)

-- a told line that is read as a sequent behind a name says that this sequent is true
abbrev pub LinesTellTheirSequents : Type 0
LinesTellTheirSequents =
    (texts : List (List ℕ)) (theory : Theory) (line : List ℕ) (sequent : List NamedTerm × NamedTerm) → IsTold texts theory line → ReadsAsTheorem theory line sequent
    → IsTrueOver theory sequent

-- no told line is read as falsity without hypotheses, whatever the script added to the logical definitions
abbrev pub NoLineReadsAsFalsity : Type 0
NoLineReadsAsFalsity =
    (texts : List (List ℕ)) (theory : Theory) (line : List ℕ) (sequent : List NamedTerm × NamedTerm) → IsEarlier logical_definitions theory → IsTold texts theory line
    → ReadsAsTheorem theory line sequent → sequent.0 ≡ [] → image sequent.1 ≡ false_term → ⊥

-- Over a theory that the texts declare over the logical definitions the line is read as one sequent, which is true there.
pub record TellsTruth (texts : List (List ℕ)) (line : List ℕ) : Type 0 where
  pub theory : Theory
  pub grown : IsGrownBy texts logical_definitions theory
  pub sequent : List NamedTerm × NamedTerm
  pub reads : ReadsAsTheorem theory line sequent
  pub only : (other : List NamedTerm × NamedTerm) → ReadsAsTheorem theory line other → other ≡ sequent
  pub is_true : IsTrueOver theory sequent

-- so does each line that a run wrote whole, where it begins with an identifier, a colon and a space
abbrev pub WrittenTheoremsAreTrue : Type 0
WrittenTheoremsAreTrue =
    (input before after : Option (List ℕ)) (unwritten : List ℕ) (tells : TellsLines input before after unwritten) (line : List ℕ) → IsMember line (cut_in_lines tells.front) → IsLine line
    → BeginsAsTheorem line → TellsTruth tells.pieces line
