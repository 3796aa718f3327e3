-- What a script's output says to a reader who knows nothing of sessions: each of its lines is a theorem's, which follows and
-- holds, a refusal's, an open goal's, or tells how many goals are open; that none is open is told of a goal of the script that
-- follows and holds.
use Rattle.std.specs.Prelude.{◌≡◌, ℕ, true, List, [], ◌∷◌, ◌++◌, map, Option, Ok, codes}
use Rattle.std.specs.Io.KnownBytes.{Appends}
use Rattle.hol_model.specs.Terms.Name.{is_identifier}
use Rattle.hol_model.specs.Terms.HolType.{HolType}
use Rattle.hol_model.specs.Terms.NamedTerm.{NamedTerm}
use Rattle.hol_model.specs.Terms.Nameless.{Nameless, image}
use Rattle.hol_model.specs.Logic.Theory.{Theory, Entry, definition, declaration_of_type, declaration_of_constant, IsLegal, IsEarlier}
use Rattle.hol_model.specs.Logic.Legality.{own_type}
use Rattle.hol_model.specs.Logic.Derivable.{Derivable, IsMember}
use Rattle.hol_model.specs.Logic.Logic.{logical_definitions}
use Rattle.hol_model.specs.Models.Holds.{Holds}
use Rattle.hol_model.specs.Kernel.Theorem.{Theorem, AreOrdered}
use Rattle.hol_model.specs.declared.symbol.Symbol.TheVariants.{Colon, Equal}
use Rattle.hol_model.specs.Texts.Token.{Name, Mark}
use Rattle.hol_model.specs.Texts.Lexing.{Lexes}
use Rattle.hol_model.specs.Texts.TypeGrammar.{TypeTree, type_tokens}
use Rattle.hol_model.specs.Texts.TermGrammar.{TermTree, IsWithin}
use Rattle.hol_model.specs.Goals.Goals.{Goal}
use Rattle.hol_model.specs.Texts.Reading.{type_meaning, meaning}
use Rattle.hol_model.specs.Texts.Texts.{text_of_sequent, text_of_goal, is_one_line}
use Rattle.hol_model.specs.Texts.SequentTexts.{IsReadableFormula, AreReadableFormulas}
use Rattle.hol_model.specs.Texts.SequentGrammar.{ReadsSequent}
use Rattle.hol_model.specs.Texts.KnownText.{Tells}
use Rattle.hol_model.specs.Texts.Scopes.{scope_with, scope_over}
use Rattle.hol_model_sessions.specs.Script.{Cuts}
use Rattle.hol_model_sessions.specs.Commands.{quote_tokens, IsQuotable}
use Rattle.hol_model_sessions.specs.Replies.{Refusal, row_text, text_of_theorem, count_text, text_of_refusal}

-- The line is a name and the text of a sequent, which reads back as that sequent; the sequent follows by the rules from the
-- entries of the theory, which is legal, and holds in every finite standard model. Its hypotheses stand in order, no two of
-- them alpha-equivalent.
pub record IsTheoremLine (theory : Theory) (line : List ℕ) : Type 0 where
  pub name : List ℕ
  pub theorem : Theorem
  pub named : is_identifier name ≡ true
  pub legal : IsLegal theory
  pub spelled : line ≡ text_of_theorem (scope_over theory) (record { name = name; theorem = theorem })
  pub one_line : is_one_line (text_of_sequent (scope_over theory) theorem.hypotheses theorem.conclusion) ≡ true
  pub reads_back : ReadsSequent (scope_over theory) (text_of_sequent (scope_over theory) theorem.hypotheses theorem.conclusion) (theorem.hypotheses, theorem.conclusion)
  pub ordered : AreOrdered theorem.hypotheses
  pub derivable : Derivable theory (map image theorem.hypotheses) (image theorem.conclusion)
  pub holds : Holds theory (map image theorem.hypotheses) (image theorem.conclusion)

-- The line tells a refusal of the command in some line of the script; of a proposition that is no tautology, with values of
-- its atoms, each of which reads back as itself.
pub record IsRefusalLine (theory : Theory) (line : List ℕ) : Type 0 where
  pub number : ℕ
  pub refusal : Refusal
  pub spelled : line ≡ text_of_refusal number (scope_over theory) refusal
  pub one_line : is_one_line (row_text (scope_over theory) refusal.row) ≡ true
  pub readable : AreReadableFormulas (scope_over theory) (map (λ value. value.0) refusal.row)

-- The line says how many goals are open, of which there is one at least.
pub record IsCountLine (line : List ℕ) : Type 0 where
  pub first : Goal
  pub others : List Goal
  pub spelled : line ≡ count_text (first ∷ others)

-- The line is the text of a goal, each term of which reads back as itself.
pub record IsGoalLine (theory : Theory) (line : List ℕ) : Type 0 where
  pub goal : Goal
  pub spelled : line ≡ text_of_goal (scope_over theory) goal.assumptions goal.target ++ codes "\n"
  pub one_line : is_one_line (text_of_goal (scope_over theory) goal.assumptions goal.target) ≡ true
  pub readable_assumptions : AreReadableFormulas (scope_over theory) goal.assumptions
  pub readable_target : IsReadableFormula (scope_over theory) goal.target

-- The text is a command that sets this goal: `goal` and a quoted term, which over the theory, where some variables are
-- declared, is read as the goal.
pub record SetsGoal (theory : Theory) (text : List ℕ) (goal : NamedTerm) : Type 0 where
  pub tree : TermTree
  pub variables : List ℕ → Option HolType
  pub quotable : IsQuotable tree
  pub spelled : Lexes text (Name (codes "goal") ∷ quote_tokens tree [])
  pub meant : meaning (scope_with theory variables) [] tree ≡ Ok goal

-- One of the texts sets the goal over the theory, or over what it has grown from.
pub record IsGoalOf (texts : List (List ℕ)) (theory : Theory) (goal : NamedTerm) : Type 0 where
  pub text : List ℕ
  pub there : IsMember text texts
  pub earlier : Theory
  pub is_earlier : IsEarlier earlier theory
  pub sets : SetsGoal earlier text goal

-- The line says that no goal is open. A goal that one of the texts sets follows without hypotheses by the rules from the
-- entries of the theory, which is legal, and holds in every finite standard model.
pub record IsProvedLine (texts : List (List ℕ)) (theory : Theory) (line : List ℕ) : Type 0 where
  pub spelled : line ≡ count_text []
  pub goal : NamedTerm
  pub is_goal : IsGoalOf texts theory goal
  pub legal : IsLegal theory
  pub derivable : Derivable theory [] (image goal)
  pub holds : Holds theory [] (image goal)

-- What a line of the output tells.
pub data IsTold (texts : List (List ℕ)) (theory : Theory) (line : List ℕ) : Type 0 where
  of_theorem : IsTheoremLine theory line → IsTold texts theory line
  of_refusal : IsRefusalLine theory line → IsTold texts theory line
  of_count : IsCountLine line → IsTold texts theory line
  of_goal : IsGoalLine theory line → IsTold texts theory line
  of_proof : IsProvedLine texts theory line → IsTold texts theory line

-- The text is a command that defines the constant by this body: `def`, the name, `=` and a quoted term, which over the theory,
-- where some variables are declared, is read as the body.
pub record Defines (theory : Theory) (text name : List ℕ) (ty : HolType) (body : Nameless) : Type 0 where
  pub tree : TermTree
  pub variables : List ℕ → Option HolType
  pub term : NamedTerm
  pub quotable : IsQuotable tree
  pub spelled : Lexes text (Name (codes "def") ∷ Name name ∷ Mark Equal ∷ quote_tokens tree [])
  pub meant : meaning (scope_with theory variables) [] tree ≡ Ok term
  pub typed : ty ≡ own_type term
  pub is_body : body ≡ image term

-- The text is a command that declares the constant at this type: `newconst`, the name, `:` and the type.
pub record DeclaresConstant (theory : Theory) (text name : List ℕ) (ty : HolType) : Type 0 where
  pub tree : TypeTree
  pub variables : List ℕ → Option HolType
  pub within : IsWithin tree
  pub spelled : Lexes text (Name (codes "newconst") ∷ Name name ∷ Mark Colon ∷ type_tokens tree [])
  pub meant : type_meaning (scope_with theory variables) tree ≡ Ok ty

-- over the theory the text is a command for the entry
abbrev pub Declares : Theory → List ℕ → Entry → Type 0
Declares theory text (definition name ty body) = Defines theory text name ty body
Declares theory text (declaration_of_type name) = Lexes text (Name (codes "newtype") ∷ Name name ∷ [])
Declares theory text (declaration_of_constant name ty) = DeclaresConstant theory text name ty

-- each of the entries, put before a theory, is declared by one of the texts over what stands behind it
abbrev pub AreDeclared : List (List ℕ) → List Entry → Theory → Type 0
AreDeclared texts [] theory = Unit {0}
AreDeclared texts (entry ∷ entries) theory = ((text : List ℕ) × IsMember text texts × Declares (entries ++ theory) text entry) × AreDeclared texts entries theory

-- the later theory has the entries of the earlier one, and further ones that the texts declare
pub record IsGrownBy (texts : List (List ℕ)) (earlier later : Theory) : Type 0 where
  pub added : List Entry
  pub is_added : later ≡ added ++ earlier
  pub declared : AreDeclared texts added earlier

-- From a theory on, the lines are told one after another, each over a theory that has the entries of the one before it and
-- of the texts alone.
abbrev pub AreTold : List (List ℕ) → Theory → List (List ℕ) → Type 0
AreTold texts theory [] = Unit {0}
AreTold texts theory (line ∷ lines) = (now : Theory) × IsGrownBy texts theory now × IsTold texts now line × AreTold texts now lines

-- the lines, one after another
abbrev pub text_of_lines : List (List ℕ) → List ℕ
text_of_lines [] = []
text_of_lines (line ∷ lines) = line ++ text_of_lines lines

-- A script was read, and what was written is the front of lines which the commands between its `;;` tell over the logical
-- definitions; the rest of the lines was not written.
pub record TellsLines (input before after : Option (List ℕ)) (unwritten : List ℕ) : Type 0 where
  pub script : List ℕ
  pub pieces : List (List ℕ)
  pub last : List ℕ
  pub lines : List (List ℕ)
  pub front : List ℕ
  pub read : Tells input script
  pub cuts : Cuts script pieces last
  pub told : AreTold pieces logical_definitions lines
  pub whole : text_of_lines lines ≡ front ++ unwritten
  pub wrote : Appends before after front

-- What was written is the front of such lines.
abbrev pub TellsFront : Option (List ℕ) → Option (List ℕ) → Option (List ℕ) → Type 0
TellsFront input before after = (unwritten : List ℕ) × TellsLines input before after unwritten
