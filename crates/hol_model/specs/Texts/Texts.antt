-- The texts of types, terms and sequents, and what a text is read as.
use Rattle.std.specs.Prelude.{◌≡◌, ◌⊎◌, ℕ, Bool, true, not, nat_eq, List, [], ◌∷◌, ◌++◌, Result, Ok, Err}
use Rattle.std.specs.List.{list_all}
use Rattle.hol_model.specs.declared.fault.Fault.{Fault}
use Rattle.hol_model.specs.declared.fault.Fault.TheVariants.{Memory, Syntax}
use Rattle.hol_model.specs.Terms.Name.{is_identifier, is_type_variable_name, is_declared_type_name}
use Rattle.hol_model.specs.Terms.HolType.{HolType, type_variable, bool_type, function_type, declared_type}
use Rattle.hol_model.specs.Terms.NamedTerm.{NamedTerm, variable, constant, combination, abstraction, type_fits}
use Rattle.hol_model.specs.Texts.Token.{Token, symbol_text, token_text}
use Rattle.hol_model.specs.Texts.TypeGrammar.{TypeTree, Named, Enclosed, Function, IsRead}
use Rattle.hol_model.specs.Texts.TermGrammar.{Atom, Bare, Variable, Constant, TermTree, Leaf, Apply, Not, Join, Bind, infix_symbol, binder_symbol, IsReadTerm}
use Rattle.hol_model.specs.Texts.TermGrammar.{Enclosed as EnclosedTerm}
use Rattle.hol_model.specs.Texts.Lexing.{Lexes}
use Rattle.hol_model.specs.Texts.Reading.{Scope, type_meaning, known_constant, well_typed, meaning}
use Rattle.hol_model.specs.Texts.Printing.{type_tree, term_tree}

-- the text of a type, and then the rest: no spaces
abbrev pub type_bytes : TypeTree → List ℕ → List ℕ
type_bytes (Named name) rest = name ++ rest
type_bytes (Enclosed tree) rest = 40 ∷ type_bytes tree (41 ∷ rest)
type_bytes (Function left right) rest = type_bytes left (45 ∷ 62 ∷ type_bytes right rest)

abbrev pub atom_bytes : Atom → List ℕ → List ℕ
atom_bytes (Bare name) rest = name ++ rest
atom_bytes (Variable name ty) rest = 40 ∷ (name ++ 58 ∷ type_bytes ty (41 ∷ rest))
atom_bytes (Constant name ty) rest = 91 ∷ (token_text name ++ 58 ∷ type_bytes ty (93 ∷ rest))

-- the text of a term, and then the rest: a space on each side of an infix, in an application and behind a binder's dot
abbrev pub term_bytes : TermTree → List ℕ → List ℕ
term_bytes (Leaf atom) rest = atom_bytes atom rest
term_bytes (EnclosedTerm tree) rest = 40 ∷ term_bytes tree (41 ∷ rest)
term_bytes (Apply function argument) rest = term_bytes function (32 ∷ term_bytes argument rest)
term_bytes (Not tree) rest = 126 ∷ term_bytes tree rest
term_bytes (Join infix' left right) rest = term_bytes left (32 ∷ (symbol_text (infix_symbol infix') ++ 32 ∷ term_bytes right rest))
term_bytes (Bind binder name ty body) rest =
    symbol_text (binder_symbol binder) ++ (name ++ 58 ∷ type_bytes ty (46 ∷ 32 ∷ term_bytes body rest))

abbrev pub text_of_type : HolType → List ℕ
text_of_type ty = type_bytes (type_tree ty) []

abbrev pub text_of_term : Scope → NamedTerm → List ℕ
text_of_term scope term = term_bytes (term_tree scope [] term) []

-- each term behind a comma, and then the rest
abbrev pub further_bytes : Scope → List NamedTerm → List ℕ → List ℕ
further_bytes scope [] rest = rest
further_bytes scope (term ∷ terms) rest = 44 ∷ 32 ∷ term_bytes (term_tree scope [] term) (further_bytes scope terms rest)

-- the terms with commas between them and a space behind, if there are any, and then the rest
abbrev pub listed_bytes : Scope → List NamedTerm → List ℕ → List ℕ
listed_bytes scope [] rest = rest
listed_bytes scope (term ∷ terms) rest = term_bytes (term_tree scope [] term) (further_bytes scope terms (32 ∷ rest))

-- the hypotheses, `|- ` and the conclusion
abbrev pub text_of_sequent : Scope → List NamedTerm → NamedTerm → List ℕ
text_of_sequent scope hypotheses conclusion = listed_bytes scope hypotheses (124 ∷ 45 ∷ 32 ∷ text_of_term scope conclusion)

-- the assumptions, `?- ` and the conclusion
abbrev pub text_of_goal : Scope → List NamedTerm → NamedTerm → List ℕ
text_of_goal scope assumptions conclusion = listed_bytes scope assumptions (63 ∷ 45 ∷ 32 ∷ text_of_term scope conclusion)

-- The text is spelled as this tree of types.
pub record SpellsType (text : List ℕ) (tree : TypeTree) : Type 0 where
  pub tokens : List Token
  pub lexed : Lexes text tokens
  pub read : IsRead tokens tree []

-- The text is spelled as this tree of terms.
pub record SpellsTerm (text : List ℕ) (tree : TermTree) : Type 0 where
  pub tokens : List Token
  pub lexed : Lexes text tokens
  pub read : IsReadTerm tokens tree

-- One of the trees means this.
abbrev pub IsMeant : {Tree A : Type 0} → (Tree → Type 0) → (Tree → Result A Fault) → A → Type 0
IsMeant {Tree} is_tree means x = (tree : Tree) × is_tree tree × (means tree ≡ Ok x)

-- Memory ran out, there is no tree, or one is refused in this way.
abbrev pub IsRefused : {Tree A : Type 0} → (Tree → Type 0) → (Tree → Result A Fault) → Fault → Type 0
IsRefused {Tree} is_tree means fault =
    (fault ≡ Memory) ⊎ ((fault ≡ Syntax) × ((tree : Tree) → ¬ (is_tree tree))) ⊎ ((tree : Tree) × is_tree tree × (means tree ≡ Err fault))

-- The text is read as this type.
abbrev pub ReadsType : Scope → List ℕ → HolType → Type 0
ReadsType scope text ty = IsMeant (SpellsType text) (type_meaning scope) ty

abbrev pub RefusesType : Scope → List ℕ → Fault → Type 0
RefusesType scope text fault = IsRefused (SpellsType text) (type_meaning scope) fault

-- The text is read as this term.
abbrev pub ReadsTerm : Scope → List ℕ → NamedTerm → Type 0
ReadsTerm scope text term = IsMeant (SpellsTerm text) (meaning scope []) term

abbrev pub RefusesTerm : Scope → List ℕ → Fault → Type 0
RefusesTerm scope text fault = IsRefused (SpellsTerm text) (meaning scope []) fault

-- each name in the type is of its kind, and each declared type is known
abbrev pub IsNamedType : Scope → HolType → Type 0
IsNamedType scope (type_variable name) = is_type_variable_name name ≡ true
IsNamedType scope bool_type = Unit {0}
IsNamedType scope (function_type domain codomain) = IsNamedType scope domain × IsNamedType scope codomain
IsNamedType scope (declared_type name) = (scope.declares_type name ≡ true) × (is_declared_type_name name ≡ true)

-- a type that can be read back
pub record IsReadableType (scope : Scope) (ty : HolType) : Type 0 where
  pub named : IsNamedType scope ty
  pub fits : type_fits ty ≡ true

-- each name in the term is of its kind, and each constant and each declared type is known
abbrev pub IsKnownTerm : Scope → NamedTerm → Type 0
IsKnownTerm scope (variable name ty) = IsNamedType scope ty × (is_identifier name ≡ true)
IsKnownTerm scope (constant name ty) = IsNamedType scope ty × (known_constant scope name ty ≡ Ok (constant name ty))
IsKnownTerm scope (combination f a) = IsKnownTerm scope f × IsKnownTerm scope a
IsKnownTerm scope (abstraction name ty body) = IsNamedType scope ty × (is_identifier name ≡ true) × IsKnownTerm scope body

-- a term that can be read back: known, well typed and within the limits
pub record IsReadableTerm (scope : Scope) (term : NamedTerm) : Type 0 where
  pub known : IsKnownTerm scope term
  pub typed : well_typed term ≡ Ok term

-- Types and terms that can be read back are.
abbrev pub TypesReadBack : Type 0
TypesReadBack = (scope : Scope) (ty : HolType) → IsReadableType scope ty → ReadsType scope (text_of_type ty) ty

abbrev pub TermsReadBack : Type 0
TermsReadBack = (scope : Scope) (term : NamedTerm) → IsReadableTerm scope term → ReadsTerm scope (text_of_term scope term) term

-- A text is spelled as one tree.
abbrev pub TypesAreUnambiguous : Type 0
TypesAreUnambiguous = (text : List ℕ) (a b : TypeTree) → SpellsType text a → SpellsType text b → a ≡ b

abbrev pub TermsAreUnambiguous : Type 0
TermsAreUnambiguous = (text : List ℕ) (a b : TermTree) → SpellsTerm text a → SpellsTerm text b → a ≡ b

-- no line feed stands in the text
abbrev pub is_one_line : List ℕ → Bool
is_one_line = list_all (λ byte. not (nat_eq byte 10))
