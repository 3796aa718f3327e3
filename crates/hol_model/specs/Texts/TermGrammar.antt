-- The grammar of terms. Levels are those of the printer of HOL Light's infixes, as the format fixes them.
use Rattle.std.specs.Prelude.{◌≡◌, ℕ, ◌+◌, ◌<◌, ◌≤◌, List, [], ◌∷◌, max}
use Rattle.hol_model.specs.declared.symbol.Symbol.{Symbol}
use Rattle.hol_model.specs.declared.symbol.Symbol.TheVariants.{Iff, Implies, And, Or, Equal, Backslash, Exclamation, Question, At, Tilde, OpenParenthesis, CloseParenthesis, OpenBracket}
use Rattle.hol_model.specs.declared.symbol.Symbol.TheVariants.{CloseBracket, Colon, Dot}
use Rattle.hol_model.specs.declared.limits.TheConstants.{TYPE_NESTING_LIMIT, TERM_NESTING_LIMIT}
use Rattle.hol_model.specs.Texts.Token.{Token, Name, Mark}
use Rattle.hol_model.specs.Texts.TypeGrammar.{TypeTree, IsTypeTree, type_tokens, type_depth}

-- The infixes, from the loosest.
pub data Infix : Type 0 where
  IffInfix : Infix
  ImpliesInfix : Infix
  OrInfix : Infix
  AndInfix : Infix
  EqualInfix : Infix

pub data Binder : Type 0 where
  Lambda : Binder
  ForAll : Binder
  Exists : Binder
  Choice : Binder

-- A name alone, a variable with its type, a constant with its type.
pub data Atom : Type 0 where
  Bare : List ℕ → Atom
  Variable : List ℕ → TypeTree → Atom
  Constant : Token → TypeTree → Atom

-- How a text is read as a term, its parentheses included.
pub data TermTree : Type 0 where
  Leaf : Atom → TermTree
  Enclosed : TermTree → TermTree
  Apply : TermTree → TermTree → TermTree
  Not : TermTree → TermTree
  Join : Infix → TermTree → TermTree → TermTree
  Bind : Binder → List ℕ → TypeTree → TermTree → TermTree

abbrev pub infix_level : Infix → ℕ
infix_level IffInfix = 2
infix_level ImpliesInfix = 4
infix_level OrInfix = 6
infix_level AndInfix = 8
infix_level EqualInfix = 12

abbrev pub level : TermTree → ℕ
level (Leaf a) = 20
level (Enclosed t) = 20
level (Apply f a) = 16
level (Not t) = 14
level (Join c a b) = infix_level c
level (Bind q x type t) = 0

abbrev pub IsWithin : TypeTree → Type 0
IsWithin type = IsTypeTree type × (type_depth type ≤ TYPE_NESTING_LIMIT)

-- what the brackets of a constant may name
abbrev pub IsConstantName : Token → Type 0
IsConstantName (Name bytes) = Unit {0}
IsConstantName (Mark Equal) = Unit {0}
IsConstantName (Mark At) = Unit {0}
IsConstantName (Mark And) = Unit {0}
IsConstantName (Mark Or) = Unit {0}
IsConstantName (Mark Implies) = Unit {0}
IsConstantName (Mark Tilde) = Unit {0}
IsConstantName (Mark Exclamation) = Unit {0}
IsConstantName (Mark Question) = Unit {0}
IsConstantName _ = ⊥

abbrev pub IsAtomTree : Atom → Type 0
IsAtomTree (Bare name) = Unit {0}
IsAtomTree (Variable name type) = IsWithin type
IsAtomTree (Constant name type) = IsConstantName name × IsWithin type

-- Each part has the level that its place asks for: infixes group to the right.
abbrev pub IsTermTree : TermTree → Type 0
IsTermTree (Leaf a) = IsAtomTree a
IsTermTree (Enclosed t) = IsTermTree t
IsTermTree (Apply f a) = IsTermTree f × IsTermTree a × (16 ≤ level f) × (20 ≤ level a)
IsTermTree (Not t) = IsTermTree t × (14 ≤ level t)
IsTermTree (Join c a b) = IsTermTree a × IsTermTree b × (infix_level c < level a) × (infix_level c ≤ level b)
IsTermTree (Bind q x type t) = IsWithin type × IsTermTree t

-- how many parentheses, binders, negations and right operands are open at once, at most
abbrev pub term_depth : TermTree → ℕ
term_depth (Leaf a) = 0
term_depth (Enclosed t) = 1 + term_depth t
term_depth (Apply f a) = max (term_depth f) (term_depth a)
term_depth (Not t) = 1 + term_depth t
term_depth (Join c a b) = max (term_depth a) (1 + term_depth b)
term_depth (Bind q x type t) = 1 + term_depth t

abbrev pub infix_symbol : Infix → Symbol
infix_symbol IffInfix = Iff
infix_symbol ImpliesInfix = Implies
infix_symbol OrInfix = Or
infix_symbol AndInfix = And
infix_symbol EqualInfix = Equal

abbrev pub binder_symbol : Binder → Symbol
binder_symbol Lambda = Backslash
binder_symbol ForAll = Exclamation
binder_symbol Exists = Question
binder_symbol Choice = At

-- A piece of a term that no parenthesis or level parts.
pub data Lexeme : Type 0 where
  AtomPiece : Atom → Lexeme
  OpenPiece : Lexeme
  ClosePiece : Lexeme
  NotPiece : Lexeme
  InfixPiece : Infix → Lexeme
  BinderPiece : Binder → List ℕ → TypeTree → Lexeme

-- its pieces, and then the rest
abbrev pub pieces : TermTree → List Lexeme → List Lexeme
pieces (Leaf a) rest = AtomPiece a ∷ rest
pieces (Enclosed t) rest = OpenPiece ∷ pieces t (ClosePiece ∷ rest)
pieces (Apply f a) rest = pieces f (pieces a rest)
pieces (Not t) rest = NotPiece ∷ pieces t rest
pieces (Join c a b) rest = pieces a (InfixPiece c ∷ pieces b rest)
pieces (Bind q x type t) rest = BinderPiece q x type ∷ pieces t rest

abbrev pub atom_tokens : Atom → List Token → List Token
atom_tokens (Bare name) rest = Name name ∷ rest
atom_tokens (Variable name type) rest =
    Mark OpenParenthesis ∷ Name name ∷ Mark Colon ∷ type_tokens type (Mark CloseParenthesis ∷ rest)
atom_tokens (Constant name type) rest = Mark OpenBracket ∷ name ∷ Mark Colon ∷ type_tokens type (Mark CloseBracket ∷ rest)

abbrev pub piece_tokens : Lexeme → List Token → List Token
piece_tokens (AtomPiece a) rest = atom_tokens a rest
piece_tokens OpenPiece rest = Mark OpenParenthesis ∷ rest
piece_tokens ClosePiece rest = Mark CloseParenthesis ∷ rest
piece_tokens NotPiece rest = Mark Tilde ∷ rest
piece_tokens (InfixPiece c) rest = Mark (infix_symbol c) ∷ rest
piece_tokens (BinderPiece q x type) rest =
    Mark (binder_symbol q) ∷ Name x ∷ Mark Colon ∷ type_tokens type (Mark Dot ∷ rest)

abbrev pub all_tokens : List Lexeme → List Token
all_tokens [] = []
all_tokens (piece ∷ rest) = piece_tokens piece (all_tokens rest)

-- The tokens are those of this tree.
pub record IsReadTerm (tokens : List Token) (tree : TermTree) : Type 0 where
  pub grammatical : IsTermTree tree
  pub depth : term_depth tree ≤ TERM_NESTING_LIMIT
  pub spelled : tokens ≡ all_tokens (pieces tree [])
