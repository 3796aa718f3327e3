-- The piece at the front of the tokens.
use Rattle.std.specs.Prelude.{List, [], ◌∷◌, Bool, true, false, Option, None, Some}
use Rattle.hol_model.specs.declared.symbol.Symbol.{Symbol}
use Rattle.hol_model.specs.declared.symbol.Symbol.TheVariants.{Iff, Implies, And, Or, Equal, Backslash, Exclamation, Question, At, Tilde, OpenParenthesis, CloseParenthesis, OpenBracket}
use Rattle.hol_model.specs.declared.symbol.Symbol.TheVariants.{CloseBracket, Colon, Dot}
use Rattle.hol_model.specs.Texts.Token.{Token, Name, Number, Mark}
use Rattle.hol_model.specs.Texts.TypeGrammar.{TypeTree}
use Rattle.hol_model.specs.Texts.TermGrammar.{IffInfix, ImpliesInfix, OrInfix, AndInfix, EqualInfix, Binder, Lambda, ForAll, Exists, Choice, Bare, Variable, Constant, Lexeme, AtomPiece}
use Rattle.hol_model.specs.Texts.TermGrammar.{OpenPiece, ClosePiece, NotPiece, InfixPiece, BinderPiece}
use Rattle.hol_syntax_grammar.specs.TypeReader.{run}

-- What a token begins.
pub data Start : Type 0 where
  WholePiece : Lexeme → Start
  StartsParenthesis : Start
  StartsBracket : Start
  StartsBinder : Binder → Start
  StartsNothing : Start

abbrev pub symbol_start : Symbol → Start
symbol_start Iff = WholePiece (InfixPiece IffInfix)
symbol_start Implies = WholePiece (InfixPiece ImpliesInfix)
symbol_start Or = WholePiece (InfixPiece OrInfix)
symbol_start And = WholePiece (InfixPiece AndInfix)
symbol_start Equal = WholePiece (InfixPiece EqualInfix)
symbol_start Tilde = WholePiece NotPiece
symbol_start CloseParenthesis = WholePiece ClosePiece
symbol_start OpenParenthesis = StartsParenthesis
symbol_start OpenBracket = StartsBracket
symbol_start Backslash = StartsBinder Lambda
symbol_start Exclamation = StartsBinder ForAll
symbol_start Question = StartsBinder Exists
symbol_start At = StartsBinder Choice
symbol_start _ = StartsNothing

abbrev pub start : Token → Start
start (Name name) = WholePiece (AtomPiece (Bare name))
start (Number digits) = StartsNothing
start (Mark symbol) = symbol_start symbol

-- what the brackets of a constant may name
abbrev pub symbol_names : Symbol → Bool
symbol_names Equal = true
symbol_names At = true
symbol_names And = true
symbol_names Or = true
symbol_names Implies = true
symbol_names Tilde = true
symbol_names Exclamation = true
symbol_names Question = true
symbol_names _ = false

abbrev pub names_constant : Token → Bool
names_constant (Name name) = true
names_constant (Number digits) = false
names_constant (Mark symbol) = symbol_names symbol

-- What ends a type that is written in a piece.
pub data Ending : Type 0 where
  EndsVariable : Ending
  EndsConstant : Ending
  EndsBinder : Ending
  EndsNothing : Ending

abbrev pub symbol_ending : Symbol → Ending
symbol_ending CloseParenthesis = EndsVariable
symbol_ending CloseBracket = EndsConstant
symbol_ending Dot = EndsBinder
symbol_ending _ = EndsNothing

abbrev pub ending : Token → Ending
ending (Name name) = EndsNothing
ending (Number digits) = EndsNothing
ending (Mark symbol) = symbol_ending symbol

-- a colon
abbrev pub is_colon_symbol : Symbol → Bool
is_colon_symbol Colon = true
is_colon_symbol _ = false

abbrev pub is_colon : Token → Bool
is_colon (Name name) = false
is_colon (Number digits) = false
is_colon (Mark symbol) = is_colon_symbol symbol

abbrev pub when : {A : Type 0} → Bool → Option A → Option A
when true o = o
when false o = None

-- a type with the symbol that ends it, and then the rest
abbrev pub ended_by : Ending → Ending → Option (TypeTree × List Token) → Option (TypeTree × List Token)
ended_by EndsVariable EndsVariable o = o
ended_by EndsConstant EndsConstant o = o
ended_by EndsBinder EndsBinder o = o
ended_by _ _ o = None

abbrev pub type_until : Ending → Option (TypeTree × List Token) → Option (TypeTree × List Token)
type_until wanted None = None
type_until wanted (Some (tree, [])) = None
type_until wanted (Some (tree, token ∷ rest)) = ended_by wanted (ending token) (Some (tree, rest))

-- a colon, a type and the symbol that ends it
abbrev pub typed : Ending → List Token → Option (TypeTree × List Token)
typed wanted [] = None
typed wanted (token ∷ rest) = when (is_colon token) (type_until wanted (run rest [] None))

abbrev pub made : (TypeTree → Lexeme) → Option (TypeTree × List Token) → Option (Lexeme × List Token)
made make None = None
made make (Some x) = Some (make x.0, x.1)

-- a name with its type, behind a binder
abbrev pub binder_piece : Binder → List Token → Option (Lexeme × List Token)
binder_piece binder [] = None
binder_piece binder (Name name ∷ rest) = made (BinderPiece binder name) (typed EndsBinder rest)
binder_piece binder (Number digits ∷ rest) = None
binder_piece binder (Mark symbol ∷ rest) = None

abbrev pub bracket_piece : List Token → Option (Lexeme × List Token)
bracket_piece [] = None
bracket_piece (token ∷ rest) = when (names_constant token) (made (λ tree. AtomPiece (Constant token tree)) (typed EndsConstant rest))

-- whether a colon stands at the front
abbrev pub has_colon : List Token → Bool
has_colon [] = false
has_colon (token ∷ rest) = is_colon token

abbrev pub if_else : {A : Type 0} → Bool → A → A → A
if_else true x y = x
if_else false x y = y

-- a variable with its type, where a name and a colon come next, or the parenthesis alone
abbrev pub parenthesis_piece : List Token → Option (Lexeme × List Token)
parenthesis_piece [] = Some (OpenPiece, [])
parenthesis_piece (Name name ∷ rest) =
    if_else (has_colon rest) (made (λ tree. AtomPiece (Variable name tree)) (typed EndsVariable rest)) (Some (OpenPiece, Name name ∷ rest))
parenthesis_piece (Number digits ∷ rest) = Some (OpenPiece, Number digits ∷ rest)
parenthesis_piece (Mark symbol ∷ rest) = Some (OpenPiece, Mark symbol ∷ rest)

abbrev pub started : Start → List Token → Option (Lexeme × List Token)
started (WholePiece piece) rest = Some (piece, rest)
started StartsParenthesis rest = parenthesis_piece rest
started StartsBracket rest = bracket_piece rest
started (StartsBinder binder) rest = binder_piece binder rest
started StartsNothing rest = None

abbrev pub piece_at : List Token → Option (Lexeme × List Token)
piece_at [] = None
piece_at (token ∷ rest) = started (start token) rest
