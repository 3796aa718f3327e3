-- What the reader of pieces answers.
use Rattle.std.specs.Prelude.{◌≡◌, List, [], ◌∷◌, Bool, true, false, Option, None, Some, Result, Ok, Err}
use Rattle.std.proofs.Common.{Vec, Global, Bor}
use Rattle.hol_model.specs.Texts.Token.{Token as TokenModel}
use Rattle.hol_model.specs.Texts.TypeGrammar.{TypeTree, type_steps}
use Rattle.hol_model.specs.Texts.TermGrammar.{Lexeme, AtomPiece, OpenPiece, ClosePiece, NotPiece, InfixPiece, BinderPiece}
use Rattle.hol_syntax_grammar.specs.declared.token.Token.{Token}
use Rattle.hol_syntax_grammar.specs.declared.type_reader.TypeStep.{TypeStep}
use Rattle.hol_syntax_grammar.specs.declared.type_reader.ReadError.{ReadError}
use Rattle.hol_syntax_grammar.specs.declared.type_reader.ReadError.TheVariants.{Memory, Syntax}
use Rattle.hol_syntax_grammar.specs.declared.piece_reader.Piece.{Piece}
use Rattle.hol_syntax_grammar.specs.declared.piece_reader.Piece.TheVariants.{Atom, Open, Close, Not, Join, Bind}
use Rattle.hol_syntax_grammar.specs.declared.piece_reader.Ending.{Ending as EndingHere}
use Rattle.hol_syntax_grammar.specs.declared.piece_reader.Ending.TheVariants.{Variable, Constant, Binder}
use Rattle.hol_syntax_grammar.specs.Pieces.{Ending, EndsVariable, EndsConstant, EndsBinder}
use Rattle.hol_syntax_grammar.specs.TermSteps.{flat_step, TakeAtom, EnterBinder}
use Rattle.hol_syntax_grammar.specs.Grammar.{infix_here, binder_here}
use Rattle.hol_syntax_grammar.specs.Steps.{flat_step_of}
use Rattle.hol_syntax_grammar.specs.Views.{token_of, tokens_of, steps_of}

abbrev pub ending_here : EndingHere → Ending
ending_here Variable = EndsVariable
ending_here Constant = EndsConstant
ending_here Binder = EndsBinder

-- a type that is to end like this ends so
abbrev pub ends_with : Ending → Ending → Bool
ends_with EndsVariable EndsVariable = true
ends_with EndsConstant EndsConstant = true
ends_with EndsBinder EndsBinder = true
ends_with _ _ = false

-- The piece of the code is that of the grammar.
abbrev pub IsPieceOf : Piece → Lexeme → Type 0
IsPieceOf (Atom step) (AtomPiece atom) = flat_step_of step ≡ flat_step (TakeAtom atom)
IsPieceOf Open OpenPiece = Unit {0}
IsPieceOf Close ClosePiece = Unit {0}
IsPieceOf Not NotPiece = Unit {0}
IsPieceOf (Join operation) (InfixPiece i) = infix_here operation ≡ i
IsPieceOf (Bind quantifier step) (BinderPiece q name tree) = (binder_here quantifier ≡ q) × (flat_step_of step ≡ flat_step (EnterBinder name tree))
IsPieceOf _ _ = ⊥

abbrev pub IsFirst : Option (Token × Bor (List Token)) → List TokenModel → Type 0
IsFirst None tokens = tokens ≡ []
IsFirst (Some x) tokens = tokens ≡ token_of x.0 ∷ tokens_of x.1.now

-- The steps are those of the type that is found.
abbrev pub IsTyped : Result (Vec TypeStep Global × Bor (List Token)) ReadError → Option (TypeTree × List TokenModel) → Type 0
IsTyped (Ok x) found = (tree : TypeTree) × (found ≡ Some (tree, tokens_of x.1.now)) × (steps_of x.0.items ≡ type_steps tree)
IsTyped (Err Memory) found = Unit {0}
IsTyped (Err Syntax) found = found ≡ None

-- The piece is the one that is found.
abbrev pub IsTaken : Result (Piece × Bor (List Token)) ReadError → Option (Lexeme × List TokenModel) → Type 0
IsTaken (Ok x) found = (piece : Lexeme) × (found ≡ Some (piece, tokens_of x.1.now)) × IsPieceOf x.0 piece
IsTaken (Err Memory) found = Unit {0}
IsTaken (Err Syntax) found = found ≡ None
