-- How a term is read: a machine over pieces with a stack of what is open.
use Rattle.std.specs.Prelude.{ℕ, ◌+◌, List, [], ◌∷◌, length, Bool, true, false, nat_lt, nat_le, nat_eq, Option, None, Some}
use Rattle.hol_model.specs.declared.limits.TheConstants.{TERM_NESTING_LIMIT}
use Rattle.hol_model.specs.Texts.TypeGrammar.{TypeTree}
use Rattle.hol_model.specs.Texts.TermGrammar.{Infix, Binder, TermTree, Leaf, Enclosed, Apply, Not, Join, Bind, infix_level, Lexeme, AtomPiece, OpenPiece, ClosePiece, NotPiece, InfixPiece, BinderPiece}

-- What waits for a term on its right.
pub data Frame : Type 0 where
  NotOf : Frame
  RightOf : Infix → TermTree → Frame
  BodyOf : Binder → List ℕ → TypeTree → Frame

-- What is open: a parenthesis, behind a function or alone, or a frame.
pub data Pending : Type 0 where
  Parenthesis : Option TermTree → Pending
  Waits : Frame → Pending

-- the level of the term that a frame makes
abbrev pub frame_level : Frame → ℕ
frame_level NotOf = 14
frame_level (RightOf c a) = infix_level c
frame_level (BodyOf q x type) = 0

abbrev pub make : Frame → TermTree → TermTree
make NotOf t = Not t
make (RightOf c a) t = Join c a t
make (BodyOf q x type) t = Bind q x type t

-- the least level that a term may have here
abbrev pub floor : List Pending → ℕ
floor [] = 0
floor (Parenthesis f ∷ opens) = 0
floor (Waits f ∷ opens) = frame_level f

abbrev pub pick : Bool → List Pending × TermTree → List Pending × TermTree → List Pending × TermTree
pick true a b = a
pick false a b = b

-- the frames of level n or more that end here are made
abbrev pub close : ℕ → List Pending → TermTree → List Pending × TermTree
close n [] t = ([], t)
close n (Parenthesis f ∷ opens) t = (Parenthesis f ∷ opens, t)
close n (Waits f ∷ opens) t = pick (nat_le n (frame_level f)) (close n opens (make f t)) (Waits f ∷ opens, t)

pub data Turn : Type 0 where
  Goes : List Pending → Option TermTree → Turn
  Fails : Turn

abbrev pub if_so : Bool → Turn → Turn
if_so true w = w
if_so false w = Fails

-- one more is open
abbrev pub open_one : Pending → List Pending → Turn
open_one o opens = if_so (nat_lt (length opens) TERM_NESTING_LIMIT) (Goes (o ∷ opens) None)

-- behind a closing parenthesis
abbrev pub closed : List Pending × TermTree → Turn
closed ([], t) = Fails
closed (Parenthesis None ∷ opens, t) = Goes opens (Some (Enclosed t))
closed (Parenthesis (Some f) ∷ opens, t) = Goes opens (Some (Apply f (Enclosed t)))
closed (Waits f ∷ opens, t) = Fails

-- behind an infix
abbrev pub joined : Infix → List Pending × TermTree → Turn
joined c x = open_one (Waits (RightOf c x.1)) x.0

abbrev pub turn : Lexeme → List Pending → Option TermTree → Turn
turn (AtomPiece a) opens None = Goes opens (Some (Leaf a))
turn OpenPiece opens None = open_one (Parenthesis None) opens
turn ClosePiece opens None = Fails
turn NotPiece opens None = open_one (Waits NotOf) opens
turn (InfixPiece c) opens None = Fails
turn (BinderPiece q x type) opens None = if_so (nat_eq (floor opens) 0) (open_one (Waits (BodyOf q x type)) opens)
turn (AtomPiece a) opens (Some t) = Goes opens (Some (Apply t (Leaf a)))
turn OpenPiece opens (Some t) = open_one (Parenthesis (Some t)) opens
turn ClosePiece opens (Some t) = closed (close 0 opens t)
turn NotPiece opens (Some t) = Fails
turn (InfixPiece c) opens (Some t) = joined c (close (infix_level c + 1) opens t)
turn (BinderPiece q x type) opens (Some t) = Fails

-- at the end
abbrev pub whole : List Pending × TermTree → Option TermTree
whole ([], t) = Some t
whole (o ∷ opens, t) = None

abbrev pub run : List Lexeme → List Pending → Option TermTree → Option TermTree
run [] opens None = None
run [] opens (Some t) = whole (close 0 opens t)
run (piece ∷ rest) opens current = elim (turn piece opens current) [ Goes o c ↦ run rest o c | Fails ↦ None ]
