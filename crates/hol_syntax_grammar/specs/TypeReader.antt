-- How a type is read: a machine over tokens with a stack of what is open.
use Rattle.std.specs.Prelude.{ℕ, List, [], ◌∷◌, length, Bool, true, false, nat_lt, Option, None, Some}
use Rattle.hol_model.specs.declared.limits.TheConstants.{TYPE_NESTING_LIMIT}
use Rattle.hol_model.specs.declared.symbol.Symbol.{Symbol}
use Rattle.hol_model.specs.declared.symbol.Symbol.TheVariants.{Arrow, OpenParenthesis, CloseParenthesis}
use Rattle.hol_model.specs.Texts.Token.{Token, Name, Number, Mark}
use Rattle.hol_model.specs.Texts.TypeGrammar.{TypeTree, Named, Enclosed, Function}

-- What a token is to a type.
pub data Role : Type 0 where
  IsName : List ℕ → Role
  Opens : Role
  Closes : Role
  Continues : Role
  Stops : Role

abbrev pub symbol_role : Symbol → Role
symbol_role Arrow = Continues
symbol_role OpenParenthesis = Opens
symbol_role CloseParenthesis = Closes
symbol_role _ = Stops

abbrev pub role : Token → Role
role (Name bytes) = IsName bytes
role (Number bytes) = Stops
role (Mark symbol) = symbol_role symbol

-- What is open: a parenthesis, or an arrow with its left side.
pub data Pending : Type 0 where
  Parenthesis : Pending
  LeftOf : TypeTree → Pending

-- the arrows that end here are applied
abbrev pub close : List Pending → TypeTree → List Pending × TypeTree
close [] t = ([], t)
close (Parenthesis ∷ opens) t = (Parenthesis ∷ opens, t)
close (LeftOf a ∷ opens) t = close opens (Function a t)

-- What a token does: the machine goes on, the type ended before the token, or there is no type.
pub data Turn : Type 0 where
  Goes : List Pending → Option TypeTree → Turn
  Ends : TypeTree → Turn
  Fails : Turn

abbrev pub if_room : Bool → Turn → Turn
if_room true t = t
if_room false t = Fails

-- one more is open
abbrev pub open_one : Pending → List Pending → Turn
open_one o opens = if_room (nat_lt (length opens) TYPE_NESTING_LIMIT) (Goes (o ∷ opens) None)

-- behind a closing parenthesis
abbrev pub closed : List Pending × TypeTree → Turn
closed ([], t) = Ends t
closed (Parenthesis ∷ opens, t) = Goes opens (Some (Enclosed t))
closed (LeftOf a ∷ opens, t) = Fails

-- at the end of the type
abbrev pub finished : List Pending × TypeTree → Turn
finished ([], t) = Ends t
finished (o ∷ opens, t) = Fails

abbrev pub turn : Role → List Pending → Option TypeTree → Turn
turn (IsName bytes) opens None = Goes opens (Some (Named bytes))
turn Opens opens None = open_one Parenthesis opens
turn Closes opens None = Fails
turn Continues opens None = Fails
turn Stops opens None = Fails
turn (IsName bytes) opens (Some t) = finished (close opens t)
turn Opens opens (Some t) = finished (close opens t)
turn Closes opens (Some t) = closed (close opens t)
turn Continues opens (Some t) = open_one (LeftOf t) opens
turn Stops opens (Some t) = finished (close opens t)

-- the tree at the front of the tokens, and the tokens behind it
abbrev pub run : List Token → List Pending → Option TypeTree → Option (TypeTree × List Token)
run [] opens current = elim (turn Stops opens current) [ Goes o c ↦ None | Ends t ↦ Some (t, []) | Fails ↦ None ]
run (token ∷ tokens) opens current =
    elim (turn (role token) opens current) [ Goes o c ↦ run tokens o c | Ends t ↦ Some (t, token ∷ tokens) | Fails ↦ None ]
