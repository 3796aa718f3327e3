-- What the reader of terms keeps.
use Rattle.std.specs.Prelude.{◌≡◌, ◌⊎◌, false, List, [], ◌∷◌, ◌++◌, map, Option, None, Some, Result, Ok, Err, is_some, ℕ, ◌<◌, ◌≤◌, length, drop}
use Rattle.std.specs.declared.vec.Vec.{Vec}
use Rattle.std.specs.declared.alloc.Global.{Global}
use Rattle.hol_model.specs.declared.limits.TheConstants.{TERM_NESTING_LIMIT}
use Rattle.hol_model.specs.Texts.Token.{Token}
use Rattle.hol_model.specs.Texts.TermGrammar.{Infix, Binder, TermTree, infix_level, Lexeme, IsReadTerm}
use Rattle.hol_syntax_grammar.specs.declared.term_reader.Waiting.{Waiting}
use Rattle.hol_syntax_grammar.specs.declared.term_reader.Waiting.TheVariants.{Not, Right, Body}
use Rattle.hol_syntax_grammar.specs.declared.term_reader.Open.{Open}
use Rattle.hol_syntax_grammar.specs.declared.term_reader.Open.TheVariants.{Parenthesis as ParenthesisHere, Argument as ArgumentHere, Waits as WaitsHere}
use Rattle.hol_syntax_grammar.specs.declared.term_reader.TermReader.{TermReader}
use Rattle.hol_syntax_grammar.specs.declared.type_reader.ReadError.{ReadError}
use Rattle.hol_syntax_grammar.specs.declared.type_reader.ReadError.TheVariants.{Memory, Syntax}
use Rattle.hol_syntax_grammar.specs.declared.steps.TermStep.{TermStep as StepHere}
use Rattle.hol_syntax_grammar.specs.TermReader.{Frame, NotOf, RightOf, BodyOf, Pending, Parenthesis, Waits, Turn, Goes, Fails, turn}
use Rattle.hol_syntax_grammar.specs.TermSteps.{TermStep, EnterBinder, term_steps, FlatStep, FlatNot, FlatJoin, FlatLeave, flat_steps}
use Rattle.hol_syntax_grammar.specs.Grammar.{infix_here, binder_here}
use Rattle.hol_syntax_grammar.specs.Steps.{flat_steps_of}
use Rattle.hol_syntax_grammar.specs.Pieces.{piece_at}

-- What is open, without trees.
pub data Place : Type 0 where
  AloneOpen : Place
  ArgumentOpen : Place
  NotOpen : Place
  RightOpen : Infix → Place
  BodyOpen : Binder → Place

abbrev pub waiting_here : Waiting → Place
waiting_here Not = NotOpen
waiting_here (Right operation) = RightOpen (infix_here operation)
waiting_here (Body quantifier) = BodyOpen (binder_here quantifier)

abbrev pub open_here : Open → Place
open_here ParenthesisHere = AloneOpen
open_here ArgumentHere = ArgumentOpen
open_here (WaitsHere waiting) = waiting_here waiting

abbrev pub frame_place : Frame → Place
frame_place NotOf = NotOpen
frame_place (RightOf i a) = RightOpen i
frame_place (BodyOf q name tree) = BodyOpen q

abbrev pub place : Pending → Place
place (Parenthesis None) = AloneOpen
place (Parenthesis (Some f)) = ArgumentOpen
place (Waits frame) = frame_place frame

-- the places, the newest last
abbrev pub places : List Pending → List Place
places [] = []
places (o ∷ opens) = places opens ++ place o ∷ []

-- the level of the term that is made, and its step
abbrev pub waiting_level : Waiting → ℕ
waiting_level Not = 14
waiting_level (Right operation) = infix_level (infix_here operation)
waiting_level (Body quantifier) = 0

abbrev pub made_step : Waiting → FlatStep
made_step Not = FlatNot
made_step (Right operation) = FlatJoin (infix_here operation)
made_step (Body quantifier) = FlatLeave (binder_here quantifier)

abbrev pub open_level : Open → ℕ
open_level ParenthesisHere = 0
open_level ArgumentHere = 0
open_level (WaitsHere waiting) = waiting_level waiting

-- The last place asks for this level.
abbrev pub IsFloor : ℕ → List Open → Type 0
IsFloor level opens = (opens ≡ [] → level ≡ 0) × ((rest : List Open) (last : Open) → opens ≡ rest ++ last ∷ [] → level ≡ open_level last)

abbrev pub frame_steps : Frame → List TermStep
frame_steps NotOf = []
frame_steps (RightOf i a) = term_steps a
frame_steps (BodyOf q name tree) = EnterBinder name tree ∷ []

abbrev pub pending_steps : Pending → List TermStep
pending_steps (Parenthesis None) = []
pending_steps (Parenthesis (Some f)) = term_steps f
pending_steps (Waits frame) = frame_steps frame

-- the steps of what is open
abbrev pub steps_before : List Pending → List TermStep
steps_before [] = []
steps_before (o ∷ opens) = steps_before opens ++ pending_steps o

abbrev pub steps_so_far : List Pending → Option TermTree → List TermStep
steps_so_far opens None = steps_before opens
steps_so_far opens (Some t) = steps_before opens ++ term_steps t

-- The reader is in this state of the machine.
pub record IsState (reader : TermReader) (opens : List Pending) (current : Option TermTree) : Type 0 where
  pub places_are : map open_here reader.opens.items ≡ places opens
  pub steps_are : flat_steps_of reader.steps.items ≡ flat_steps (steps_so_far opens current)
  pub complete_is : reader.complete ≡ is_some current

-- What waits at the end is taken off, or none of the level waits there.
abbrev pub IsPoppedWaiting : Option Waiting → ℕ → List Open → List Open → Type 0
IsPoppedWaiting (Some waiting) level old new = (old ≡ new ++ WaitsHere waiting ∷ []) × (level ≤ waiting_level waiting)
IsPoppedWaiting None level old new =
    (new ≡ old) × ((rest : List Open) (waiting : Waiting) → old ≡ rest ++ WaitsHere waiting ∷ [] → waiting_level waiting < level)

-- What a turn of the reader answers is the turn of the machine.
abbrev pub Takes : Result (Unit {0}) ReadError → TermReader → Turn → Type 0
Takes (Ok x) reader turn = (opens : List Pending) × (current : Option TermTree) × (turn ≡ Goes opens current) × IsState reader opens current
Takes (Err Memory) reader turn = Unit {0}
Takes (Err Syntax) reader turn = turn ≡ Fails

-- One more is open, unless the limit is met.
abbrev pub IsOpened : Result (Unit {0}) ReadError → TermReader → TermReader → Open → Type 0
IsOpened (Ok x) old new place =
    (length old.opens.items < TERM_NESTING_LIMIT) × (new.opens.items ≡ old.opens.items ++ place ∷ [])
    × (new.steps.items ≡ old.steps.items) × (new.complete ≡ false)
IsOpened (Err Memory) old new place = Unit {0}
IsOpened (Err Syntax) old new place = TERM_NESTING_LIMIT ≤ length old.opens.items

-- A piece of so many tokens is taken, and the machine goes on behind it, or there is no piece or the machine fails at it.
abbrev pub IsStepped : Result ℕ ReadError → TermReader → List Token → List Pending → Option TermTree → Type 0
IsStepped (Ok n) reader tokens opens current =
    (piece : Lexeme) × (opens' : List Pending) × (current' : Option TermTree) × (piece_at tokens ≡ Some (piece, drop n tokens))
    × (turn piece opens current ≡ Goes opens' current') × IsState reader opens' current' × (0 < n) × (n ≤ length tokens)
IsStepped (Err Memory) reader tokens opens current = Unit {0}
IsStepped (Err Syntax) reader tokens opens current =
    (piece_at tokens ≡ None) ⊎ ((piece : Lexeme) × (rest : List Token) × (piece_at tokens ≡ Some (piece, rest)) × (turn piece opens current ≡ Fails))

-- What the reader has at the end is what the machine answers there.
abbrev pub IsWhole : Result (Unit {0}) ReadError → TermReader → Option TermTree → Type 0
IsWhole (Ok x) reader found = (tree : TermTree) × (found ≡ Some tree) × (flat_steps_of reader.steps.items ≡ flat_steps (term_steps tree))
IsWhole (Err Memory) reader found = Unit {0}
IsWhole (Err Syntax) reader found = found ≡ None

-- The steps are those of the tree that the tokens are, or there is none.
abbrev pub Parses : Result (Vec StepHere Global) ReadError → List Token → Type 0
Parses (Ok steps) tokens = (tree : TermTree) × IsReadTerm tokens tree × (flat_steps_of steps.items ≡ flat_steps (term_steps tree))
Parses (Err Memory) tokens = Unit {0}
Parses (Err Syntax) tokens = (tree : TermTree) → ¬ (IsReadTerm tokens tree)
