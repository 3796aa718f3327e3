-- What the reader of types keeps.
use Rattle.std.specs.Prelude.{◌≡◌, Bool, true, false, List, [], ◌∷◌, ◌++◌, Option, None, Some, Result, Ok, Err, is_some, ℕ, ◌<◌, ◌≤◌, length, drop}
use Rattle.hol_model.specs.declared.limits.TheConstants.{TYPE_NESTING_LIMIT}
use Rattle.hol_model.specs.Texts.Token.{Token}
use Rattle.hol_model.specs.Texts.TypeGrammar.{TypeTree, type_steps, IsRead}
use Rattle.hol_model.specs.Texts.TypeGrammar as grammar
use Rattle.hol_syntax_grammar.specs.declared.type_reader.Open.{Open as Frame}
use Rattle.hol_syntax_grammar.specs.declared.type_reader.Open.TheVariants.{Parenthesis as ParenthesisFrame, Arrow as ArrowFrame}
use Rattle.hol_syntax_grammar.specs.declared.type_reader.TypeReader.{TypeReader}
use Rattle.hol_syntax_grammar.specs.declared.type_reader.ReadError.{ReadError}
use Rattle.hol_syntax_grammar.specs.declared.type_reader.ReadError.TheVariants.{Memory, Syntax}
use Rattle.hol_syntax_grammar.specs.TypeReader.{Pending, Parenthesis, LeftOf, Turn, Goes, Ends, Fails, run}
use Rattle.hol_syntax_grammar.specs.declared.type_reader.TypeStep.{TypeStep}
use Rattle.std.specs.declared.vec.Vec.{Vec}
use Rattle.std.specs.declared.alloc.Global.{Global}
use Rattle.hol_syntax_grammar.specs.Views.{steps_of}

-- what is open, the newest last
abbrev pub frames : List Pending → List Frame
frames [] = []
frames (Parenthesis ∷ opens) = frames opens ++ ParenthesisFrame ∷ []
frames (LeftOf a ∷ opens) = frames opens ++ ArrowFrame ∷ []

-- the steps of the left sides that are open
abbrev pub steps_before : List Pending → List grammar.TypeStep
steps_before [] = []
steps_before (Parenthesis ∷ opens) = steps_before opens
steps_before (LeftOf a ∷ opens) = steps_before opens ++ type_steps a

abbrev pub steps_so_far : List Pending → Option TypeTree → List grammar.TypeStep
steps_so_far opens None = steps_before opens
steps_so_far opens (Some t) = steps_before opens ++ type_steps t

-- The reader is in this state of the machine.
pub record IsState (reader : TypeReader) (opens : List Pending) (current : Option TypeTree) : Type 0 where
  pub frames_are : reader.opens.items ≡ frames opens
  pub steps_are : steps_of reader.steps.items ≡ steps_so_far opens current
  pub complete_is : reader.complete ≡ is_some current

-- What a turn of the reader answers is the turn of the machine.
abbrev pub Takes : Result Bool ReadError → TypeReader → Turn → Type 0
Takes (Ok true) reader turn = (opens : List Pending) × (current : Option TypeTree) × (turn ≡ Goes opens current) × IsState reader opens current
Takes (Ok false) reader turn = (t : TypeTree) × (turn ≡ Ends t) × (steps_of reader.steps.items ≡ type_steps t)
Takes (Err Memory) reader turn = Unit {0}
Takes (Err Syntax) reader turn = turn ≡ Fails

-- One more is open, unless the limit is met.
abbrev pub IsOpened : Result Bool ReadError → TypeReader → TypeReader → Frame → Type 0
IsOpened (Ok true) old new frame =
    (length old.opens.items < TYPE_NESTING_LIMIT) × (new.opens.items ≡ old.opens.items ++ frame ∷ [])
    × (new.steps.items ≡ old.steps.items) × (new.complete ≡ false)
IsOpened (Ok false) old new frame = ⊥
IsOpened (Err Memory) old new frame = Unit {0}
IsOpened (Err Syntax) old new frame = TYPE_NESTING_LIMIT ≤ length old.opens.items

-- What the reader answers is what the machine answers.
abbrev pub Reads : Result (Vec TypeStep Global × ℕ) ReadError → List Token → Type 0
Reads (Ok x) tokens = (t : TypeTree) × (run tokens [] None ≡ Some (t, drop x.1 tokens)) × (steps_of x.0.items ≡ type_steps t)
Reads (Err Memory) tokens = Unit {0}
Reads (Err Syntax) tokens = run tokens [] None ≡ None

-- The steps are those of the tree that the tokens are, or there is none.
abbrev pub ParsesType : Result (Vec TypeStep Global) ReadError → List Token → Type 0
ParsesType (Ok steps) tokens = (tree : TypeTree) × IsRead tokens tree [] × (steps_of steps.items ≡ type_steps tree)
ParsesType (Err Memory) tokens = Unit {0}
ParsesType (Err Syntax) tokens = (tree : TypeTree) → ¬ (IsRead tokens tree [])
