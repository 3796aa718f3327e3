-- Open places of the reader of refiner expressions: what stands before the place where it reads, and what is read there.
use Rattle.std.specs.Prelude.{◌≡◌, ℕ, ◌+◌, ◌*◌, ◌-◌, ◌<◌, List, [], ◌∷◌, ◌++◌, Bool, true, false, codes, map, length, reverse, Option, None, Some, Result, Ok, Err, vec_len}
use Rattle.std.proofs.Common.{Vec, Global}
use Rattle.hol_model.specs.declared.limits.TheConstants.{EXPRESSION_NESTING_LIMIT}
use Rattle.hol_model.specs.declared.symbol.Symbol.TheVariants.{OpenParenthesis, OpenBracket, CloseBracket, Semicolon}
use Rattle.hol_model.specs.Texts.Token.{Token, Name, Mark}
use Rattle.hol_model.specs.Texts.TermGrammar.{TermTree}
use Rattle.hol_model_sessions.specs.TacticGrammar.{Tactic, TacticLinks, Tactics, TacticChoice, OtherTactics, tactic_tokens, link_tokens, first_tokens, further_tokens, choice_tokens, other_tokens}
use Rattle.hol_tactic_exprs.specs.declared.tac.Tac.{Tac}
use Rattle.hol_tactic_exprs.specs.declared.tac.Link.{Link}
use Rattle.hol_syntax_grammar.specs.declared.token.Token.{Token as TokenHere}
use Rattle.hol_syntax_grammar.specs.declared.type_reader.ReadError.{ReadError}
use Rattle.hol_syntax_grammar.specs.declared.type_reader.ReadError.TheVariants.{Memory, Syntax}
use Rattle.hol_syntax_grammar.specs.TermSteps.{FlatStep}
use Rattle.hol_syntax_grammar.specs.Views.{tokens_of}
use Rattle.hol_tactic_grammar.specs.declared.tactic_reader.Open.{Open}
use Rattle.hol_tactic_grammar.specs.declared.tactic_reader.Open.TheVariants as places
use Rattle.hol_tactic_grammar.specs.declared.tactic_reader.Reading.{Reading}
use Rattle.hol_tactic_grammar.specs.declared.tactic_reader.Reading.TheVariants.{Wanted, Unit as UnitHere, Choice, Chain, Whole}
use Rattle.hol_tactic_grammar.specs.declared.tactic_reader.Reader.{Reader}
use Rattle.hol_tactic_grammar.specs.declared.tactic_reader.ListFront.{ListFront}
use Rattle.hol_tactic_grammar.specs.declared.tactic_reader.ListFront.TheVariants.{Missing, Empty, Begun}
use Rattle.hol_tactic_grammar.specs.TacticWords.{prefix_word}
use Rattle.hol_tactic_grammar.specs.Tokens.{behind, IsAt, IsNotAt}
use Rattle.hol_tactic_grammar.specs.Conversions.{Without}
use Rattle.hol_tactic_grammar.specs.Quotes.{steps_of_tree}
use Rattle.hol_tactic_grammar.specs.Expressions.{Kept, Expressions, Joint, Links, more, link, then_on, or_else, expression_of, links_of, expressions_of, expression_of_choice, others_of}
use Rattle.hol_tactic_grammar.specs.Expressions.{expression_here, joint_here}
use Rattle.hol_tactic_grammar.specs.Tactics.{Meaning, Ends, FitsOthers, FitsChoice, FitsLinks, Fits, FitsList, IsUnit, IsChoice, IsWhole, ReadsTactic}

-- ---- chains of ORELSE

-- what was read of a chain or a list, before the others
abbrev pub listed : List Meaning → Expressions (List FlatStep) → Expressions (List FlatStep)
listed [] others = others
listed (meaning ∷ meanings) others = more meaning (listed meanings others)

pub record IsChoiceOf (room : ℕ) (tokens rest : List Token) (meaning : Meaning) : Type 0 where
  pub tree : TacticChoice TermTree
  pub fits : FitsChoice room tree
  pub spelled : tokens ≡ choice_tokens tree rest
  pub means : meaning ≡ expression_of_choice steps_of_tree tree

pub record HasOthers (room : ℕ) (tokens rest : List Token) : Type 0 where
  pub others : OtherTactics TermTree
  pub fits : FitsOthers room others
  pub spelled : tokens ≡ other_tokens others rest

-- whatever others follow complete the chain, and whatever chain the tokens are goes on with others
pub record IsChoiceFront (room : ℕ) (tokens left : List Token) (first : Meaning) (taken : List Meaning) : Type 0 where
  pub completes : (others : OtherTactics TermTree) (rest : List Token) → FitsOthers room others → left ≡ other_tokens others rest
      → IsChoiceOf room tokens rest (or_else first (listed taken (others_of steps_of_tree others)))
  pub goes : (tree : TacticChoice TermTree) (rest : List Token) → FitsChoice room tree → Without (codes "ORELSE") rest → tokens ≡ choice_tokens tree rest → HasOthers room left rest

-- ---- chains of THEN and THENL

abbrev pub chained : List (Joint (List FlatStep)) → Links (List FlatStep) → Links (List FlatStep)
chained [] others = others
chained (meaning ∷ meanings) others = link meaning (chained meanings others)

pub record IsChainOf (room : ℕ) (tokens rest : List Token) (meaning : Meaning) : Type 0 where
  pub tree : Tactic TermTree
  pub fits : Fits room tree
  pub spelled : tokens ≡ tactic_tokens tree rest
  pub means : meaning ≡ expression_of steps_of_tree tree

pub record HasLinks (room : ℕ) (tokens rest : List Token) : Type 0 where
  pub links : TacticLinks TermTree
  pub fits : FitsLinks room links
  pub spelled : tokens ≡ link_tokens links rest

-- whatever links follow complete the chain, and whatever chain the tokens are goes on with links
pub record IsChainFront (room : ℕ) (tokens left : List Token) (first : Meaning) (taken : List (Joint (List FlatStep))) : Type 0 where
  pub completes : (links : TacticLinks TermTree) (rest : List Token) → FitsLinks room links → left ≡ link_tokens links rest
      → IsChainOf room tokens rest (then_on first (chained taken (links_of steps_of_tree links)))
  pub goes : (tree : Tactic TermTree) (rest : List Token) → Fits room tree → Ends rest → tokens ≡ tactic_tokens tree rest → HasLinks room left rest

-- ---- lists in brackets

pub record IsListOf (room : ℕ) (tokens rest : List Token) (meaning : Expressions (List FlatStep)) : Type 0 where
  pub tree : Tactics TermTree
  pub fits : FitsList room tree
  pub spelled : tokens ≡ Mark OpenBracket ∷ first_tokens tree rest
  pub means : meaning ≡ expressions_of steps_of_tree tree

pub record HasFurther (room : ℕ) (tokens rest : List Token) : Type 0 where
  pub list : Tactics TermTree
  pub fits : FitsList room list
  pub spelled : tokens ≡ further_tokens list rest

-- whatever follows completes the list, and whatever list the tokens are goes on with what follows
pub record IsListFront (room : ℕ) (tokens left : List Token) (taken : List Meaning) : Type 0 where
  pub completes : (list : Tactics TermTree) (rest : List Token) → FitsList room list → left ≡ further_tokens list rest
      → IsListOf room tokens rest (listed taken (expressions_of steps_of_tree list))
  pub goes : (tree : Tactics TermTree) (rest : List Token) → FitsList room tree → tokens ≡ Mark OpenBracket ∷ first_tokens tree rest → HasFurther room left rest

pub record HasNext (room : ℕ) (tokens rest : List Token) : Type 0 where
  pub next : Tactic TermTree
  pub list : Tactics TermTree
  pub next_fits : Fits room next
  pub list_fits : FitsList room list
  pub spelled : tokens ≡ tactic_tokens next (further_tokens list rest)

-- the same where one more refiner is wanted
pub record IsListPlace (room : ℕ) (tokens left : List Token) (taken : List Meaning) : Type 0 where
  pub completes : (next : Tactic TermTree) (list : Tactics TermTree) (rest : List Token) → Fits room next → FitsList room list → left ≡ tactic_tokens next (further_tokens list rest)
      → IsListOf room tokens rest (listed taken (more (expression_of steps_of_tree next) (expressions_of steps_of_tree list)))
  pub goes : (tree : Tactics TermTree) (rest : List Token) → FitsList room tree → tokens ≡ Mark OpenBracket ∷ first_tokens tree rest → HasNext room left rest

-- ---- open places, the newest first

-- a chain of ORELSE may begin behind them
abbrev pub WantsChoice : List Open → Type 0
WantsChoice [] = Unit {0}
WantsChoice (places.Prefixed prefix ∷ opens) = ⊥
WantsChoice (places.Enclosed ∷ opens) = Unit {0}
WantsChoice (places.Choice first others ∷ opens) = ⊥
WantsChoice (places.Chain first links ∷ opens) = Unit {0}
WantsChoice (places.Listed first links each ∷ opens) = Unit {0}

-- a chain of THEN and THENL may begin behind them
abbrev pub WantsChain : List Open → Type 0
WantsChain [] = Unit {0}
WantsChain (places.Prefixed prefix ∷ opens) = ⊥
WantsChain (places.Enclosed ∷ opens) = Unit {0}
WantsChain (places.Choice first others ∷ opens) = ⊥
WantsChain (places.Chain first links ∷ opens) = ⊥
WantsChain (places.Listed first links each ∷ opens) = Unit {0}

-- the tokens stand behind ORELSE of a chain, which begins where this holds of the tokens
pub record IsBehindOrElse (Before : List Token → Type 0) (room : ℕ) (tokens : List Token) (first : Meaning) (taken : List Meaning) : Type 0 where
  pub chain : List Token
  pub front : IsChoiceFront room chain (Name (codes "ORELSE") ∷ tokens) first taken
  pub before : Before chain

-- the same behind THEN
pub record IsBehindThen (Before : List Token → Type 0) (room : ℕ) (tokens : List Token) (first : Meaning) (taken : List (Joint (List FlatStep))) : Type 0 where
  pub chain : List Token
  pub front : IsChainFront room chain (Name (codes "THEN") ∷ tokens) first taken
  pub before : Before chain

-- the same in the list behind THENL
pub record IsInList (Before : List Token → Type 0) (room : ℕ) (tokens : List Token) (first : Meaning) (taken : List (Joint (List FlatStep))) (each : List Meaning) : Type 0 where
  pub chain : List Token
  pub list : List Token
  pub front : IsChainFront (room + 1) chain (Name (codes "THENL") ∷ list) first taken
  pub place : IsListPlace room list tokens each
  pub before : Before chain

-- where all tokens are to be an expression and these places are open, a unit is wanted at the front of the tokens, nested no deeper than the room
abbrev pub AreOpen : List Open → ℕ → List Token → List Token → Type 0
AreOpen [] room all tokens = (room ≡ EXPRESSION_NESTING_LIMIT) × (tokens ≡ all)
AreOpen (places.Prefixed prefix ∷ opens) room all tokens = AreOpen opens (room + 1) all (Name (prefix_word prefix) ∷ tokens)
AreOpen (places.Enclosed ∷ opens) room all tokens = AreOpen opens (room + 1) all (Mark OpenParenthesis ∷ tokens)
AreOpen (places.Choice first others ∷ opens) room all tokens =
    WantsChoice opens × IsBehindOrElse (AreOpen opens room all) room tokens (expression_here first) (map expression_here others.items)
AreOpen (places.Chain first links ∷ opens) room all tokens =
    WantsChain opens × IsBehindThen (AreOpen opens room all) room tokens (expression_here first) (map joint_here links.items)
AreOpen (places.Listed first links each ∷ opens) room all tokens =
    WantsChain opens × IsInList (AreOpen opens (room + 1) all) room tokens (expression_here first) (map joint_here links.items) (map expression_here each.items)

-- ---- what is read behind them

pub record HasUnit (opens : List Open) (room : ℕ) (all rest : List Token) (meaning : Meaning) : Type 0 where
  pub tokens : List Token
  pub opened : AreOpen opens room all tokens
  pub read : IsUnit room tokens rest meaning

pub record HasChoice (opens : List Open) (room : ℕ) (all rest : List Token) (first : Meaning) (others : List Meaning) : Type 0 where
  pub tokens : List Token
  pub wanted : WantsChoice opens
  pub opened : AreOpen opens room all tokens
  pub read : IsChoiceFront room tokens rest first others

-- one that has ended
pub record HasChoiceWhole (opens : List Open) (room : ℕ) (all rest : List Token) (meaning : Meaning) : Type 0 where
  pub tokens : List Token
  pub wanted : WantsChoice opens
  pub opened : AreOpen opens room all tokens
  pub read : IsChoice room tokens rest meaning

pub record HasChain (opens : List Open) (room : ℕ) (all rest : List Token) (first : Meaning) (links : List (Joint (List FlatStep))) : Type 0 where
  pub tokens : List Token
  pub wanted : WantsChain opens
  pub opened : AreOpen opens room all tokens
  pub read : IsChainFront room tokens rest first links

-- a whole expression
pub record HasWhole (opens : List Open) (room : ℕ) (all rest : List Token) (meaning : Meaning) : Type 0 where
  pub tokens : List Token
  pub wanted : WantsChain opens
  pub opened : AreOpen opens room all tokens
  pub read : IsWhole room tokens rest meaning

-- ---- the reader

abbrev pub opens_of : Reader → List Open
opens_of reader = reverse reader.opens.items

abbrev pub IsReading : Reading → Reader → List TokenHere → Type 0
IsReading (Wanted at) reader tokens = AreOpen (opens_of reader) reader.room (tokens_of tokens) (behind at tokens)
IsReading (UnitHere unit next) reader tokens = HasUnit (opens_of reader) reader.room (tokens_of tokens) (behind next tokens) (expression_here unit)
IsReading (Choice first others next) reader tokens =
    HasChoice (opens_of reader) reader.room (tokens_of tokens) (behind next tokens) (expression_here first) (map expression_here others.items)
IsReading (Chain first links next) reader tokens =
    HasChain (opens_of reader) reader.room (tokens_of tokens) (behind next tokens) (expression_here first) (map joint_here links.items)
IsReading (Whole tactic) reader tokens = ReadsTactic (Ok tactic) tokens

-- more than the turns that are left: each takes tokens, or makes what is read a part of more
abbrev pub turns_left : Reading → Reader → List TokenHere → ℕ
turns_left (Wanted at) reader tokens = 8 * (length tokens - at) + 4 * vec_len reader.opens + 1
turns_left (UnitHere unit next) reader tokens = 8 * (length tokens - next) + 4 * vec_len reader.opens + 4
turns_left (Choice first others next) reader tokens = 8 * (length tokens - next) + 4 * vec_len reader.opens + 3
turns_left (Chain first links next) reader tokens = 8 * (length tokens - next) + 4 * vec_len reader.opens + 2
turns_left (Whole tactic) reader tokens = 0

-- the reader goes on, with fewer turns left, or the tokens are no expression, or memory is short
abbrev pub Goes : Result Reading ReadError → Reader → List TokenHere → ℕ → Type 0
Goes (Ok reading) reader tokens turns = IsReading reading reader tokens × (turns_left reading reader tokens < turns)
Goes (Err error) reader tokens turns = ReadsTactic (Err error) tokens

-- one more place is open, and a unit is wanted behind it
abbrev pub Waits : Result Reading ReadError → Reader → Reader → Open → ℕ → Type 0
Waits (Ok reading) old new place next =
    (reading ≡ Wanted next) × (opens_of new ≡ place ∷ opens_of old) × (new.room ≡ old.room) × (vec_len new.opens ≡ vec_len old.opens + 1)
Waits (Err Memory) old new place next = Unit {0}
Waits (Err Syntax) old new place next = ⊥

-- the same where there is room for it
abbrev pub Nests : Result Reading ReadError → Reader → Reader → Open → ℕ → Type 0
Nests (Ok reading) old new place next =
    (reading ≡ Wanted next) × (opens_of new ≡ place ∷ opens_of old) × (new.room + 1 ≡ old.room) × (vec_len new.opens ≡ vec_len old.opens + 1)
Nests (Err Memory) old new place next = Unit {0}
Nests (Err Syntax) old new place next = old.room ≡ 0

-- the newest open place, if there is one, is open no more
abbrev pub Closes : Option Open → Reader → Reader → Type 0
Closes None old new = (opens_of old ≡ []) × (opens_of new ≡ []) × (new.room ≡ old.room) × (vec_len new.opens ≡ vec_len old.opens)
Closes (Some place) old new = (opens_of old ≡ place ∷ opens_of new) × (new.room ≡ old.room) × (vec_len new.opens + 1 ≡ vec_len old.opens)

-- what stands behind THENL: no list for which there is room, an empty one, or the front of another
abbrev pub IsListFrontAt : ListFront → ℕ → ℕ → List TokenHere → Type 0
IsListFrontAt Missing room at tokens = 0 < room → IsNotAt (Mark OpenBracket) (at + 1) tokens
IsListFrontAt Empty room at tokens = (0 < room) × IsAt (Mark OpenBracket) (at + 1) tokens × IsAt (Mark CloseBracket) (at + 2) tokens
IsListFrontAt Begun room at tokens = (0 < room) × IsAt (Mark OpenBracket) (at + 1) tokens × IsNotAt (Mark CloseBracket) (at + 2) tokens

-- one more stands at the end
abbrev pub Adds : {A : Type 0} → Result Unit ReadError → A → List A → List A → Type 0
Adds (Ok done) item old new = new ≡ old ++ item ∷ []
Adds (Err Memory) item old new = Unit {0}
Adds (Err Syntax) item old new = ⊥

-- the list has one more refiner, and goes on or ends
abbrev pub AddsElement : Result Bool ReadError → Tac Kept → List (Tac Kept) → List (Tac Kept) → ℕ → List TokenHere → Type 0
AddsElement (Ok true) tactic old new next tokens = (new ≡ old ++ tactic ∷ []) × IsAt (Mark Semicolon) next tokens
AddsElement (Ok false) tactic old new next tokens = (new ≡ old ++ tactic ∷ []) × IsAt (Mark CloseBracket) next tokens
AddsElement (Err Memory) tactic old new next tokens = Unit {0}
AddsElement (Err Syntax) tactic old new next tokens = IsNotAt (Mark CloseBracket) next tokens × IsNotAt (Mark Semicolon) next tokens

-- a chain is read whose last link is this
abbrev pub IsChainWith : Tac Kept → Vec (Link Kept) Global → Link Kept → ℕ → Reader → List TokenHere → Type 0
IsChainWith first links last next reader tokens = (all : List (Link Kept)) → all ≡ links.items ++ last ∷ []
    → HasChain (opens_of reader) reader.room (tokens_of tokens) (behind next tokens) (expression_here first) (map joint_here all)

abbrev pub unit_read : Result (Tac Kept × ℕ) ReadError → Result Reading ReadError
unit_read (Ok x) = Ok (UnitHere x.0 x.1)
unit_read (Err error) = Err error

abbrev pub unit_made : Result (Tac Kept) ReadError → ℕ → Result Reading ReadError
unit_made (Ok tactic) next = Ok (UnitHere tactic next)
unit_made (Err error) next = Err error
