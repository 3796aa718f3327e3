-- What the readers of conversions answer: which tree is at the front of tokens, and that no other reading leaves another rest.
use Rattle.std.specs.Prelude.{◌≡◌, ◌≢◌, ℕ, ◌<◌, ◌≤◌, List, ◌∷◌, codes, length, Result, Ok, Err}
use Rattle.hol_model.specs.declared.limits.TheConstants.{EXPRESSION_NESTING_LIMIT}
use Rattle.hol_model.specs.Texts.Token.{Token, Name}
use Rattle.hol_model_sessions.specs.ConversionGrammar as grammar
use Rattle.hol_model_sessions.specs.ConversionGrammar.{ConversionUnit, ConversionChoice, unit_tokens, choice_tokens, conversion_tokens, unit_depth, choice_depth, conversion_depth}
use Rattle.hol_model_sessions.specs.SessionTools as tools
use Rattle.hol_model_sessions.specs.SessionTools.{conversion_of_choice, conversion_of_unit}
use Rattle.hol_model.specs.Refining.Conversions.{Conversion}
use Rattle.hol_tactic_exprs.specs.declared.conv.Conv.{Conv}
use Rattle.hol_tactic_exprs.specs.Expressions.{conversion_of}
use Rattle.hol_syntax_grammar.specs.declared.token.Token.{Token as TokenHere}
use Rattle.hol_syntax_grammar.specs.declared.type_reader.ReadError.{ReadError}
use Rattle.hol_syntax_grammar.specs.declared.type_reader.ReadError.TheVariants.{Memory, Syntax}
use Rattle.hol_tactic_grammar.specs.Tokens.{behind}

-- the rest does not begin with the word
abbrev pub Without : List ℕ → List Token → Type 0
Without word rest = (others : List Token) → rest ≢ Name word ∷ others

-- the tokens are those of a unit, and then the rest, whatever unit is read
pub record IsUnit (room : ℕ) (tokens rest : List Token) (meaning : Conversion) : Type 0 where
  pub tree : ConversionUnit
  pub nested : unit_depth tree ≤ room
  pub spelled : tokens ≡ unit_tokens tree rest
  pub means : meaning ≡ conversion_of_unit tree
  pub only : (other : ConversionUnit) (left : List Token) → unit_depth other ≤ room → tokens ≡ unit_tokens other left → left ≡ rest

abbrev pub IsNoUnit : ℕ → List Token → Type 0
IsNoUnit room tokens = (tree : ConversionUnit) (rest : List Token) → unit_depth tree ≤ room → tokens ≢ unit_tokens tree rest

-- the same for a chain of ORELSEC that does not go on
pub record IsChoice (room : ℕ) (tokens rest : List Token) (meaning : Conversion) : Type 0 where
  pub tree : ConversionChoice
  pub nested : choice_depth tree ≤ room
  pub spelled : tokens ≡ choice_tokens tree rest
  pub means : meaning ≡ conversion_of_choice tree
  pub only : (other : ConversionChoice) (left : List Token) → choice_depth other ≤ room → Without (codes "ORELSEC") left → tokens ≡ choice_tokens other left → left ≡ rest

abbrev pub IsNoChoice : ℕ → List Token → Type 0
IsNoChoice room tokens = (tree : ConversionChoice) (rest : List Token) → choice_depth tree ≤ room → Without (codes "ORELSEC") rest → tokens ≢ choice_tokens tree rest

-- a conversion does not go on with the rest
pub record Ends (rest : List Token) : Type 0 where
  pub then : Without (codes "THENC") rest
  pub else : Without (codes "ORELSEC") rest

-- the same for a conversion that does not go on
pub record IsWhole (room : ℕ) (tokens rest : List Token) (meaning : Conversion) : Type 0 where
  pub tree : grammar.Conversion
  pub nested : conversion_depth tree ≤ room
  pub spelled : tokens ≡ conversion_tokens tree rest
  pub means : meaning ≡ tools.conversion_of tree
  pub only : (other : grammar.Conversion) (left : List Token) → conversion_depth other ≤ room → Ends left → tokens ≡ conversion_tokens other left → left ≡ rest

abbrev pub IsNoWhole : ℕ → List Token → Type 0
IsNoWhole room tokens = (tree : grammar.Conversion) (rest : List Token) → conversion_depth tree ≤ room → Ends rest → tokens ≢ conversion_tokens tree rest

-- what was read from a place on, up to another place
pub record Reaches (at next : ℕ) (tokens : List TokenHere) : Type 0 where
  pub further : at < next
  pub within : next ≤ length tokens

abbrev pub ReadsUnit : Result (Conv × ℕ) ReadError → ℕ → ℕ → List TokenHere → Type 0
ReadsUnit (Ok x) at room tokens = Reaches at x.1 tokens × IsUnit room (behind at tokens) (behind x.1 tokens) (conversion_of x.0)
ReadsUnit (Err Memory) at room tokens = Unit {0}
ReadsUnit (Err Syntax) at room tokens = IsNoUnit room (behind at tokens)

-- the expression means this, or memory is short
abbrev pub Means : Result Conv ReadError → Conversion → Type 0
Means (Ok conv) meaning = conversion_of conv ≡ meaning
Means (Err Memory) meaning = Unit {0}
Means (Err Syntax) meaning = ⊥

-- the conversion at the front of the tokens, and how many tokens it is
abbrev pub ReadsConversion : Result (Conv × ℕ) ReadError → List TokenHere → Type 0
ReadsConversion result tokens = ReadsUnit result 0 EXPRESSION_NESTING_LIMIT tokens
