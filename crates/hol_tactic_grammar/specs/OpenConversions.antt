-- What stands around a unit of a conversion while it is read: the open places, the innermost first.
use Rattle.std.specs.Prelude.{◌≡◌, ℕ, ◌+◌, ◌-◌, ◌*◌, ◌<◌, ◌≤◌, List, [], ◌∷◌, map, length, codes, Result, Ok, Err}
use Rattle.hol_model.specs.declared.symbol.Symbol.TheVariants.{OpenParenthesis}
use Rattle.hol_model.specs.Texts.Token.{Token, Name, Mark}
use Rattle.hol_model_sessions.specs.ConversionGrammar as grammar
use Rattle.hol_model_sessions.specs.ConversionGrammar.{conversional_word, thenc_chain, ConversionChoice, orelsec_chain, choice_tokens, conversion_tokens, choice_depth, conversion_depth}
use Rattle.hol_model_sessions.specs.SessionTools.{in_order, either, conversion_of_choice, conversion_of_unit, further_conversions, other_conversions}
use Rattle.hol_model_sessions.specs.SessionTools as tools
use Rattle.hol_model.specs.Refining.Conversions as conversions
use Rattle.hol_model.specs.Refining.Conversions.{Conversion, Conversions}
use Rattle.hol_tactic_exprs.specs.declared.conv.Conv.{Conv}
use Rattle.hol_tactic_exprs.specs.declared.conv.Prefix.{Prefix}
use Rattle.hol_tactic_exprs.specs.Expressions.{conversion_of}
use Rattle.hol_syntax_grammar.specs.declared.token.Token.{Token as TokenHere}
use Rattle.hol_syntax_grammar.specs.declared.type_reader.ReadError.{ReadError}
use Rattle.hol_syntax_grammar.specs.declared.type_reader.ReadError.TheVariants.{Memory, Syntax}
use Rattle.hol_tactic_grammar.specs.declared.conversions.Open.{Open}
use Rattle.hol_tactic_grammar.specs.declared.conversions.Open.TheVariants.{Prefixed, Enclosed}
use Rattle.hol_tactic_grammar.specs.declared.conversions.Step.{Step}
use Rattle.hol_tactic_grammar.specs.declared.conversions.Step.TheVariants.{Begin, Close, End}
use Rattle.hol_tactic_grammar.specs.ConversionWords.{conversional_of}
use Rattle.hol_tactic_grammar.specs.Tokens.{behind, IsAt}
use Rattle.hol_tactic_grammar.specs.Conversions.{Without, Ends, IsUnit, IsChoice, Reaches, ReadsUnit}

-- ---- chains that are begun

-- these, and then the others
abbrev pub listed : List Conversion → Conversions → Conversions
listed [] others = others
listed (meaning ∷ meanings) others = conversions.more meaning (listed meanings others)

-- a chain with these in front
abbrev pub joined : (Conversion → Conversions → Conversion) → List Conversion → Conversion → Conversions → Conversion
joined make [] first others = make first others
joined make (meaning ∷ meanings) first others = make meaning (listed meanings (conversions.more first others))

abbrev pub choice_behind : List Conversion → ConversionChoice → Conversion
choice_behind taken (orelsec_chain first others) = joined either taken (conversion_of_unit first) (other_conversions others)

abbrev pub whole_behind : List Conversion → grammar.Conversion → Conversion
whole_behind taken (thenc_chain first further) = joined in_order taken (conversion_of_choice first) (further_conversions further)

-- a chain of ORELSEC, and then the rest
pub record Choice (room : ℕ) (tokens rest : List Token) : Type 0 where
  pub tree : ConversionChoice
  pub nested : choice_depth tree ≤ room
  pub spelled : tokens ≡ choice_tokens tree rest

pub record MeantChoice (room : ℕ) (tokens rest : List Token) (meaning : Conversion) : Type 0 where
  pub tree : ConversionChoice
  pub nested : choice_depth tree ≤ room
  pub spelled : tokens ≡ choice_tokens tree rest
  pub means : meaning ≡ conversion_of_choice tree

-- what was taken of a chain of ORELSEC: whatever chain is left completes it, and whatever chain the tokens are, one is left
pub record IsChoicePart (room : ℕ) (tokens left : List Token) (taken : List Conversion) : Type 0 where
  pub completes : (tree : ConversionChoice) (rest : List Token) → choice_depth tree ≤ room → left ≡ choice_tokens tree rest → MeantChoice room tokens rest (choice_behind taken tree)
  pub goes : (tree : ConversionChoice) (rest : List Token) → choice_depth tree ≤ room → Without (codes "ORELSEC") rest → tokens ≡ choice_tokens tree rest → Choice room left rest

-- the same of THENC
pub record Whole (room : ℕ) (tokens rest : List Token) : Type 0 where
  pub tree : grammar.Conversion
  pub nested : conversion_depth tree ≤ room
  pub spelled : tokens ≡ conversion_tokens tree rest

pub record MeantWhole (room : ℕ) (tokens rest : List Token) (meaning : Conversion) : Type 0 where
  pub tree : grammar.Conversion
  pub nested : conversion_depth tree ≤ room
  pub spelled : tokens ≡ conversion_tokens tree rest
  pub means : meaning ≡ tools.conversion_of tree

pub record IsWholePart (room : ℕ) (tokens left : List Token) (taken : List Conversion) : Type 0 where
  pub completes : (tree : grammar.Conversion) (rest : List Token) → conversion_depth tree ≤ room → left ≡ conversion_tokens tree rest → MeantWhole room tokens rest (whole_behind taken tree)
  pub goes : (tree : grammar.Conversion) (rest : List Token) → conversion_depth tree ≤ room → Ends rest → tokens ≡ conversion_tokens tree rest → Whole room left rest

-- ---- open places

-- a unit stands right behind a conversional
pub record IsPrefixed (prefix : Prefix) (before at : ℕ) (tokens : List TokenHere) : Type 0 where
  pub next : at ≡ before + 1
  pub front : IsAt (Name (conversional_word (conversional_of prefix))) before tokens

-- a unit stands in parentheses, behind these of a chain of THENC and these of its last chain of ORELSEC
pub record IsEnclosed (parts units : List Conversion) (before at room : ℕ) (tokens : List TokenHere) : Type 0 where
  pub start : List Token
  pub front : IsAt (Mark OpenParenthesis) before tokens
  pub further : before < at
  pub whole : IsWholePart room (behind (before + 1) tokens) start parts
  pub choice : IsChoicePart room start (behind at tokens) units

abbrev pub Opens : Open → ℕ → ℕ → ℕ → List TokenHere → Type 0
Opens (Prefixed prefix) before at room tokens = IsPrefixed prefix before at tokens
Opens (Enclosed parts units) before at room tokens = IsEnclosed (map conversion_of parts.items) (map conversion_of units.items) before at room tokens

-- the place began before, where there was room for one more
pub record IsWithin (Below : ℕ → ℕ → Type 0) (place : Open) (at room : ℕ) (tokens : List TokenHere) : Type 0 where
  pub before : ℕ
  pub above : ℕ
  pub more : room + 1 ≡ above
  pub below : Below before above
  pub opens : Opens place before at room tokens

-- a unit is wanted at the place, in which there is this room, for the unit at the start, in which there is room up to the limit
abbrev pub AreOpen : List Open → ℕ → ℕ → ℕ → ℕ → List TokenHere → Type 0
AreOpen [] at room start limit tokens = (at ≡ start) × (room ≡ limit)
AreOpen (place ∷ places) at room start limit tokens = IsWithin (λ before above. AreOpen places before above start limit tokens) place at room tokens

-- ---- steps

pub record IsWanted (places : List Open) (at start limit : ℕ) (tokens : List TokenHere) : Type 0 where
  pub room : ℕ
  pub around : AreOpen places at room start limit tokens

-- a unit that is wanted was read up to a place
pub record IsRead (places : List Open) (conv : Conv) (next start limit : ℕ) (tokens : List TokenHere) : Type 0 where
  pub at : ℕ
  pub room : ℕ
  pub around : AreOpen places at room start limit tokens
  pub reaches : Reaches at next tokens
  pub read : IsUnit room (behind at tokens) (behind next tokens) (conversion_of conv)

-- a chain of ORELSEC was read up to a place, behind these of a chain of THENC in parentheses
pub record IsReadChoice (parts : List Conv) (places : List Open) (conv : Conv) (next start limit : ℕ) (tokens : List TokenHere) : Type 0 where
  pub before : ℕ
  pub above : ℕ
  pub room : ℕ
  pub begun : List Token
  pub more : room + 1 ≡ above
  pub around : AreOpen places before above start limit tokens
  pub front : IsAt (Mark OpenParenthesis) before tokens
  pub reaches : Reaches before next tokens
  pub whole : IsWholePart room (behind (before + 1) tokens) begun (map conversion_of parts)
  pub read : IsChoice room begun (behind next tokens) (conversion_of conv)

abbrev pub Holds : Step → List Open → ℕ → ℕ → List TokenHere → Type 0
Holds (Begin at) places start limit tokens = IsWanted places at start limit tokens
Holds (Close conv next) places start limit tokens = IsRead places conv next start limit tokens
Holds (End conv next) places start limit tokens = ReadsUnit (Ok (conv, next)) start limit tokens

-- how much is left to do from a place on, where so many are open
abbrev pub work : ℕ → ℕ → List TokenHere → ℕ
work at count tokens = 2 * (length tokens - at) + count + 1

abbrev pub work_of : Step → ℕ → List TokenHere → ℕ
work_of (Begin at) count tokens = work at count tokens
work_of (Close conv next) count tokens = work next count tokens
work_of (End conv next) count tokens = 0

-- what follows a step at a place, where so many were open
pub record Goes (step : Step) (at count : ℕ) (places : List Open) (start limit : ℕ) (tokens : List TokenHere) : Type 0 where
  pub holds : Holds step places start limit tokens
  pub nearer : work_of step (length places) tokens < work at count tokens

abbrev pub Leads : Result Step ReadError → ℕ → ℕ → List Open → ℕ → ℕ → List TokenHere → Type 0
Leads (Ok step) at count places start limit tokens = Goes step at count places start limit tokens
Leads (Err error) at count places start limit tokens = ReadsUnit (Err error) start limit tokens

-- the place is opened, and a unit is wanted behind its front, unless as many are open as may be
abbrev pub Enters : Result Step ReadError → Open → ℕ → ℕ → List Open → List Open → Type 0
Enters (Ok step) place next limit old new = (step ≡ Begin next) × (length old < limit) × (new ≡ place ∷ old)
Enters (Err Memory) place next limit old new = Unit {0}
Enters (Err Syntax) place next limit old new = limit ≤ length old
