-- The token at the front of a text.
use Rattle.std.specs.Prelude.{ℕ, Bool, true, false, ◌==◌, nat_le, List, [], ◌∷◌, Option, None, Some}
use Rattle.hol_model.specs.declared.symbol.Symbol.{Symbol}
use Rattle.hol_model.specs.declared.symbol.Symbol.TheVariants.{Iff, Implies, Arrow, And, Or, Turnstile, Equal, Backslash, Exclamation, Question, At, Tilde, OpenParenthesis, CloseParenthesis}
use Rattle.hol_model.specs.declared.symbol.Symbol.TheVariants.{OpenBracket, CloseBracket, Colon, Dot, Comma, Semicolon, Backquote}
use Rattle.hol_model.specs.Texts.Token.{Token, Name, Number, Mark, symbol_text}
use Rattle.hol_model.specs.declared.limits.TheConstants.{NUMBER_LIMIT}
use Rattle.hol_model.specs.Texts.Lexing.{is_letter, is_digit, is_name_byte, numeral_value}

-- every symbol behind those that begin with it, the commonest first
abbrev pub symbols : List Symbol
symbols = OpenParenthesis ∷ CloseParenthesis ∷ Colon ∷ Arrow ∷ Dot ∷ Comma ∷ Implies ∷ Equal ∷ And ∷ Or ∷ Backslash
    ∷ Tilde ∷ Exclamation ∷ Question ∷ Iff ∷ Backquote ∷ Semicolon ∷ OpenBracket ∷ CloseBracket ∷ At ∷ Turnstile ∷ []

abbrev pub when : {A : Type 0} → Bool → Option A → Option A
when true o = o
when false o = None

-- what follows a text
abbrev pub strip : List ℕ → List ℕ → Option (List ℕ)
strip [] bytes = Some bytes
strip (a ∷ text) [] = None
strip (a ∷ text) (b ∷ bytes) = when (a == b) (strip text bytes)

abbrev pub or_else : Symbol → Option (List ℕ) → Option (Token × List ℕ) → Option (Token × List ℕ)
or_else symbol (Some rest) other = Some (Mark symbol, rest)
or_else symbol None other = other

-- the first of the symbols that stands at the front
abbrev pub symbol_at : List Symbol → List ℕ → Option (Token × List ℕ)
symbol_at [] bytes = None
symbol_at (symbol ∷ others) bytes = or_else symbol (strip (symbol_text symbol) bytes) (symbol_at others bytes)

abbrev pub if_else : {A : Type 0} → Bool → A → A → A
if_else true x y = x
if_else false x y = y

-- the bytes up to the first that fails the test, and from there on
abbrev pub front : (ℕ → Bool) → List ℕ → List ℕ
front p [] = []
front p (b ∷ bytes) = if_else (p b) (b ∷ front p bytes) []

abbrev pub back : (ℕ → Bool) → List ℕ → List ℕ
back p [] = []
back p (b ∷ bytes) = if_else (p b) (back p bytes) (b ∷ bytes)

abbrev pub numeral_at : ℕ → List ℕ → List ℕ → Option (Token × List ℕ)
numeral_at b [] rest = Some (Number (b ∷ []), rest)
numeral_at b (d ∷ digits) rest = if_else (b == 48) None (Some (Number (b ∷ d ∷ digits), rest))

-- whether the number that digits write is within the limit
abbrev pub is_within_limit : List ℕ → Bool
is_within_limit digits = nat_le (numeral_value digits) NUMBER_LIMIT

abbrev pub number_at : ℕ → List ℕ → List ℕ → Option (Token × List ℕ)
number_at b digits rest = when (is_within_limit (b ∷ digits)) (numeral_at b digits rest)

abbrev pub token_at : List ℕ → Option (Token × List ℕ)
token_at [] = None
token_at (b ∷ bytes) =
    if_else (is_letter b) (Some (Name (b ∷ front is_name_byte bytes), back is_name_byte bytes))
    (if_else (is_digit b) (number_at b (front is_digit bytes) (back is_digit bytes)) (symbol_at symbols (b ∷ bytes)))
