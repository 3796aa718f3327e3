-- How a text is cut into tokens: white space is free, and no token goes on into what follows it.
use Rattle.std.specs.Prelude.{◌≡◌, ◌≢◌, ℕ, ◌+◌, ◌-◌, ◌*◌, ◌≤◌, Bool, true, false, nat_le, ◌==◌, ◌&&◌, ◌||◌, List, [], ◌∷◌, ◌++◌}
use Rattle.hol_model.specs.declared.symbol.Symbol.TheVariants.{Equal, Backslash}
use Rattle.hol_model.specs.declared.limits.TheConstants.{NUMBER_LIMIT}
use Rattle.hol_model.specs.Terms.Name.{is_capital, is_small, continues_name}
use Rattle.hol_model.specs.Texts.Token.{Token, Name, Number, Mark, token_text}

-- the letters of ASCII
abbrev pub is_letter : ℕ → Bool
is_letter b = is_capital b || is_small b

abbrev pub is_digit : ℕ → Bool
is_digit b = nat_le 48 b && nat_le b 57

-- letters, digits, `_` and `'`
abbrev pub is_name_byte : ℕ → Bool
is_name_byte b = continues_name b

-- space, tab, line feed, carriage return
abbrev pub is_blank : ℕ → Bool
is_blank b = (b == 32 || b == 9) || (b == 10 || b == 13)

abbrev pub Every : (ℕ → Bool) → List ℕ → Type 0
Every p [] = Unit {0}
Every p (b ∷ bytes) = (p b ≡ true) × Every p bytes

abbrev pub IsIdentifier : List ℕ → Type 0
IsIdentifier [] = ⊥
IsIdentifier (b ∷ bytes) = (is_letter b ≡ true) × Every is_name_byte bytes

-- the number that digits write behind a number
abbrev pub digits_value : ℕ → List ℕ → ℕ
digits_value n [] = n
digits_value n (b ∷ bytes) = digits_value (n * 10 + (b - 48)) bytes

-- the number that digits write
abbrev pub numeral_value : List ℕ → ℕ
numeral_value bytes = digits_value 0 bytes

-- digits without a leading zero, within the limit
abbrev pub IsNumeral : List ℕ → Type 0
IsNumeral [] = ⊥
IsNumeral (b ∷ bytes) =
    (is_digit b ≡ true) × Every is_digit bytes × (b ≡ 48 → bytes ≡ []) × (numeral_value (b ∷ bytes) ≤ NUMBER_LIMIT)

abbrev pub IsToken : Token → Type 0
IsToken (Name bytes) = IsIdentifier bytes
IsToken (Number bytes) = IsNumeral bytes
IsToken (Mark symbol) = Unit {0}

abbrev pub StartsWithout : (ℕ → Bool) → List ℕ → Type 0
StartsWithout p [] = Unit {0}
StartsWithout p (b ∷ bytes) = p b ≡ false

-- no longer token begins where this one does
abbrev pub IsLongest : Token → List ℕ → Type 0
IsLongest (Name bytes) rest = StartsWithout is_name_byte rest
IsLongest (Number bytes) rest = StartsWithout is_digit rest
IsLongest (Mark Equal) rest = (more : List ℕ) → rest ≢ 61 ∷ 62 ∷ more
IsLongest (Mark Backslash) rest = (more : List ℕ) → rest ≢ 47 ∷ more
IsLongest (Mark _) rest = Unit {0}

-- The bytes begin with this token, and then come the rest.
pub record Begins (bytes : List ℕ) (token : Token) (rest : List ℕ) : Type 0 where
  pub valid : IsToken token
  pub spelled : bytes ≡ token_text token ++ rest
  pub longest : IsLongest token rest

-- The bytes are these tokens, with white space between them.
abbrev pub Lexes : List ℕ → List Token → Type 0
Lexes bytes [] = Every is_blank bytes
Lexes bytes (token ∷ tokens) =
    (gap : List ℕ) × (behind : List ℕ) × (rest : List ℕ) × Every is_blank gap × (bytes ≡ gap ++ behind) × Begins behind token rest × Lexes rest tokens
