-- The fields of a line of a proof log.
use Rattle.std.specs.Prelude.{◌≡◌, ℕ, List, [], ◌∷◌, ◌++◌, Bool, false, ◌&&◌, ◌==◌, nat_le, Option, Some, None, if◌then◌else◌, decimal}
use Rattle.std.specs.List.{list_all, list_any}
use Rattle.std.specs.Str.{bytes_eq}
use Rattle.hol_model.specs.declared.limits.TheConstants.{NUMBER_LIMIT}
use Rattle.hol_model.specs.Texts.Lexing.{numeral_value}

abbrev pub space : ℕ
space = 32

abbrev pub line_feed : ℕ
line_feed = 10

-- the fields with a space before each, and then the rest
abbrev pub spaced : List (List ℕ) → List ℕ → List ℕ
spaced [] rest = rest
spaced (field ∷ fields) rest = space ∷ (field ++ spaced fields rest)

-- the fields with one space between each two, and then the rest
abbrev pub joined : List (List ℕ) → List ℕ → List ℕ
joined [] rest = rest
joined (field ∷ fields) rest = field ++ spaced fields rest

-- a byte at the front of the first part
abbrev pub onto_first : ℕ → List (List ℕ) → List (List ℕ)
onto_first byte [] = (byte ∷ []) ∷ []
onto_first byte (part ∷ parts) = (byte ∷ part) ∷ parts

-- the parts of a text before, between and behind the places of a byte
abbrev pub split_on : ℕ → List ℕ → List (List ℕ)
split_on separator [] = [] ∷ []
split_on separator (byte ∷ rest) = if byte == separator then [] ∷ split_on separator rest else onto_first byte (split_on separator rest)

abbrev pub split_fields : List ℕ → List (List ℕ)
split_fields text = split_on space text

abbrev pub has_space : List ℕ → Bool
has_space text = list_any (λ byte. byte == space) text

abbrev pub has_line_feed : List ℕ → Bool
has_line_feed bytes = list_any (λ byte. byte == line_feed) bytes

-- the first space stands between the two parts
pub record IsCut (text field rest : List ℕ) : Type 0 where
  pub whole : text ≡ field ++ space ∷ rest
  pub first : has_space field ≡ false

-- bytes 33 to 126
abbrev pub is_name_byte : ℕ → Bool
is_name_byte byte = nat_le 33 byte && nat_le byte 126

abbrev pub all_name_bytes : List ℕ → Bool
all_name_bytes = list_all is_name_byte

-- a run of such bytes, at least one
abbrev pub is_log_name : List ℕ → Bool
is_log_name [] = false
is_log_name (first ∷ rest) = is_name_byte first && all_name_bytes rest

-- the name that a field is
abbrev pub name_of : List ℕ → Option (List ℕ)
name_of field = if is_log_name field then Some field else None

-- the number that a field writes: digits without leading zeros, within the limit
abbrev pub number_of : List ℕ → Option ℕ
number_of field = let number = numeral_value field in if nat_le number NUMBER_LIMIT && bytes_eq (decimal number) field then Some number else None
