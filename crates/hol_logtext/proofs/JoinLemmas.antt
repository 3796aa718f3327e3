-- The text of fields, and the fields of a text.
use Rattle.std.proofs.Common.{◌≡◌, ℕ, List, [], ◌∷◌, Bool, true, false, ◌==◌, ◌&&◌, refl, sym, ◌∙◌, ap, map, append-nil, if◌then◌else◌}
use Rattle.std.specs.Prelude.{decimal, nat_le}
use Rattle.std.specs.Str.{all_ascii_digits}
use Rattle.std.proofs.lemmas.Bool.{eqb-true}
use Rattle.hol_model.proofs.Tests.{first_of_both, second_of_both}
use Rattle.hol_logtext.specs.Fields.{space, joined, onto_first, split_fields, has_space, is_name_byte, all_name_bytes}
use Rattle.hol_logtext.specs.LineText.{IsLogName, IsLogNumber, AreLogNumbers, ArePairsOfNumbers, pair_fields}
use Rattle.hol_logtext.proofs.FieldLemmas.{decimal-digits}
use Rattle.hol_logtext.proofs.SplitLemmas.{split_behind, split_one}

-- the fields of a text are joined to the text

not_empty : (text : List ℕ) → split_fields text ≡ [] → ⊥
not_empty [] is = cc
not_empty (byte ∷ text) is = go (byte == space) (split_fields text) is
  where
    go : (test : Bool) (parts : List (List ℕ)) → (if test then [] ∷ parts else onto_first byte parts) ≡ [] → ⊥
    go true parts is = cc
    go false [] is = cc
    go false (part ∷ parts) is = cc

pub joined-split : (text : List ℕ) → joined (split_fields text) [] ≡ text
joined-split [] = refl
joined-split (byte ∷ text) = go (byte == space) (split_fields text) refl refl (joined-split text)
  where
    go : (test : Bool) (parts : List (List ℕ)) → (byte == space) ≡ test → split_fields text ≡ parts → joined parts [] ≡ text
        → joined (if test then [] ∷ parts else onto_first byte parts) [] ≡ byte ∷ text
    go test [] is none rest = absurd (not_empty text none)
    go true (part ∷ parts) is some rest = let same : byte ≡ space = eqb-true byte space is in λ i. sym same i ∷ rest i
    go false (part ∷ parts) is some rest = ap (λ t. byte ∷ t) rest

-- fields without spaces are the fields of their text

abbrev pub AreSpaceless : List (List ℕ) → Type 0
AreSpaceless [] = Unit {0}
AreSpaceless (field ∷ fields) = (has_space field ≡ false) × AreSpaceless fields

pub split-joined : (first : List ℕ) (fields : List (List ℕ)) → has_space first ≡ false → AreSpaceless fields → split_fields (joined (first ∷ fields) []) ≡ first ∷ fields
split-joined first [] one none = ap split_fields (append-nil first) ∙ split_one first one
split-joined first (next ∷ more) one all = split_behind first (joined (next ∷ more) []) one ∙ ap (λ rest. first ∷ rest) (split-joined next more all.0 all.1)

-- names and numbers have no space

name_byte-spaceless : (byte : ℕ) → is_name_byte byte ≡ true → (byte == space) ≡ false
name_byte-spaceless byte is = go (byte == space) refl
  where
    go : (test : Bool) → (byte == space) ≡ test → test ≡ false
    go true same = let one : byte ≡ space = eqb-true byte space same in let it : is_name_byte byte ≡ false = rw one refl in cc
    go false other = refl

all_name_bytes-spaceless : (bytes : List ℕ) → all_name_bytes bytes ≡ true → has_space bytes ≡ false
all_name_bytes-spaceless [] all = refl
all_name_bytes-spaceless (byte ∷ bytes) all =
    let one = name_byte-spaceless byte (first_of_both (is_name_byte byte) (all_name_bytes bytes) all) in
    let more : has_space bytes ≡ false = all_name_bytes-spaceless bytes (second_of_both (is_name_byte byte) (all_name_bytes bytes) all) in
    rw (one, more) refl

pub name-spaceless : (name : List ℕ) → IsLogName name → has_space name ≡ false
name-spaceless [] is = cc
name-spaceless (first ∷ rest) is = all_name_bytes-spaceless (first ∷ rest) is

digit-spaceless : (byte : ℕ) → (nat_le 48 byte && nat_le byte 57) ≡ true → (byte == space) ≡ false
digit-spaceless byte is = go (byte == space) refl
  where
    go : (test : Bool) → (byte == space) ≡ test → test ≡ false
    go true same = let one : byte ≡ space = eqb-true byte space same in let it : (nat_le 48 byte && nat_le byte 57) ≡ false = rw one refl in cc
    go false other = refl

digits-spaceless : (bytes : List ℕ) → all_ascii_digits bytes ≡ true → has_space bytes ≡ false
digits-spaceless [] all = refl
digits-spaceless (byte ∷ bytes) all =
    let one = digit-spaceless byte (first_of_both (nat_le 48 byte && nat_le byte 57) (all_ascii_digits bytes) all) in
    let more : has_space bytes ≡ false = digits-spaceless bytes (second_of_both (nat_le 48 byte && nat_le byte 57) (all_ascii_digits bytes) all) in
    rw (one, more) refl

pub number-spaceless : (number : ℕ) → IsLogNumber number → has_space (decimal number) ≡ false
number-spaceless number is = digits-spaceless (decimal number) (decimal-digits number is)

pub numbers-spaceless : (numbers : List ℕ) → AreLogNumbers numbers → AreSpaceless (map decimal numbers)
numbers-spaceless [] are = tt
numbers-spaceless (number ∷ numbers) are = (number-spaceless number are.0, numbers-spaceless numbers are.1)

pub pairs-spaceless : (pairs : List (ℕ × ℕ)) → ArePairsOfNumbers pairs → AreSpaceless (pair_fields pairs)
pairs-spaceless [] are = tt
pairs-spaceless (pair ∷ pairs) are = (number-spaceless pair.0 are.0, (number-spaceless pair.1 are.1, pairs-spaceless pairs are.2))
