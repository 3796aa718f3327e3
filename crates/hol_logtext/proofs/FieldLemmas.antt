-- Names and numbers as fields.
use Rattle.std.proofs.Common.{◌≡◌, ℕ, ◌<◌, ◌≤◌, ◌^◌, List, [], ◌∷◌, Bool, true, false, ◌&&◌, Option, Some, None, Result, Ok, refl, sym, ◌∙◌, ap, subst, arith, rules, if◌then◌else◌}
use Rattle.std.specs.Prelude.{decimal, nat_le}
use Rattle.std.specs.Str.{bytes_eq, IsUtf8, IsAscii, all_ascii_digits}
use Rattle.std.specs.Str.Parse.{ParsesUnsigned}
use Rattle.std.proofs.lemmas.Bool.{leb-true, le-leb}
use Rattle.std.proofs.lemmas.Slice.Eq.{bytes_eq-Decides}
use Rattle.std.proofs.lemmas.Str.{IsUtf8-from_ascii}
use Rattle.std.proofs.lemmas.Str.Ascii.{IsAscii-nil, IsAscii-cons}
use Rattle.std.proofs.lemmas.Str.Parse.{IsNumeralModel, numerals_by_fold}
use Rattle.std.proofs.lemmas.Fmt.{parse-decimal, IsAscii-decimal, digits_decimal, digits_value-decimal}
use Rattle.hol_model.specs.declared.limits.TheConstants.{NUMBER_LIMIT}
use Rattle.hol_model.specs.Texts.Lexing.{digits_value, numeral_value}
use Rattle.hol_model.proofs.Tests.{first_of_both, second_of_both}
use Rattle.hol_logtext.specs.Fields.{is_name_byte, all_name_bytes, is_log_name, number_of}

-- names

all_name_bytes-ascii : (bytes : List ℕ) → all_name_bytes bytes ≡ true → IsAscii bytes
all_name_bytes-ascii [] all = IsAscii-nil
all_name_bytes-ascii (byte ∷ bytes) all =
    let small = leb-true byte 126 (second_of_both (nat_le 33 byte) (nat_le byte 126) (first_of_both (is_name_byte byte) (all_name_bytes bytes) all)) in
    IsAscii-cons byte bytes (omega arith) (all_name_bytes-ascii bytes (second_of_both (is_name_byte byte) (all_name_bytes bytes) all))

pub name-utf8 : (field : List ℕ) → is_log_name field ≡ true → IsUtf8 field
name-utf8 [] is = cc
name-utf8 (first ∷ rest) is = IsUtf8-from_ascii (first ∷ rest) (all_name_bytes-ascii (first ∷ rest) is)

-- numbers

pub decimal-utf8 : (number : ℕ) (bytes : List ℕ) → number < 2 ^ 32 → bytes ≡ decimal number → IsUtf8 bytes
decimal-utf8 number bytes small same = subst IsUtf8 (sym same) (IsUtf8-from_ascii (decimal number) (IsAscii-decimal number (omega arith)))

pub parsed : {E : Type 0} (number : ℕ) (bytes : List ℕ) (result : Result ℕ E) → number < 2 ^ 32 → bytes ≡ decimal number → ParsesUnsigned 32 10 bytes result → result ≡ Ok number
parsed number bytes result small same parses = parse-decimal 32 number bytes result small (omega arith) same parses

own : IsNumeralModel (λ bytes. all_ascii_digits bytes ≡ true) numeral_value
own = numerals_by_fold _ (search rules) digits_value (search rules)

value-decimal : (number : ℕ) → number < 2 ^ 32 → numeral_value (decimal number) ≡ number
value-decimal number small = digits_value-decimal own number (omega arith)

-- a field that is a number is what is written for it
pub number_of-is : (field : List ℕ) (number : ℕ) → number_of field ≡ Some number → (field ≡ decimal number) × (number ≤ NUMBER_LIMIT)
number_of-is field number is = go (nat_le (numeral_value field) NUMBER_LIMIT && bytes_eq (decimal (numeral_value field)) field) refl is
  where
    go : (test : Bool) → (nat_le (numeral_value field) NUMBER_LIMIT && bytes_eq (decimal (numeral_value field)) field) ≡ test
        → (if test then Some (numeral_value field) else None) ≡ Some number → (field ≡ decimal number) × (number ≤ NUMBER_LIMIT)
    go true passed found =
        let same : numeral_value field ≡ number = cc in
        let written = (bytes_eq-Decides (decimal (numeral_value field)) field).0 (second_of_both (nat_le (numeral_value field) NUMBER_LIMIT) (bytes_eq (decimal (numeral_value field)) field) passed) in
        let within = leb-true (numeral_value field) NUMBER_LIMIT (first_of_both (nat_le (numeral_value field) NUMBER_LIMIT) (bytes_eq (decimal (numeral_value field)) field) passed) in
        (sym written ∙ ap decimal same, subst (λ (n : ℕ). n ≤ NUMBER_LIMIT) same within)
    go false passed found = cc

-- and what is written for a number is that number
pub number_of-decimal : (number : ℕ) → number ≤ NUMBER_LIMIT → number_of (decimal number) ≡ Some number
number_of-decimal number within =
    let value : numeral_value (decimal number) ≡ number = value-decimal number (omega arith) in
    rw (value, le-leb number NUMBER_LIMIT within, (bytes_eq-Decides (decimal number) (decimal number)).1 refl) refl

pub number_of-written : (field : List ℕ) (number : ℕ) → number ≤ NUMBER_LIMIT → field ≡ decimal number → Some number ≡ number_of field
number_of-written field number within same = sym (ap number_of same ∙ number_of-decimal number within)

pub number_of-none : (field : List ℕ) → ((number : ℕ) → number < 2 ^ 32 → ¬ (field ≡ decimal number)) → None ≡ number_of field
number_of-none field none = go (number_of field) refl
  where
    go : (found : Option ℕ) → number_of field ≡ found → None ≡ found
    go None is = refl
    go (Some number) is = let written = number_of-is field number is in absurd (none number (omega (arith, written.1)) written.0)

pub decimal-digits : (number : ℕ) → number ≤ NUMBER_LIMIT → all_ascii_digits (decimal number) ≡ true
decimal-digits number within = digits_decimal own number (omega arith)
