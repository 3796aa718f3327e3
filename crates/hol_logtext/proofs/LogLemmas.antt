-- The bytes of lines, read line by line.
use Rattle.std.proofs.Common.{◌≡◌, ℕ, List, [], ◌∷◌, ◌++◌, Bool, true, false, ◌==◌, ◌&&◌, ◌||◌, refl, sym, ◌∙◌, ap, map, append_assoc, if◌then◌else◌}
use Rattle.std.specs.Prelude.{decimal, nat_le}
use Rattle.std.specs.List.{All}
use Rattle.std.specs.Str.{all_ascii_digits}
use Rattle.std.proofs.lemmas.Bool.{eqb-true}
use Rattle.std.proofs.lemmas.List.Elements.{All-head, All-tail}
use Rattle.hol_model.specs.Logs.LogLine.{LogRule, LogLine}
use Rattle.hol_model.specs.Logs.LogLine.LogVersion.{first_version, second_version}
use Rattle.hol_model.specs.Logs.LogLine.LogRule.{refl_step, trans_step, mk_comb_step, abs_step, beta_step, assume_step, eq_mp_step, deduct_step, inst_step, inst_type_step, eta_step, select_step}
use Rattle.hol_model.specs.Logs.LogLine.LogRule.{definition_step}
use Rattle.hol_model.specs.Logs.LogLine.LogLine.{header_line, type_variable_line, bool_line, function_type_line, declared_type_line, variable_line, constant_line, combination_line}
use Rattle.hol_model.specs.Logs.LogLine.LogLine.{abstraction_line, new_type_line, new_constant_line, theorem_line, claim_line, end_line}
use Rattle.hol_model.proofs.Tests.{first_of_both, second_of_both, first_of_neither, second_of_neither}
use Rattle.hol_logtext.specs.Fields.{line_feed, has_line_feed, spaced, joined, split_on, onto_first, is_name_byte, all_name_bytes}
use Rattle.hol_logtext.specs.LineText.{IsLogName, IsLogNumber, AreLogNumbers, ArePairsOfNumbers, pair_fields, rule_fields, line_fields, line_text, line_bytes, IsWritableRule, IsWritable}
use Rattle.hol_logtext.specs.LineReading.{read_text}
use Rattle.hol_logtext.specs.LogBytes.{log_text, last_part, with_line, lines_of_parts, bytes_of_lines, text_of_lines}
use Rattle.hol_logtext.proofs.FieldLemmas.{decimal-digits}
use Rattle.hol_logtext.proofs.LineLemmas.{reading_is_exact}

neither : (p q : Bool) → p ≡ false → q ≡ false → (p || q) ≡ false
neither p q first second = rw (first, second) refl

-- ---- the first line of a text, and a text that is cut short

split_line : (line rest : List ℕ) → has_line_feed line ≡ false → split_on line_feed (line ++ line_feed ∷ rest) ≡ line ∷ split_on line_feed rest
split_line [] rest none = refl
split_line (byte ∷ line) rest none =
    let other : (byte == line_feed) ≡ false = first_of_neither (byte == line_feed) (has_line_feed line) none in
    let deeper : split_on line_feed (line ++ line_feed ∷ rest) ≡ line ∷ split_on line_feed rest = split_line line rest (second_of_neither (byte == line_feed) (has_line_feed line) none) in
    rw (other, deeper) refl

split_last : (line : List ℕ) → has_line_feed line ≡ false → split_on line_feed line ≡ line ∷ []
split_last [] none = refl
split_last (byte ∷ line) none =
    let other : (byte == line_feed) ≡ false = first_of_neither (byte == line_feed) (has_line_feed line) none in
    let deeper : split_on line_feed line ≡ line ∷ [] = split_last line (second_of_neither (byte == line_feed) (has_line_feed line) none) in
    rw (other, deeper) refl

onto_first_lines : (part : List ℕ) (byte : ℕ) (parts : List (List ℕ)) → lines_of_parts (part ∷ onto_first byte parts) ≡ with_line (read_text part) (lines_of_parts (onto_first byte parts))
onto_first_lines part byte [] = refl
onto_first_lines part byte (first ∷ parts) = refl

lines_behind : (part rest : List ℕ) → lines_of_parts (part ∷ split_on line_feed rest) ≡ with_line (read_text part) (lines_of_parts (split_on line_feed rest))
lines_behind part [] = refl
lines_behind part (byte ∷ rest) = go (byte == line_feed)
  where
    go : (test : Bool) → lines_of_parts (part ∷ (if test then [] ∷ split_on line_feed rest else onto_first byte (split_on line_feed rest)))
        ≡ with_line (read_text part) (lines_of_parts (if test then [] ∷ split_on line_feed rest else onto_first byte (split_on line_feed rest)))
    go true = refl
    go false = onto_first_lines part byte (split_on line_feed rest)

pub log_text_line : (line rest : List ℕ) → has_line_feed line ≡ false → log_text (line ++ line_feed ∷ rest) ≡ with_line (read_text line) (log_text rest)
log_text_line line rest none = ap lines_of_parts (split_line line rest none) ∙ lines_behind line rest

pub log_text_last : (line : List ℕ) → has_line_feed line ≡ false → log_text line ≡ record { lines = []; rest = last_part line }
log_text_last line none = ap lines_of_parts (split_last line none)

-- ---- the text of a line has no line feed

name_byte-feedless : (byte : ℕ) → is_name_byte byte ≡ true → (byte == line_feed) ≡ false
name_byte-feedless byte is = go (byte == line_feed) refl
  where
    go : (test : Bool) → (byte == line_feed) ≡ test → test ≡ false
    go true same = let one : byte ≡ line_feed = eqb-true byte line_feed same in let it : is_name_byte byte ≡ false = rw one refl in cc
    go false other = refl

all_name_bytes-feedless : (bytes : List ℕ) → all_name_bytes bytes ≡ true → has_line_feed bytes ≡ false
all_name_bytes-feedless [] all = refl
all_name_bytes-feedless (byte ∷ bytes) all =
    neither (byte == line_feed) (has_line_feed bytes) (name_byte-feedless byte (first_of_both (is_name_byte byte) (all_name_bytes bytes) all))
    (all_name_bytes-feedless bytes (second_of_both (is_name_byte byte) (all_name_bytes bytes) all))

name-feedless : (name : List ℕ) → IsLogName name → has_line_feed name ≡ false
name-feedless [] is = refl
name-feedless (first ∷ rest) is = all_name_bytes-feedless (first ∷ rest) is

digit-feedless : (byte : ℕ) → (nat_le 48 byte && nat_le byte 57) ≡ true → (byte == line_feed) ≡ false
digit-feedless byte is = go (byte == line_feed) refl
  where
    go : (test : Bool) → (byte == line_feed) ≡ test → test ≡ false
    go true same = let one : byte ≡ line_feed = eqb-true byte line_feed same in let it : (nat_le 48 byte && nat_le byte 57) ≡ false = rw one refl in cc
    go false other = refl

digits-feedless : (bytes : List ℕ) → all_ascii_digits bytes ≡ true → has_line_feed bytes ≡ false
digits-feedless [] all = refl
digits-feedless (byte ∷ bytes) all =
    neither (byte == line_feed) (has_line_feed bytes) (digit-feedless byte (first_of_both (nat_le 48 byte && nat_le byte 57) (all_ascii_digits bytes) all))
    (digits-feedless bytes (second_of_both (nat_le 48 byte && nat_le byte 57) (all_ascii_digits bytes) all))

number-feedless : (number : ℕ) → IsLogNumber number → has_line_feed (decimal number) ≡ false
number-feedless number is = digits-feedless (decimal number) (decimal-digits number is)

-- each of the fields
abbrev AreFeedless : List (List ℕ) → Type 0
AreFeedless [] = Unit {0}
AreFeedless (field ∷ fields) = (has_line_feed field ≡ false) × AreFeedless fields

numbers-feedless : (numbers : List ℕ) → AreLogNumbers numbers → AreFeedless (map decimal numbers)
numbers-feedless [] are = tt
numbers-feedless (number ∷ numbers) are = (number-feedless number are.0, numbers-feedless numbers are.1)

pairs-feedless : (pairs : List (ℕ × ℕ)) → ArePairsOfNumbers pairs → AreFeedless (pair_fields pairs)
pairs-feedless [] are = tt
pairs-feedless (pair ∷ pairs) are = (number-feedless pair.0 are.0, (number-feedless pair.1 are.1, pairs-feedless pairs are.2))

rule-feedless : (rule : LogRule) → IsWritableRule rule → AreFeedless (rule_fields rule)
rule-feedless (refl_step t) w = (refl, (number-feedless t w, tt))
rule-feedless (trans_step i j) w = (refl, (number-feedless i w.0, (number-feedless j w.1, tt)))
rule-feedless (mk_comb_step i j) w = (refl, (number-feedless i w.0, (number-feedless j w.1, tt)))
rule-feedless (abs_step t i) w = (refl, (number-feedless t w.0, (number-feedless i w.1, tt)))
rule-feedless (beta_step t) w = (refl, (number-feedless t w, tt))
rule-feedless (assume_step t) w = (refl, (number-feedless t w, tt))
rule-feedless (eq_mp_step i j) w = (refl, (number-feedless i w.0, (number-feedless j w.1, tt)))
rule-feedless (deduct_step i j) w = (refl, (number-feedless i w.0, (number-feedless j w.1, tt)))
rule-feedless (inst_step i pairs) w = (refl, (number-feedless i w.0, pairs-feedless pairs w.1))
rule-feedless (inst_type_step i pairs) w = (refl, (number-feedless i w.0, pairs-feedless pairs w.1))
rule-feedless eta_step w = (refl, tt)
rule-feedless select_step w = (refl, tt)
rule-feedless (definition_step name t) w = (refl, (name-feedless name w.0, (number-feedless t w.1, tt)))

fields-feedless : (line : LogLine) → IsWritable line → AreFeedless (line_fields line)
fields-feedless (header_line first_version) w = (refl, (refl, tt))
fields-feedless (header_line second_version) w = (refl, (refl, tt))
fields-feedless (type_variable_line name) w = (refl, (refl, (name-feedless name w, tt)))
fields-feedless bool_line w = (refl, (refl, tt))
fields-feedless (function_type_line a b) w = (refl, (refl, (number-feedless a w.0, (number-feedless b w.1, tt))))
fields-feedless (declared_type_line name) w = (refl, (refl, (name-feedless name w, tt)))
fields-feedless (variable_line name ty) w = (refl, (refl, (name-feedless name w.0, (number-feedless ty w.1, tt))))
fields-feedless (constant_line name ty) w = (refl, (refl, (name-feedless name w.0, (number-feedless ty w.1, tt))))
fields-feedless (combination_line f a) w = (refl, (refl, (number-feedless f w.0, (number-feedless a w.1, tt))))
fields-feedless (abstraction_line v t) w = (refl, (refl, (number-feedless v w.0, (number-feedless t w.1, tt))))
fields-feedless (new_type_line name) w = (refl, (name-feedless name w, tt))
fields-feedless (new_constant_line name ty) w = (refl, (name-feedless name w.0, (number-feedless ty w.1, tt)))
fields-feedless (theorem_line rule) w = (refl, rule-feedless rule w)
fields-feedless (claim_line name i c hs) w = (refl, (name-feedless name w.0, (number-feedless i w.1, (number-feedless c w.2, numbers-feedless hs w.3))))
fields-feedless (end_line count) w = (refl, (number-feedless count w, tt))

append-feedless : (first rest : List ℕ) → has_line_feed first ≡ false → has_line_feed rest ≡ false → has_line_feed (first ++ rest) ≡ false
append-feedless [] rest none later = later
append-feedless (byte ∷ first) rest none later =
    neither (byte == line_feed) (has_line_feed (first ++ rest)) (first_of_neither (byte == line_feed) (has_line_feed first) none)
    (append-feedless first rest (second_of_neither (byte == line_feed) (has_line_feed first) none) later)

spaced-feedless : (fields : List (List ℕ)) → AreFeedless fields → has_line_feed (spaced fields []) ≡ false
spaced-feedless [] are = refl
spaced-feedless (field ∷ fields) are = append-feedless field (spaced fields []) are.0 (spaced-feedless fields are.1)

joined-feedless : (fields : List (List ℕ)) → AreFeedless fields → has_line_feed (joined fields []) ≡ false
joined-feedless [] are = refl
joined-feedless (field ∷ fields) are = append-feedless field (spaced fields []) are.0 (spaced-feedless fields are.1)

-- ---- line by line

spaced-rest : (fields : List (List ℕ)) (rest : List ℕ) → spaced fields rest ≡ spaced fields [] ++ rest
spaced-rest [] rest = refl
spaced-rest (field ∷ fields) rest = ap (λ l. 32 ∷ l) (ap (λ l. field ++ l) (spaced-rest fields rest) ∙ sym (append_assoc field (spaced fields []) rest))

joined-rest : (fields : List (List ℕ)) (rest : List ℕ) → joined fields rest ≡ joined fields [] ++ rest
joined-rest [] rest = refl
joined-rest (field ∷ fields) rest = ap (λ l. field ++ l) (spaced-rest fields rest) ∙ sym (append_assoc field (spaced fields []) rest)

-- a line with its line feed, and then the rest
pub line-rest : (line : LogLine) (rest : List ℕ) → line_bytes line ++ rest ≡ line_text line ++ line_feed ∷ rest
line-rest line rest = ap (λ l. l ++ rest) (joined-rest (line_fields line) (line_feed ∷ [])) ∙ append_assoc (line_text line) (line_feed ∷ []) rest

pub read_back : (lines : List LogLine) → All IsWritable lines → log_text (bytes_of_lines lines) ≡ text_of_lines lines
read_back [] are = refl
read_back (line ∷ lines) are =
    let rest = bytes_of_lines lines in
    let here : IsWritable line = All-head IsWritable line lines are in
    ap log_text (line-rest line rest) ∙ log_text_line (line_text line) rest (joined-feedless (line_fields line) (fields-feedless line here))
    ∙ (λ i. with_line (reading_is_exact.written (line_text line) line (record { writable = here; is_text = refl }) i) (read_back lines (All-tail IsWritable line lines are) i))
