-- The lines of an accepted log can be written.
use Rattle.std.proofs.Common.{◌≡◌, ◌⊎◌, inl, inr, ℕ, ◌+◌, ◌≤◌, ◌<◌, List, [], ◌∷◌, ◌++◌, length, Bool, true, false, not, ◌&&◌, ◌||◌, Option, Some, None, Ok, refl, ◌∙◌, ap, map, arith, length-append}
use Rattle.std.specs.Prelude.{nat_le, nat_eq, codes}
use Rattle.std.specs.List.{All, list_any, list_all}
use Rattle.std.specs.Str.{bytes_eq}
use Rattle.std.proofs.lemmas.Bool.{leb-true, le-leb, eqb-true}
use Rattle.std.proofs.lemmas.Slice.Eq.{bytes_eq-Decides}
use Rattle.std.proofs.lemmas.List.Elements.{All-cons, All-nil}
use Rattle.hol_model.specs.declared.limits.TheConstants.{NUMBER_LIMIT}
use Rattle.hol_model.specs.declared.fault.Cause.{Cause}
use Rattle.hol_model.specs.Terms.Name.{is_capital, is_small, continues_name, all_continue, is_identifier, is_type_variable_name, is_declared_type_name, is_symbol, is_constant_name}
use Rattle.hol_model.specs.Logic.Legality.{is_new_name}
use Rattle.hol_model.specs.Logs.LogLine.{LogVersion, LogRule, LogLine}
use Rattle.hol_model.specs.Logs.LogLine.LogRule.{refl_step, trans_step, mk_comb_step, abs_step, beta_step, assume_step, eq_mp_step, deduct_step, inst_step, inst_type_step, eta_step, select_step}
use Rattle.hol_model.specs.Logs.LogLine.LogRule.{definition_step}
use Rattle.hol_model.specs.Logs.LogLine.LogLine.{header_line, type_variable_line, bool_line, function_type_line, declared_type_line, variable_line, constant_line, combination_line}
use Rattle.hol_model.specs.Logs.LogLine.LogLine.{abstraction_line, new_type_line, new_constant_line, theorem_line, claim_line, end_line}
use Rattle.hol_model.specs.Logs.LogState.{LogState, first_state}
use Rattle.hol_model.specs.Logs.LogSequents.{new_types, new_terms, new_theorems, new_claims, after_line}
use Rattle.hol_model.specs.Logs.LogFaults.{is_no_type, is_no_term, is_no_theorem, some_is_no_term, some_is_no_type, rule_has_number_fault, rule_has_name_fault, first_cause}
use Rattle.hol_model.specs.Logs.LogText.{LogOutcome, from_line, unless_refused, dest_header, after_header, log_outcome}
use Rattle.hol_model.proofs.Logs.AcceptedLog.{IsFaultless, no_cause}
use Rattle.hol_model.proofs.Logs.LogTests.{not_false, is_there}
use Rattle.hol_model.proofs.Tests.{first_of_both, second_of_both, first_of_neither, second_of_neither}
use Rattle.hol_logtext.specs.Fields.{line_feed, is_name_byte, all_name_bytes, is_log_name}
use Rattle.hol_logtext.specs.LineText.{IsLogName, IsLogNumber, AreLogNumbers, ArePairsOfNumbers, IsWritableRule, IsWritable, line_text, line_bytes}
use Rattle.hol_logtext.specs.LogBytes.{bytes_of_lines, text_of_lines}
use Rattle.hol_logtext.specs.Laws.{LogsReadBack}
use Rattle.hol_logtext.proofs.LogLemmas.{line-rest, read_back}

-- ---- names of the logic are names of a log

both : (p q : Bool) → p ≡ true → q ≡ true → (p && q) ≡ true
both p q first second = rw (first, second) refl

either : (p q : Bool) → (p || q) ≡ true → (p ≡ true) ⊎ (q ≡ true)
either true q is = inl refl
either false q is = inr is

-- bytes from a byte to another
between : (low high byte : ℕ) → 33 ≤ low → high ≤ 126 → (nat_le low byte && nat_le byte high) ≡ true → is_name_byte byte ≡ true
between low high byte from to is =
    let above : low ≤ byte = leb-true low byte (first_of_both (nat_le low byte) (nat_le byte high) is) in
    let below : byte ≤ high = leb-true byte high (second_of_both (nat_le low byte) (nat_le byte high) is) in
    let first : 33 ≤ byte = omega (arith, from, above) in
    let second : byte ≤ 126 = omega (arith, to, below) in
    both (nat_le 33 byte) (nat_le byte 126) (le-leb 33 byte first) (le-leb byte 126 second)

capital-named : (byte : ℕ) → is_capital byte ≡ true → is_name_byte byte ≡ true
capital-named byte is = between 65 90 byte (omega arith) (omega arith) is

small-named : (byte : ℕ) → is_small byte ≡ true → is_name_byte byte ≡ true
small-named byte is = between 97 122 byte (omega arith) (omega arith) is

letter-named : (byte : ℕ) → (is_capital byte || is_small byte) ≡ true → is_name_byte byte ≡ true
letter-named byte is = elim (either (is_capital byte) (is_small byte) is) [ inl capital ↦ capital-named byte capital | inr small ↦ small-named byte small ]

-- a byte by its number
this-named : (byte this : ℕ) → is_name_byte this ≡ true → nat_eq byte this ≡ true → is_name_byte byte ≡ true
this-named byte this named is = ap is_name_byte (eqb-true byte this is) ∙ named

continues-named : (byte : ℕ) → continues_name byte ≡ true → is_name_byte byte ≡ true
continues-named byte is =
    let letter = is_capital byte || is_small byte in
    let digit = nat_le 48 byte && nat_le byte 57 in
    elim (either (letter || digit || nat_eq byte 95) (nat_eq byte 39) is) [
      | inr prime ↦ this-named byte 39 refl prime
      | inl one ↦ elim (either (letter || digit) (nat_eq byte 95) one) [
        | inr line ↦ this-named byte 95 refl line
        | inl two ↦ elim (either letter digit two) [ inl small ↦ letter-named byte small | inr third ↦ between 48 57 byte (omega arith) (omega arith) third ]
      ]
    ]

rest-named : (bytes : List ℕ) → all_continue bytes ≡ true → all_name_bytes bytes ≡ true
rest-named [] all = refl
rest-named (byte ∷ bytes) all =
    both (is_name_byte byte) (all_name_bytes bytes) (continues-named byte (first_of_both (continues_name byte) (all_continue bytes) all))
    (rest-named bytes (second_of_both (continues_name byte) (all_continue bytes) all))

identifier-named : (name : List ℕ) → is_identifier name ≡ true → IsLogName name
identifier-named [] is = cc
identifier-named (first ∷ rest) is =
    both (is_name_byte first) (all_name_bytes rest) (letter-named first (first_of_both (is_capital first || is_small first) (all_continue rest) is))
    (rest-named rest (second_of_both (is_capital first || is_small first) (all_continue rest) is))

type_variable-named : (name : List ℕ) → is_type_variable_name name ≡ true → IsLogName name
type_variable-named [] is = cc
type_variable-named (first ∷ rest) is =
    both (is_name_byte first) (all_name_bytes rest) (capital-named first (first_of_both (is_capital first) (all_continue rest) is))
    (rest-named rest (second_of_both (is_capital first) (all_continue rest) is))

declared_type-named : (name : List ℕ) → is_declared_type_name name ≡ true → IsLogName name
declared_type-named [] is = cc
declared_type-named (first ∷ rest) is =
    let front = first_of_both (is_small first && all_continue rest) (not (bytes_eq (first ∷ rest) (codes "bool"))) is in
    both (is_name_byte first) (all_name_bytes rest) (small-named first (first_of_both (is_small first) (all_continue rest) front))
    (rest-named rest (second_of_both (is_small first) (all_continue rest) front))

one_of-named : (name : List ℕ) (names : List (List ℕ)) → list_all is_log_name names ≡ true → list_any (bytes_eq name) names ≡ true → IsLogName name
one_of-named name [] all is = cc
one_of-named name (first ∷ names) all is = elim (either (bytes_eq name first) (list_any (bytes_eq name) names) is) [
  | inl same ↦ ap is_log_name ((bytes_eq-Decides name first).0 same) ∙ first_of_both (is_log_name first) (list_all is_log_name names) all
  | inr later ↦ one_of-named name names (second_of_both (is_log_name first) (list_all is_log_name names) all) later
]

symbol-named : (name : List ℕ) → is_symbol name ≡ true → IsLogName name
symbol-named name is =
    one_of-named name (codes "=" ∷ codes "@" ∷ codes "/\\" ∷ codes "\\/" ∷ codes "==>" ∷ codes "~" ∷ codes "!" ∷ codes "?" ∷ []) refl is

constant-named : (name : List ℕ) → is_constant_name name ≡ true → IsLogName name
constant-named name is = elim (either (is_identifier name) (is_symbol name) is) [ inl identifier ↦ identifier-named name identifier | inr symbol ↦ symbol-named name symbol ]

new_constant-named : (state : LogState) (name : List ℕ) → not (is_constant_name name && is_new_name state.theory name) ≡ false → IsLogName name
new_constant-named state name is = constant-named name (first_of_both (is_constant_name name) (is_new_name state.theory name) (not_false (is_constant_name name && is_new_name state.theory name) is))

-- ---- numbers that name something are within the limit

record IsSmall (state : LogState) : Type 0 where
  types : length state.types ≤ NUMBER_LIMIT
  terms : length state.terms ≤ NUMBER_LIMIT
  theorems : length state.theorems ≤ NUMBER_LIMIT
  claims : length state.claims ≤ NUMBER_LIMIT

below : (limit count number : ℕ) → nat_le count number ≡ false → count ≤ limit → number ≤ limit
below limit count number none within = let less : number < count = is_there count number none in omega (arith, less, within)

module _ (state : LogState) (small : IsSmall state) where
  type-number : (number : ℕ) → is_no_type state number ≡ false → IsLogNumber number
  type-number number is = below NUMBER_LIMIT (length state.types) number is small.types

  term-number : (number : ℕ) → is_no_term state number ≡ false → IsLogNumber number
  term-number number is = below NUMBER_LIMIT (length state.terms) number is small.terms

  theorem-number : (number : ℕ) → is_no_theorem state number ≡ false → IsLogNumber number
  theorem-number number is = below NUMBER_LIMIT (length state.theorems) number is small.theorems

  term-numbers : (numbers : List ℕ) → list_any (is_no_term state) numbers ≡ false → AreLogNumbers numbers
  term-numbers [] is = tt
  term-numbers (number ∷ numbers) is = (
    term-number number (first_of_neither (is_no_term state number) (list_any (is_no_term state) numbers) is),
    term-numbers numbers (second_of_neither (is_no_term state number) (list_any (is_no_term state) numbers) is),
  )

  term-pairs : (pairs : List (ℕ × ℕ)) → some_is_no_term state pairs ≡ false → ArePairsOfNumbers pairs
  term-pairs [] is = tt
  term-pairs (pair ∷ pairs) is =
      let one = first_of_neither (is_no_term state pair.0 || is_no_term state pair.1) (some_is_no_term state pairs) is in (
        term-number pair.0 (first_of_neither (is_no_term state pair.0) (is_no_term state pair.1) one),
        term-number pair.1 (second_of_neither (is_no_term state pair.0) (is_no_term state pair.1) one),
        term-pairs pairs (second_of_neither (is_no_term state pair.0 || is_no_term state pair.1) (some_is_no_term state pairs) is),
      )

  type-pairs : (pairs : List (ℕ × ℕ)) → some_is_no_type state pairs ≡ false → ArePairsOfNumbers pairs
  type-pairs [] is = tt
  type-pairs (pair ∷ pairs) is =
      let one = first_of_neither (is_no_type state pair.0 || is_no_type state pair.1) (some_is_no_type state pairs) is in (
        type-number pair.0 (first_of_neither (is_no_type state pair.0) (is_no_type state pair.1) one),
        type-number pair.1 (second_of_neither (is_no_type state pair.0) (is_no_type state pair.1) one),
        type-pairs pairs (second_of_neither (is_no_type state pair.0 || is_no_type state pair.1) (some_is_no_type state pairs) is),
      )

  two-theorems : (i j : ℕ) → (is_no_theorem state i || is_no_theorem state j) ≡ false → IsLogNumber i × IsLogNumber j
  two-theorems i j is = (
    theorem-number i (first_of_neither (is_no_theorem state i) (is_no_theorem state j) is),
    theorem-number j (second_of_neither (is_no_theorem state i) (is_no_theorem state j) is),
  )

  rule-writable : (rule : LogRule) → rule_has_number_fault state rule ≡ false → rule_has_name_fault state rule ≡ false → IsWritableRule rule
  rule-writable (refl_step t) number name = term-number t number
  rule-writable (trans_step i j) number name = two-theorems i j number
  rule-writable (mk_comb_step i j) number name = two-theorems i j number
  rule-writable (abs_step t i) number name = (
    term-number t (first_of_neither (is_no_term state t) (is_no_theorem state i) number),
    theorem-number i (second_of_neither (is_no_term state t) (is_no_theorem state i) number),
  )
  rule-writable (beta_step t) number name = term-number t number
  rule-writable (assume_step t) number name = term-number t number
  rule-writable (eq_mp_step i j) number name = two-theorems i j number
  rule-writable (deduct_step i j) number name = two-theorems i j number
  rule-writable (inst_step i pairs) number name = (
    theorem-number i (first_of_neither (is_no_theorem state i) (some_is_no_term state pairs) number),
    term-pairs pairs (second_of_neither (is_no_theorem state i) (some_is_no_term state pairs) number),
  )
  rule-writable (inst_type_step i pairs) number name = (
    theorem-number i (first_of_neither (is_no_theorem state i) (some_is_no_type state pairs) number),
    type-pairs pairs (second_of_neither (is_no_theorem state i) (some_is_no_type state pairs) number),
  )
  rule-writable eta_step number name = tt
  rule-writable select_step number name = tt
  rule-writable (definition_step c t) number name = (new_constant-named state c name, term-number t number)

  line-writable : (line : LogLine) → IsFaultless state line → IsWritable line
  line-writable (header_line version) fine = tt
  line-writable (type_variable_line name) fine = type_variable-named name (not_false (is_type_variable_name name) fine.name)
  line-writable bool_line fine = tt
  line-writable (function_type_line a b) fine =
      (type-number a (first_of_neither (is_no_type state a) (is_no_type state b) fine.number), type-number b (second_of_neither (is_no_type state a) (is_no_type state b) fine.number))
  line-writable (declared_type_line name) fine = declared_type-named name (not_false (is_declared_type_name name) fine.name)
  line-writable (variable_line name ty) fine = (identifier-named name (not_false (is_identifier name) fine.name), type-number ty fine.number)
  line-writable (constant_line name ty) fine = (constant-named name (not_false (is_constant_name name) fine.name), type-number ty fine.number)
  line-writable (combination_line f a) fine =
      (term-number f (first_of_neither (is_no_term state f) (is_no_term state a) fine.number), term-number a (second_of_neither (is_no_term state f) (is_no_term state a) fine.number))
  line-writable (abstraction_line v t) fine =
      (term-number v (first_of_neither (is_no_term state v) (is_no_term state t) fine.number), term-number t (second_of_neither (is_no_term state v) (is_no_term state t) fine.number))
  line-writable (new_type_line name) fine =
      declared_type-named name (first_of_both (is_declared_type_name name) (is_new_name state.theory name) (not_false (is_declared_type_name name && is_new_name state.theory name) fine.name))
  line-writable (new_constant_line name ty) fine = (new_constant-named state name fine.name, type-number ty fine.number)
  line-writable (theorem_line rule) fine = rule-writable rule fine.number fine.name
  line-writable (claim_line name i c hs) fine =
      let front = first_of_neither (is_no_theorem state i || is_no_term state c) (list_any (is_no_term state) hs) fine.number in (
        identifier-named name (not_false (is_identifier name) fine.name),
        theorem-number i (first_of_neither (is_no_theorem state i) (is_no_term state c) front),
        term-number c (second_of_neither (is_no_theorem state i) (is_no_term state c) front),
        term-numbers hs (second_of_neither (is_no_theorem state i || is_no_term state c) (list_any (is_no_term state) hs) fine.number),
      )
  line-writable (end_line count) fine =
      let same : count ≡ length state.claims = eqb-true count (length state.claims)
      (not_false (nat_eq count (length state.claims)) (second_of_neither state.is_ended (not (nat_eq count (length state.claims))) fine.end)) in
      let within = small.claims in
      omega (arith, same, within)

-- ---- a line gives one thing at most

abbrev counted : LogState → ℕ
counted state = (length state.types + length state.terms) + (length state.theorems + length state.claims)

counted-after : (state : LogState) (line : LogLine) → counted (after_line state line) ≤ counted state + 1
counted-after state line = go line
  where
    types : (line : LogLine) → length (state.types ++ new_types state line) ≡ length state.types + length (new_types state line)
    types line = length-append state.types (new_types state line)

    terms : (line : LogLine) → length (state.terms ++ new_terms state line) ≡ length state.terms + length (new_terms state line)
    terms line = length-append state.terms (new_terms state line)

    theorems : (line : LogLine) → length (state.theorems ++ new_theorems state line) ≡ length state.theorems + length (new_theorems state line)
    theorems line = length-append state.theorems (new_theorems state line)

    claims : (line : LogLine) → length (state.claims ++ new_claims state line) ≡ length state.claims + length (new_claims state line)
    claims line = length-append state.claims (new_claims state line)

    few : (line : LogLine) → (length (new_types state line) + length (new_terms state line)) + (length (new_theorems state line) + length (new_claims state line)) ≤ 1
    few (header_line version) = omega arith
    few (type_variable_line name) = omega arith
    few bool_line = omega arith
    few (function_type_line a b) = omega arith
    few (declared_type_line name) = omega arith
    few (variable_line name ty) = omega arith
    few (constant_line name ty) = omega arith
    few (combination_line f a) = omega arith
    few (abstraction_line v t) = omega arith
    few (new_type_line name) = omega arith
    few (new_constant_line name ty) = omega arith
    few (theorem_line rule) = omega arith
    few (claim_line name i c hs) = omega arith
    few (end_line count) = omega arith

    go : (line : LogLine) → counted (after_line state line) ≤ counted state + 1
    go line =
        let a = types line in
        let b = terms line in
        let c = theorems line in
        let d = claims line in
        let e = few line in
        omega (arith, a, b, c, d, e)

small-counted : (state : LogState) (lines : ℕ) → counted state ≤ lines → lines ≤ NUMBER_LIMIT → IsSmall state
small-counted state lines few within = record {
  types = omega (arith, few, within);
  terms = omega (arith, few, within);
  theorems = omega (arith, few, within);
  claims = omega (arith, few, within);
}

-- ---- all lines

was_accepted : (number : ℕ) (found : Option Cause) (later : LogOutcome) (final : LogState) → unless_refused number found later ≡ Ok final → (found ≡ None) × (later ≡ Ok final)
was_accepted number None later final is = (refl, is)
was_accepted number (Some cause) later final is = cc

lines-writable : (lines : List LogLine) (number before : ℕ) (state final : LogState) → counted state ≤ before → before + length lines ≤ NUMBER_LIMIT
    → from_line None (map Some lines) number state ≡ Ok final → All IsWritable lines
lines-writable [] number before state final few within is = All-nil IsWritable
lines-writable (line ∷ lines) number before state final few within is =
    let both_are = was_accepted number (first_cause state line) (from_line None (map Some lines) (number + 1) (after_line state line)) final is in
    let after = counted-after state line in
    let now : before ≤ NUMBER_LIMIT = omega (arith, within) in
    let more : counted (after_line state line) ≤ before + 1 = omega (arith, after, few) in
    let left : before + 1 + length lines ≤ NUMBER_LIMIT = omega (arith, within) in
    All-cons IsWritable line lines (line-writable state (small-counted state before few now) line (no_cause state line both_are.0))
    (lines-writable lines (number + 1) (before + 1) (after_line state line) final more left both_are.1)

has_header : (first : LogLine) (next : LogVersion → LogOutcome) (final : LogState) → after_header (dest_header (Some first)) next ≡ Ok final →
    (version : LogVersion) × (first ≡ header_line version) × (next version ≡ Ok final)
has_header (header_line version) next final is = (version, refl, is)
has_header _ next final is = cc

-- the lines of an accepted log
accepted-writable : (lines : List LogLine) (state : LogState) → length lines ≤ NUMBER_LIMIT → log_outcome (text_of_lines lines) ≡ Ok state → All IsWritable lines
accepted-writable [] state within is = cc
accepted-writable (first ∷ lines) state within is =
    let header = has_header first (λ version. from_line None (map Some lines) 2 (first_state version)) state is in
    let left : 0 + length lines ≤ NUMBER_LIMIT = omega (arith, within) in
    let writable : IsWritable first = rw header.1 tt in
    All-cons IsWritable first lines writable (lines-writable lines 2 0 (first_state header.0) state (omega arith) left header.2)

-- there are no more lines than bytes
lines-bytes : (lines : List LogLine) → length lines ≤ length (bytes_of_lines lines)
lines-bytes [] = omega arith
lines-bytes (line ∷ lines) =
    let rest = bytes_of_lines lines in
    let whole : length (line_bytes line ++ rest) ≡ length (line_text line) + length (line_feed ∷ rest) = ap length (line-rest line rest) ∙ length-append (line_text line) (line_feed ∷ rest) in
    let later = lines-bytes lines in
    omega (arith, whole, later)

pub logs_read_back : LogsReadBack
logs_read_back = record {
  read = read_back;
  accepted = λ lines state within is.
      let few = lines-bytes lines in
      let limited : length lines ≤ NUMBER_LIMIT = omega (arith, few, within) in
      ap log_outcome (read_back lines (accepted-writable lines state limited is)) ∙ is;
}
