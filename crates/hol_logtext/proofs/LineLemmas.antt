-- A text is read as the line whose text it is.
use Rattle.std.proofs.Common.{◌≡◌, ℕ, ◌≤◌, List, [], ◌∷◌, Bool, true, false, Option, Some, None, Result, Ok, Err, IfOk, refl, sym, subst, ◌∙◌, ap, map, if◌then◌else◌}
use Rattle.std.specs.Prelude.{decimal, codes}
use Rattle.std.specs.Option.{option_map}
use Rattle.std.specs.Str.{bytes_eq}
use Rattle.std.proofs.lemmas.Slice.Eq.{bytes_eq-Decides}
use Rattle.hol_model.specs.declared.limits.TheConstants.{NUMBER_LIMIT}
use Rattle.hol_model.specs.Logs.LogLine.{LogRule, LogLine}
use Rattle.hol_model.specs.Logs.LogLine.LogVersion.{first_version, second_version}
use Rattle.hol_model.specs.Logs.LogLine.LogRule.{refl_step, trans_step, mk_comb_step, abs_step, beta_step, assume_step, eq_mp_step, deduct_step, inst_step, inst_type_step, eta_step, select_step}
use Rattle.hol_model.specs.Logs.LogLine.LogRule.{definition_step}
use Rattle.hol_model.specs.Logs.LogLine.LogLine.{header_line, type_variable_line, bool_line, function_type_line, declared_type_line, variable_line, constant_line, combination_line}
use Rattle.hol_model.specs.Logs.LogLine.LogLine.{abstraction_line, new_type_line, new_constant_line, theorem_line, claim_line, end_line}
use Rattle.hol_logtext.specs.Fields.{joined, split_fields}
use Rattle.hol_logtext.specs.LineText.{rule_fields, line_fields, line_text, IsWritableRule, IsWritable, IsTextOf}
use Rattle.hol_logtext.specs.LineReading.{no_field, one_name, one_number, two_numbers, name_and_number, number_and_pairs, parts_of_claim, claim_parts, claim_of_parts, header_of, type_of_word}
use Rattle.hol_logtext.specs.LineReading.{term_of_word, pair_rule_of_word, plain_rule_of_word, entry_of_word, rule_of_word, by_word, short_of_word, line_of_fields, read_text}
use Rattle.hol_logtext.specs.Laws.{ReadingIsExact}
use Rattle.hol_model.specs.declared.fault.Cause.{Cause}
use Rattle.hol_logtext.specs.declared.line.Line.{Line}
use Rattle.hol_logtext.specs.Lines.{line_of, IsLineRead, IsExact}
use Rattle.hol_logtext.proofs.FieldLemmas.{number_of-decimal}
use Rattle.hol_logtext.proofs.ArgumentLemmas.{mapped, no_field-is, one_name-is, one_number-is, two_numbers-are, name_and_number-are, number_and_pairs-are, parts_of_claim-are, name-read, two-read}
use Rattle.hol_logtext.proofs.ArgumentLemmas.{name_and-read, number_and_pairs-read, claim-read}
use Rattle.hol_logtext.proofs.JoinLemmas.{joined-split, split-joined, AreSpaceless, name-spaceless, number-spaceless, numbers-spaceless, pairs-spaceless}

-- The fields are those of a line that can be written.
record IsRead (line : LogLine) (fields : List (List ℕ)) : Type 0 where
  pub writable : IsWritable line
  pub are : fields ≡ line_fields line

record IsReadRule (rule : LogRule) (fields : List (List ℕ)) : Type 0 where
  pub writable : IsWritableRule rule
  pub are : fields ≡ rule_fields rule

read_as : (line made : LogLine) (fields : List (List ℕ)) → line ≡ made → IsWritable made → fields ≡ line_fields made → IsRead line fields
read_as line made fields same writable are = subst (λ (l : LogLine). IsRead l fields) (sym same) (record { writable = writable; are = are })

rule_as : (rule made : LogRule) (fields : List (List ℕ)) → rule ≡ made → IsWritableRule made → fields ≡ rule_fields made → IsReadRule rule fields
rule_as rule made fields same writable are = subst (λ (r : LogRule). IsReadRule r fields) (sym same) (record { writable = writable; are = are })

-- tests of words, one after another

abbrev choose : {A : Type 0} → List ℕ → List (List ℕ × Option A) → Option A → Option A
choose word [] other = other
choose word (entry ∷ entries) other = if bytes_eq word entry.0 then entry.1 else choose word entries other

abbrev Each : {A : Type 0} → List ℕ → A → Type 0 → List (List ℕ × Option A) → Type 0
Each word x P [] = Unit {0}
Each word x P (entry ∷ entries) = (word ≡ entry.0 → entry.1 ≡ Some x → P) × Each word x P entries

chosen : {A P : Type 0} (word : List ℕ) (x : A) (entries : List (List ℕ × Option A)) (other : Option A)
    → choose word entries other ≡ Some x → Each word x P entries → (other ≡ Some x → P) → P
chosen word x [] other is each last = last is
chosen {A} {P} word x (entry ∷ entries) other is each last = go (bytes_eq word entry.0) refl is (λ deeper. chosen word x entries other deeper each.1 last)
  where
    go : (test : Bool) → bytes_eq word entry.0 ≡ test → (if test then entry.1 else choose word entries other) ≡ Some x → (choose word entries other ≡ Some x → P) → P
    go true passed found later = each.0 ((bytes_eq-Decides word entry.0).0 passed) found
    go false failed found later = later found

-- from what was read

header-read : (word : List ℕ) (fields : List (List ℕ)) (line : LogLine) → word ≡ codes "holp-log" → header_of fields ≡ Some line → IsRead line (word ∷ fields)
header-read word [] line w is = cc
header-read word (version ∷ []) line w is =
    chosen version line ((codes "1", Some (header_line first_version)) ∷ (codes "2", Some (header_line second_version)) ∷ []) None is (
      λ v found. let same : header_line first_version ≡ line = cc in read_as line (header_line first_version) (word ∷ version ∷ []) (sym same) tt (λ i. w i ∷ v i ∷ []),
      (
        λ v found. let same : header_line second_version ≡ line = cc in read_as line (header_line second_version) (word ∷ version ∷ []) (sym same) tt (λ i. w i ∷ v i ∷ []),
        tt,
      ),
    )
    (λ none. cc)
header-read word (version ∷ more ∷ fields) line w is = cc

types-read : (first : List ℕ) (fields : List (List ℕ)) (line : LogLine) → first ≡ codes "y" → by_word type_of_word fields ≡ Some line → IsRead line (first ∷ fields)
types-read first [] line f is = cc
types-read first (word ∷ fields) line f is =
    chosen word line
    ((codes "v", option_map type_variable_line (one_name fields))
    ∷ (codes "b", option_map (λ _. bool_line) (no_field fields))
    ∷ (codes "f", option_map (λ pair. function_type_line pair.0 pair.1) (two_numbers fields))
    ∷ (codes "n", option_map declared_type_line (one_name fields)) ∷ []) None is (
      λ w found.
          let m = mapped type_variable_line (one_name fields) line found in
          let k = one_name-is fields m.0 m.1 in
          read_as line (type_variable_line m.0) (first ∷ word ∷ fields) m.2 k.1 (λ i. f i ∷ w i ∷ k.0 i),
      (
        λ w found.
            let m = mapped (λ _. bool_line) (no_field fields) line found in
            let k = no_field-is fields m.0 m.1 in
            read_as line bool_line (first ∷ word ∷ fields) m.2 tt (λ i. f i ∷ w i ∷ k i),
        (
          λ w found.
              let m = mapped (λ pair. function_type_line pair.0 pair.1) (two_numbers fields) line found in
              let k = two_numbers-are fields m.0 m.1 in
              read_as line (function_type_line m.0.0 m.0.1) (first ∷ word ∷ fields) m.2 k.1 (λ i. f i ∷ w i ∷ k.0 i),
          (
            λ w found.
                let m = mapped declared_type_line (one_name fields) line found in
                let k = one_name-is fields m.0 m.1 in
                read_as line (declared_type_line m.0) (first ∷ word ∷ fields) m.2 k.1 (λ i. f i ∷ w i ∷ k.0 i),
            tt,
          ),
        ),
      ),
    )
    (λ none. cc)

terms-read : (first : List ℕ) (fields : List (List ℕ)) (line : LogLine) → first ≡ codes "t" → by_word term_of_word fields ≡ Some line → IsRead line (first ∷ fields)
terms-read first [] line f is = cc
terms-read first (word ∷ fields) line f is =
    chosen word line
    ((codes "v", option_map (λ pair. variable_line pair.0 pair.1) (name_and_number fields))
    ∷ (codes "c", option_map (λ pair. constant_line pair.0 pair.1) (name_and_number fields))
    ∷ (codes "a", option_map (λ pair. combination_line pair.0 pair.1) (two_numbers fields))
    ∷ (codes "l", option_map (λ pair. abstraction_line pair.0 pair.1) (two_numbers fields)) ∷ []) None is (
      λ w found.
          let m = mapped (λ pair. variable_line pair.0 pair.1) (name_and_number fields) line found in
          let k = name_and_number-are fields m.0 m.1 in
          read_as line (variable_line m.0.0 m.0.1) (first ∷ word ∷ fields) m.2 k.1 (λ i. f i ∷ w i ∷ k.0 i),
      (
        λ w found.
            let m = mapped (λ pair. constant_line pair.0 pair.1) (name_and_number fields) line found in
            let k = name_and_number-are fields m.0 m.1 in
            read_as line (constant_line m.0.0 m.0.1) (first ∷ word ∷ fields) m.2 k.1 (λ i. f i ∷ w i ∷ k.0 i),
        (
          λ w found.
              let m = mapped (λ pair. combination_line pair.0 pair.1) (two_numbers fields) line found in
              let k = two_numbers-are fields m.0 m.1 in
              read_as line (combination_line m.0.0 m.0.1) (first ∷ word ∷ fields) m.2 k.1 (λ i. f i ∷ w i ∷ k.0 i),
          (
            λ w found.
                let m = mapped (λ pair. abstraction_line pair.0 pair.1) (two_numbers fields) line found in
                let k = two_numbers-are fields m.0 m.1 in
                read_as line (abstraction_line m.0.0 m.0.1) (first ∷ word ∷ fields) m.2 k.1 (λ i. f i ∷ w i ∷ k.0 i),
            tt,
          ),
        ),
      ),
    )
    (λ none. cc)

two_rule : (make : ℕ → ℕ → LogRule) (word lit : List ℕ) (fields : List (List ℕ)) (rule : LogRule)
    → ((a b : ℕ) → (a ≤ NUMBER_LIMIT) × (b ≤ NUMBER_LIMIT) → IsWritableRule (make a b)) → ((a b : ℕ) → rule_fields (make a b) ≡ lit ∷ decimal a ∷ decimal b ∷ [])
    → word ≡ lit → option_map (λ (pair : ℕ × ℕ). make pair.0 pair.1) (two_numbers fields) ≡ Some rule → IsReadRule rule (word ∷ fields)
two_rule make word lit fields rule writable are w found =
    let m = mapped (λ (pair : ℕ × ℕ). make pair.0 pair.1) (two_numbers fields) rule found in
    let k = two_numbers-are fields m.0 m.1 in
    rule_as rule (make m.0.0 m.0.1) (word ∷ fields) m.2 (writable m.0.0 m.0.1 k.1) ((λ i. w i ∷ k.0 i) ∙ sym (are m.0.0 m.0.1))

one_rule : (make : ℕ → LogRule) (word lit : List ℕ) (fields : List (List ℕ)) (rule : LogRule)
    → ((a : ℕ) → a ≤ NUMBER_LIMIT → IsWritableRule (make a)) → ((a : ℕ) → rule_fields (make a) ≡ lit ∷ decimal a ∷ [])
    → word ≡ lit → option_map make (one_number fields) ≡ Some rule → IsReadRule rule (word ∷ fields)
one_rule make word lit fields rule writable are w found =
    let m = mapped make (one_number fields) rule found in
    let k = one_number-is fields m.0 m.1 in
    rule_as rule (make m.0) (word ∷ fields) m.2 (writable m.0 k.1) ((λ i. w i ∷ k.0 i) ∙ sym (are m.0))

pair_rules-read : (word : List ℕ) (fields : List (List ℕ)) (rule : LogRule) → pair_rule_of_word word fields ≡ Some rule → IsReadRule rule (word ∷ fields)
pair_rules-read word fields rule is =
    chosen word rule
    ((codes "TRANS", option_map (λ pair. trans_step pair.0 pair.1) (two_numbers fields))
    ∷ (codes "MK_COMB", option_map (λ pair. mk_comb_step pair.0 pair.1) (two_numbers fields))
    ∷ (codes "ABS", option_map (λ pair. abs_step pair.0 pair.1) (two_numbers fields))
    ∷ (codes "EQ_MP", option_map (λ pair. eq_mp_step pair.0 pair.1) (two_numbers fields))
    ∷ (codes "DEDUCT", option_map (λ pair. deduct_step pair.0 pair.1) (two_numbers fields)) ∷ []) None is (
      λ w found. two_rule trans_step word (codes "TRANS") fields rule (λ a b both. both) (λ a b. refl) w found,
      (
        λ w found. two_rule mk_comb_step word (codes "MK_COMB") fields rule (λ a b both. both) (λ a b. refl) w found,
        (
          λ w found. two_rule abs_step word (codes "ABS") fields rule (λ a b both. both) (λ a b. refl) w found,
          (
            λ w found. two_rule eq_mp_step word (codes "EQ_MP") fields rule (λ a b both. both) (λ a b. refl) w found,
            (
              λ w found. two_rule deduct_step word (codes "DEDUCT") fields rule (λ a b both. both) (λ a b. refl) w found,
              tt,
            ),
          ),
        ),
      ),
    )
    (λ none. cc)

plain_rules-read : (word : List ℕ) (fields : List (List ℕ)) (rule : LogRule) → plain_rule_of_word word fields ≡ Some rule → IsReadRule rule (word ∷ fields)
plain_rules-read word fields rule is =
    chosen word rule
    ((codes "REFL", option_map refl_step (one_number fields))
    ∷ (codes "BETA", option_map beta_step (one_number fields))
    ∷ (codes "ASSUME", option_map assume_step (one_number fields)) ∷ []) (pair_rule_of_word word fields) is (
      λ w found. one_rule refl_step word (codes "REFL") fields rule (λ a one. one) (λ a. refl) w found,
      (
        λ w found. one_rule beta_step word (codes "BETA") fields rule (λ a one. one) (λ a. refl) w found,
        (
          λ w found. one_rule assume_step word (codes "ASSUME") fields rule (λ a one. one) (λ a. refl) w found,
          tt,
        ),
      ),
    )
    (pair_rules-read word fields rule)

entries-read : (word : List ℕ) (fields : List (List ℕ)) (rule : LogRule) → entry_of_word word fields ≡ Some rule → IsReadRule rule (word ∷ fields)
entries-read word fields rule is =
    chosen word rule
    ((codes "ETA", option_map (λ _. eta_step) (no_field fields))
    ∷ (codes "SELECT", option_map (λ _. select_step) (no_field fields))
    ∷ (codes "DEF", option_map (λ pair. definition_step pair.0 pair.1) (name_and_number fields)) ∷ []) (plain_rule_of_word word fields) is (
      λ w found.
          let m = mapped (λ _. eta_step) (no_field fields) rule found in
          let k = no_field-is fields m.0 m.1 in
          rule_as rule eta_step (word ∷ fields) m.2 tt (λ i. w i ∷ k i),
      (
        λ w found.
            let m = mapped (λ _. select_step) (no_field fields) rule found in
            let k = no_field-is fields m.0 m.1 in
            rule_as rule select_step (word ∷ fields) m.2 tt (λ i. w i ∷ k i),
        (
          λ w found.
              let m = mapped (λ pair. definition_step pair.0 pair.1) (name_and_number fields) rule found in
              let k = name_and_number-are fields m.0 m.1 in
              rule_as rule (definition_step m.0.0 m.0.1) (word ∷ fields) m.2 k.1 (λ i. w i ∷ k.0 i),
          tt,
        ),
      ),
    )
    (plain_rules-read word fields rule)

rules-read : (word : List ℕ) (fields : List (List ℕ)) (rule : LogRule) → rule_of_word word fields ≡ Some rule → IsReadRule rule (word ∷ fields)
rules-read word fields rule is =
    chosen word rule
    ((codes "INST", option_map (λ pair. inst_step pair.0 pair.1) (number_and_pairs fields))
    ∷ (codes "INSTTYPE", option_map (λ pair. inst_type_step pair.0 pair.1) (number_and_pairs fields)) ∷ []) (entry_of_word word fields) is (
      λ w found.
          let m = mapped (λ pair. inst_step pair.0 pair.1) (number_and_pairs fields) rule found in
          let k = number_and_pairs-are fields m.0 m.1 in
          rule_as rule (inst_step m.0.0 m.0.1) (word ∷ fields) m.2 k.1 (λ i. w i ∷ k.0 i),
      (
        λ w found.
            let m = mapped (λ pair. inst_type_step pair.0 pair.1) (number_and_pairs fields) rule found in
            let k = number_and_pairs-are fields m.0 m.1 in
            rule_as rule (inst_type_step m.0.0 m.0.1) (word ∷ fields) m.2 k.1 (λ i. w i ∷ k.0 i),
        tt,
      ),
    )
    (entries-read word fields rule)

theorems-read : (first : List ℕ) (fields : List (List ℕ)) (line : LogLine) → first ≡ codes "k" → option_map theorem_line (by_word rule_of_word fields) ≡ Some line
    → IsRead line (first ∷ fields)
theorems-read first [] line f is = cc
theorems-read first (word ∷ fields) line f is =
    let m = mapped theorem_line (rule_of_word word fields) line is in
    let k = rules-read word fields m.0 m.1 in
    read_as line (theorem_line m.0) (first ∷ word ∷ fields) m.2 k.writable (λ i. f i ∷ k.are i)

claims-read : (first : List ℕ) (fields : List (List ℕ)) (line : LogLine) → first ≡ codes "c" → option_map claim_of_parts (claim_parts fields) ≡ Some line → IsRead line (first ∷ fields)
claims-read first [] line f is = cc
claims-read first (a ∷ []) line f is = cc
claims-read first (a ∷ b ∷ []) line f is = cc
claims-read first (name ∷ theorem ∷ conclusion ∷ hypotheses) line f is =
    let m = mapped claim_of_parts (parts_of_claim name theorem conclusion hypotheses) line is in
    let k = parts_of_claim-are name theorem conclusion hypotheses m.0 m.1 in
    read_as line (claim_of_parts m.0) (first ∷ name ∷ theorem ∷ conclusion ∷ hypotheses) m.2 k.1 (λ i. f i ∷ k.0 i)

short-read : (word : List ℕ) (fields : List (List ℕ)) (line : LogLine) → short_of_word word fields ≡ Some line → IsRead line (word ∷ fields)
short-read word fields line is =
    chosen word line
    ((codes "y", by_word type_of_word fields)
    ∷ (codes "t", by_word term_of_word fields)
    ∷ (codes "ny", option_map new_type_line (one_name fields))
    ∷ (codes "nc", option_map (λ pair. new_constant_line pair.0 pair.1) (name_and_number fields))
    ∷ (codes "end", option_map end_line (one_number fields))
    ∷ (codes "holp-log", header_of fields) ∷ []) None is (
      λ w found. types-read word fields line w found,
      (
        λ w found. terms-read word fields line w found,
        (
          λ w found.
              let m = mapped new_type_line (one_name fields) line found in
              let k = one_name-is fields m.0 m.1 in
              read_as line (new_type_line m.0) (word ∷ fields) m.2 k.1 (λ i. w i ∷ k.0 i),
          (
            λ w found.
                let m = mapped (λ pair. new_constant_line pair.0 pair.1) (name_and_number fields) line found in
                let k = name_and_number-are fields m.0 m.1 in
                read_as line (new_constant_line m.0.0 m.0.1) (word ∷ fields) m.2 k.1 (λ i. w i ∷ k.0 i),
            (
              λ w found.
                  let m = mapped end_line (one_number fields) line found in
                  let k = one_number-is fields m.0 m.1 in
                  read_as line (end_line m.0) (word ∷ fields) m.2 k.1 (λ i. w i ∷ k.0 i),
              (
                λ w found. header-read word fields line w found,
                tt,
              ),
            ),
          ),
        ),
      ),
    )
    (λ none. cc)

fields-read : (fields : List (List ℕ)) (line : LogLine) → line_of_fields fields ≡ Some line → IsRead line fields
fields-read [] line is = cc
fields-read (word ∷ fields) line is =
    chosen word line
    ((codes "k", option_map theorem_line (by_word rule_of_word fields))
    ∷ (codes "c", option_map claim_of_parts (claim_parts fields)) ∷ []) (short_of_word word fields) is
    (λ w found. theorems-read word fields line w found, ((λ w found. claims-read word fields line w found), tt))
    (short-read word fields line)

text-read : (text : List ℕ) (line : LogLine) → read_text text ≡ Some line → IsTextOf line text
text-read text line is =
    let k = fields-read (split_fields text) line is in
    record { writable = k.writable; is_text = sym (joined-split text) ∙ ap (λ fields. joined fields []) k.are }

-- from what is written

rule-written : (rule : LogRule) → IsWritableRule rule → by_word rule_of_word (rule_fields rule) ≡ Some rule
rule-written (refl_step t) w = ap (option_map refl_step) (number_of-decimal t w)
rule-written (trans_step i j) w = ap (option_map (λ pair. trans_step pair.0 pair.1)) (two-read i j w.0 w.1)
rule-written (mk_comb_step i j) w = ap (option_map (λ pair. mk_comb_step pair.0 pair.1)) (two-read i j w.0 w.1)
rule-written (abs_step t i) w = ap (option_map (λ pair. abs_step pair.0 pair.1)) (two-read t i w.0 w.1)
rule-written (beta_step t) w = ap (option_map beta_step) (number_of-decimal t w)
rule-written (assume_step t) w = ap (option_map assume_step) (number_of-decimal t w)
rule-written (eq_mp_step i j) w = ap (option_map (λ pair. eq_mp_step pair.0 pair.1)) (two-read i j w.0 w.1)
rule-written (deduct_step i j) w = ap (option_map (λ pair. deduct_step pair.0 pair.1)) (two-read i j w.0 w.1)
rule-written (inst_step i pairs) w = ap (option_map (λ pair. inst_step pair.0 pair.1)) (number_and_pairs-read i pairs w.0 w.1)
rule-written (inst_type_step i pairs) w = ap (option_map (λ pair. inst_type_step pair.0 pair.1)) (number_and_pairs-read i pairs w.0 w.1)
rule-written eta_step w = refl
rule-written select_step w = refl
rule-written (definition_step name t) w = ap (option_map (λ pair. definition_step pair.0 pair.1)) (name_and-read name t w.0 w.1)

line-written : (line : LogLine) → IsWritable line → line_of_fields (line_fields line) ≡ Some line
line-written (header_line first_version) w = refl
line-written (header_line second_version) w = refl
line-written (type_variable_line name) w = ap (option_map type_variable_line) (name-read name w)
line-written bool_line w = refl
line-written (function_type_line a b) w = ap (option_map (λ pair. function_type_line pair.0 pair.1)) (two-read a b w.0 w.1)
line-written (declared_type_line name) w = ap (option_map declared_type_line) (name-read name w)
line-written (variable_line name ty) w = ap (option_map (λ pair. variable_line pair.0 pair.1)) (name_and-read name ty w.0 w.1)
line-written (constant_line name ty) w = ap (option_map (λ pair. constant_line pair.0 pair.1)) (name_and-read name ty w.0 w.1)
line-written (combination_line f a) w = ap (option_map (λ pair. combination_line pair.0 pair.1)) (two-read f a w.0 w.1)
line-written (abstraction_line v t) w = ap (option_map (λ pair. abstraction_line pair.0 pair.1)) (two-read v t w.0 w.1)
line-written (new_type_line name) w = ap (option_map new_type_line) (name-read name w)
line-written (new_constant_line name ty) w = ap (option_map (λ pair. new_constant_line pair.0 pair.1)) (name_and-read name ty w.0 w.1)
line-written (theorem_line rule) w = ap (option_map theorem_line) (rule-written rule w)
line-written (claim_line name i c hs) w = ap (option_map claim_of_parts) (claim-read name i c hs w.0 w.1 w.2 w.3)
line-written (end_line count) w = ap (option_map end_line) (number_of-decimal count w)

rule-spaceless : (rule : LogRule) → IsWritableRule rule → AreSpaceless (rule_fields rule)
rule-spaceless (refl_step t) w = (refl, (number-spaceless t w, tt))
rule-spaceless (trans_step i j) w = (refl, (number-spaceless i w.0, (number-spaceless j w.1, tt)))
rule-spaceless (mk_comb_step i j) w = (refl, (number-spaceless i w.0, (number-spaceless j w.1, tt)))
rule-spaceless (abs_step t i) w = (refl, (number-spaceless t w.0, (number-spaceless i w.1, tt)))
rule-spaceless (beta_step t) w = (refl, (number-spaceless t w, tt))
rule-spaceless (assume_step t) w = (refl, (number-spaceless t w, tt))
rule-spaceless (eq_mp_step i j) w = (refl, (number-spaceless i w.0, (number-spaceless j w.1, tt)))
rule-spaceless (deduct_step i j) w = (refl, (number-spaceless i w.0, (number-spaceless j w.1, tt)))
rule-spaceless (inst_step i pairs) w = (refl, (number-spaceless i w.0, pairs-spaceless pairs w.1))
rule-spaceless (inst_type_step i pairs) w = (refl, (number-spaceless i w.0, pairs-spaceless pairs w.1))
rule-spaceless eta_step w = (refl, tt)
rule-spaceless select_step w = (refl, tt)
rule-spaceless (definition_step name t) w = (refl, (name-spaceless name w.0, (number-spaceless t w.1, tt)))

fields-split : (line : LogLine) → IsWritable line → split_fields (line_text line) ≡ line_fields line
fields-split (header_line first_version) w = refl
fields-split (header_line second_version) w = refl
fields-split (type_variable_line name) w = split-joined (codes "y") (codes "v" ∷ name ∷ []) refl (refl, (name-spaceless name w, tt))
fields-split bool_line w = refl
fields-split (function_type_line a b) w = split-joined (codes "y") (codes "f" ∷ decimal a ∷ decimal b ∷ []) refl (refl, (number-spaceless a w.0, (number-spaceless b w.1, tt)))
fields-split (declared_type_line name) w = split-joined (codes "y") (codes "n" ∷ name ∷ []) refl (refl, (name-spaceless name w, tt))
fields-split (variable_line name ty) w = split-joined (codes "t") (codes "v" ∷ name ∷ decimal ty ∷ []) refl (refl, (name-spaceless name w.0, (number-spaceless ty w.1, tt)))
fields-split (constant_line name ty) w = split-joined (codes "t") (codes "c" ∷ name ∷ decimal ty ∷ []) refl (refl, (name-spaceless name w.0, (number-spaceless ty w.1, tt)))
fields-split (combination_line f a) w = split-joined (codes "t") (codes "a" ∷ decimal f ∷ decimal a ∷ []) refl (refl, (number-spaceless f w.0, (number-spaceless a w.1, tt)))
fields-split (abstraction_line v t) w = split-joined (codes "t") (codes "l" ∷ decimal v ∷ decimal t ∷ []) refl (refl, (number-spaceless v w.0, (number-spaceless t w.1, tt)))
fields-split (new_type_line name) w = split-joined (codes "ny") (name ∷ []) refl (name-spaceless name w, tt)
fields-split (new_constant_line name ty) w = split-joined (codes "nc") (name ∷ decimal ty ∷ []) refl (name-spaceless name w.0, (number-spaceless ty w.1, tt))
fields-split (theorem_line rule) w = split-joined (codes "k") (rule_fields rule) refl (rule-spaceless rule w)
fields-split (claim_line name i c hs) w =
    split-joined (codes "c") (name ∷ decimal i ∷ decimal c ∷ map decimal hs) refl
    (name-spaceless name w.0, (number-spaceless i w.1, (number-spaceless c w.2, numbers-spaceless hs w.3)))
fields-split (end_line count) w = split-joined (codes "end") (decimal count ∷ []) refl (number-spaceless count w, tt)

text-written : (text : List ℕ) (line : LogLine) → IsTextOf line text → read_text text ≡ Some line
text-written text line is = ap read_text is.is_text ∙ (ap line_of_fields (fields-split line is.writable) ∙ line-written line is.writable)

pub reading_is_exact : ReadingIsExact
reading_is_exact = record { read = text-read; written = text-written }

-- what is read is exact
pub exact : (answer : Result Line Cause) (text : List ℕ) → IsLineRead answer (read_text text) → IsExact answer text
exact (Ok line) text is = text-read text (line_of line) is
exact (Err cause) text is = λ line here. let found = text-written text line here in let none = is.0 in cc

pub exact_where_read : {E : Type 0} (result : Result (Result Line Cause) E) (text : List ℕ) (fields : List (List ℕ)) → fields ≡ split_fields text
    → IfOk result (λ answer. IsLineRead answer (line_of_fields fields)) → IfOk result (λ answer. IsExact answer text)
exact_where_read (Ok answer) text fields same is = exact answer text (subst (λ (f : List (List ℕ)). IsLineRead answer (line_of_fields f)) same is)
exact_where_read (Err error) text fields same is = tt
