-- How a line of a proof log is read, field by field.
use Rattle.std.specs.Prelude.{ℕ, List, [], ◌∷◌, Option, Some, None, if◌then◌else◌, codes}
use Rattle.std.specs.Option.{option_map}
use Rattle.std.specs.Str.{bytes_eq}
use Rattle.hol_model.specs.Logs.LogLine.{LogRule, LogLine}
use Rattle.hol_model.specs.Logs.LogLine.LogVersion.{first_version, second_version}
use Rattle.hol_model.specs.Logs.LogLine.LogRule.{refl_step, trans_step, mk_comb_step, abs_step, beta_step, assume_step, eq_mp_step, deduct_step, inst_step, inst_type_step, eta_step, select_step}
use Rattle.hol_model.specs.Logs.LogLine.LogRule.{definition_step}
use Rattle.hol_model.specs.Logs.LogLine.LogLine.{header_line, type_variable_line, bool_line, function_type_line, declared_type_line, variable_line, constant_line, combination_line}
use Rattle.hol_model.specs.Logs.LogLine.LogLine.{abstraction_line, new_type_line, new_constant_line, theorem_line, claim_line, end_line}
use Rattle.hol_logtext.specs.Fields.{split_fields, name_of, number_of}

-- what fields say: nothing more, a name, a number, two of them, and lists

abbrev pub no_field : List (List ℕ) → Option (Unit {0})
no_field [] = Some tt
no_field _ = None

abbrev pub one_name : List (List ℕ) → Option (List ℕ)
one_name (name ∷ []) = name_of name
one_name _ = None

abbrev pub one_number : List (List ℕ) → Option ℕ
one_number (number ∷ []) = number_of number
one_number _ = None

-- both of two answers
abbrev pub both : {A B : Type 0} → Option A → Option B → Option (A × B)
both (Some x) (Some y) = Some (x, y)
both (Some x) None = None
both None y = None

abbrev pub both_numbers : List ℕ → List ℕ → Option (ℕ × ℕ)
both_numbers first second = both (number_of first) (number_of second)

abbrev pub two_numbers : List (List ℕ) → Option (ℕ × ℕ)
two_numbers (first ∷ second ∷ []) = both_numbers first second
two_numbers _ = None

abbrev pub both_kinds : List ℕ → List ℕ → Option (List ℕ × ℕ)
both_kinds name number = both (name_of name) (number_of number)

abbrev pub name_and_number : List (List ℕ) → Option (List ℕ × ℕ)
name_and_number (name ∷ number ∷ []) = both_kinds name number
name_and_number _ = None

-- an element before a list
abbrev pub before_all : {A : Type 0} → Option A → Option (List A) → Option (List A)
before_all (Some x) (Some xs) = Some (x ∷ xs)
before_all (Some x) None = None
before_all None xs = None

abbrev pub numbers_of : List (List ℕ) → Option (List ℕ)
numbers_of [] = Some []
numbers_of (field ∷ fields) = before_all (number_of field) (numbers_of fields)

abbrev pub pairs_of : List (List ℕ) → Option (List (ℕ × ℕ))
pairs_of [] = Some []
pairs_of (field ∷ []) = None
pairs_of (first ∷ second ∷ fields) = before_all (both_numbers first second) (pairs_of fields)

abbrev pub number_and_pairs : List (List ℕ) → Option (ℕ × List (ℕ × ℕ))
number_and_pairs [] = None
number_and_pairs (number ∷ fields) = both (number_of number) (pairs_of fields)

-- the name, the theorem, the conclusion and the hypotheses of a claim

abbrev pub parts_of_claim : List ℕ → List ℕ → List ℕ → List (List ℕ) → Option ((List ℕ × ℕ) × (ℕ × List ℕ))
parts_of_claim name theorem conclusion hypotheses = both (both_kinds name theorem) (both (number_of conclusion) (numbers_of hypotheses))

abbrev pub claim_parts : List (List ℕ) → Option ((List ℕ × ℕ) × (ℕ × List ℕ))
claim_parts (name ∷ theorem ∷ conclusion ∷ hypotheses) = parts_of_claim name theorem conclusion hypotheses
claim_parts _ = None

abbrev pub claim_of_parts : (List ℕ × ℕ) × (ℕ × List ℕ) → LogLine
claim_of_parts parts = claim_line parts.0.0 parts.0.1 parts.1.0 parts.1.1

-- lines by their words

abbrev pub header_of : List (List ℕ) → Option LogLine
header_of (version ∷ []) =
    if bytes_eq version (codes "1") then Some (header_line first_version) else
    (if bytes_eq version (codes "2") then Some (header_line second_version) else None)
header_of _ = None

abbrev pub type_of_word : List ℕ → List (List ℕ) → Option LogLine
type_of_word word fields =
    if bytes_eq word (codes "v") then option_map type_variable_line (one_name fields) else
    (if bytes_eq word (codes "b") then option_map (λ _. bool_line) (no_field fields) else
    (if bytes_eq word (codes "f") then option_map (λ pair. function_type_line pair.0 pair.1) (two_numbers fields) else
    (if bytes_eq word (codes "n") then option_map declared_type_line (one_name fields) else None)))

abbrev pub term_of_word : List ℕ → List (List ℕ) → Option LogLine
term_of_word word fields =
    if bytes_eq word (codes "v") then option_map (λ pair. variable_line pair.0 pair.1) (name_and_number fields) else
    (if bytes_eq word (codes "c") then option_map (λ pair. constant_line pair.0 pair.1) (name_and_number fields) else
    (if bytes_eq word (codes "a") then option_map (λ pair. combination_line pair.0 pair.1) (two_numbers fields) else
    (if bytes_eq word (codes "l") then option_map (λ pair. abstraction_line pair.0 pair.1) (two_numbers fields) else None)))

-- rules over two numbers
abbrev pub pair_rule_of_word : List ℕ → List (List ℕ) → Option LogRule
pair_rule_of_word word fields =
    if bytes_eq word (codes "TRANS") then option_map (λ pair. trans_step pair.0 pair.1) (two_numbers fields) else
    (if bytes_eq word (codes "MK_COMB") then option_map (λ pair. mk_comb_step pair.0 pair.1) (two_numbers fields) else
    (if bytes_eq word (codes "ABS") then option_map (λ pair. abs_step pair.0 pair.1) (two_numbers fields) else
    (if bytes_eq word (codes "EQ_MP") then option_map (λ pair. eq_mp_step pair.0 pair.1) (two_numbers fields) else
    (if bytes_eq word (codes "DEDUCT") then option_map (λ pair. deduct_step pair.0 pair.1) (two_numbers fields) else None))))

-- rules over numbers alone
abbrev pub plain_rule_of_word : List ℕ → List (List ℕ) → Option LogRule
plain_rule_of_word word fields =
    if bytes_eq word (codes "REFL") then option_map refl_step (one_number fields) else
    (if bytes_eq word (codes "BETA") then option_map beta_step (one_number fields) else
    (if bytes_eq word (codes "ASSUME") then option_map assume_step (one_number fields) else pair_rule_of_word word fields))

-- axioms and definitions
abbrev pub entry_of_word : List ℕ → List (List ℕ) → Option LogRule
entry_of_word word fields =
    if bytes_eq word (codes "ETA") then option_map (λ _. eta_step) (no_field fields) else
    (if bytes_eq word (codes "SELECT") then option_map (λ _. select_step) (no_field fields) else
    (if bytes_eq word (codes "DEF") then option_map (λ pair. definition_step pair.0 pair.1) (name_and_number fields) else
    plain_rule_of_word word fields))

abbrev pub rule_of_word : List ℕ → List (List ℕ) → Option LogRule
rule_of_word word fields =
    if bytes_eq word (codes "INST") then option_map (λ pair. inst_step pair.0 pair.1) (number_and_pairs fields) else
    (if bytes_eq word (codes "INSTTYPE") then option_map (λ pair. inst_type_step pair.0 pair.1) (number_and_pairs fields) else entry_of_word word fields)

-- what a word and the fields behind it say
abbrev pub by_word : {A : Type 0} → (List ℕ → List (List ℕ) → Option A) → List (List ℕ) → Option A
by_word read [] = None
by_word read (word ∷ fields) = read word fields

-- lines of a bounded number of fields
abbrev pub short_of_word : List ℕ → List (List ℕ) → Option LogLine
short_of_word word fields =
    if bytes_eq word (codes "y") then by_word type_of_word fields else
    (if bytes_eq word (codes "t") then by_word term_of_word fields else
    (if bytes_eq word (codes "ny") then option_map new_type_line (one_name fields) else
    (if bytes_eq word (codes "nc") then option_map (λ pair. new_constant_line pair.0 pair.1) (name_and_number fields) else
    (if bytes_eq word (codes "end") then option_map end_line (one_number fields) else
    (if bytes_eq word (codes "holp-log") then header_of fields else None)))))

abbrev pub line_of_word : List ℕ → List (List ℕ) → Option LogLine
line_of_word word fields =
    if bytes_eq word (codes "k") then option_map theorem_line (by_word rule_of_word fields) else
    (if bytes_eq word (codes "c") then option_map claim_of_parts (claim_parts fields) else short_of_word word fields)

abbrev pub line_of_fields : List (List ℕ) → Option LogLine
line_of_fields fields = by_word line_of_word fields

-- the line whose text it is, `None` where there is none
abbrev pub read_text : List ℕ → Option LogLine
read_text text = line_of_fields (split_fields text)
