-- How a line of a proof log is written.
use Rattle.std.specs.Prelude.{◌≡◌, ◌≤◌, ℕ, List, [], ◌∷◌, true, map, codes, decimal}
use Rattle.hol_model.specs.declared.limits.TheConstants.{NUMBER_LIMIT}
use Rattle.hol_model.specs.Logs.LogLine.{LogVersion, LogRule, LogLine}
use Rattle.hol_model.specs.Logs.LogLine.LogVersion.{first_version, second_version}
use Rattle.hol_model.specs.Logs.LogLine.LogRule.{refl_step, trans_step, mk_comb_step, abs_step, beta_step, assume_step, eq_mp_step, deduct_step, inst_step, inst_type_step, eta_step, select_step}
use Rattle.hol_model.specs.Logs.LogLine.LogRule.{definition_step}
use Rattle.hol_model.specs.Logs.LogLine.LogLine.{header_line, type_variable_line, bool_line, function_type_line, declared_type_line, variable_line, constant_line, combination_line}
use Rattle.hol_model.specs.Logs.LogLine.LogLine.{abstraction_line, new_type_line, new_constant_line, theorem_line, claim_line, end_line}
use Rattle.hol_logtext.specs.Fields.{joined, line_feed, is_log_name}

abbrev pub version_field : LogVersion → List ℕ
version_field first_version = codes "1"
version_field second_version = codes "2"

abbrev pub pair_fields : List (ℕ × ℕ) → List (List ℕ)
pair_fields [] = []
pair_fields (pair ∷ pairs) = decimal pair.0 ∷ decimal pair.1 ∷ pair_fields pairs

abbrev pub rule_fields : LogRule → List (List ℕ)
rule_fields (refl_step t) = codes "REFL" ∷ decimal t ∷ []
rule_fields (trans_step i j) = codes "TRANS" ∷ decimal i ∷ decimal j ∷ []
rule_fields (mk_comb_step i j) = codes "MK_COMB" ∷ decimal i ∷ decimal j ∷ []
rule_fields (abs_step t i) = codes "ABS" ∷ decimal t ∷ decimal i ∷ []
rule_fields (beta_step t) = codes "BETA" ∷ decimal t ∷ []
rule_fields (assume_step t) = codes "ASSUME" ∷ decimal t ∷ []
rule_fields (eq_mp_step i j) = codes "EQ_MP" ∷ decimal i ∷ decimal j ∷ []
rule_fields (deduct_step i j) = codes "DEDUCT" ∷ decimal i ∷ decimal j ∷ []
rule_fields (inst_step i pairs) = codes "INST" ∷ decimal i ∷ pair_fields pairs
rule_fields (inst_type_step i pairs) = codes "INSTTYPE" ∷ decimal i ∷ pair_fields pairs
rule_fields eta_step = codes "ETA" ∷ []
rule_fields select_step = codes "SELECT" ∷ []
rule_fields (definition_step name t) = codes "DEF" ∷ name ∷ decimal t ∷ []

abbrev pub line_fields : LogLine → List (List ℕ)
line_fields (header_line version) = codes "holp-log" ∷ version_field version ∷ []
line_fields (type_variable_line name) = codes "y" ∷ codes "v" ∷ name ∷ []
line_fields bool_line = codes "y" ∷ codes "b" ∷ []
line_fields (function_type_line a b) = codes "y" ∷ codes "f" ∷ decimal a ∷ decimal b ∷ []
line_fields (declared_type_line name) = codes "y" ∷ codes "n" ∷ name ∷ []
line_fields (variable_line name ty) = codes "t" ∷ codes "v" ∷ name ∷ decimal ty ∷ []
line_fields (constant_line name ty) = codes "t" ∷ codes "c" ∷ name ∷ decimal ty ∷ []
line_fields (combination_line f a) = codes "t" ∷ codes "a" ∷ decimal f ∷ decimal a ∷ []
line_fields (abstraction_line v t) = codes "t" ∷ codes "l" ∷ decimal v ∷ decimal t ∷ []
line_fields (new_type_line name) = codes "ny" ∷ name ∷ []
line_fields (new_constant_line name ty) = codes "nc" ∷ name ∷ decimal ty ∷ []
line_fields (theorem_line rule) = codes "k" ∷ rule_fields rule
line_fields (claim_line name i c hs) = codes "c" ∷ name ∷ decimal i ∷ decimal c ∷ map decimal hs
line_fields (end_line count) = codes "end" ∷ decimal count ∷ []

-- the text of a line, without a line feed
abbrev pub line_text : LogLine → List ℕ
line_text line = joined (line_fields line) []

-- the text of a line with its line feed
abbrev pub line_bytes : LogLine → List ℕ
line_bytes line = joined (line_fields line) (line_feed ∷ [])

-- a name of a log is a run of bytes 33 to 126, a number is within the limit

abbrev pub IsLogName : List ℕ → Type 0
IsLogName name = is_log_name name ≡ true

abbrev pub IsLogNumber : ℕ → Type 0
IsLogNumber number = number ≤ NUMBER_LIMIT

abbrev pub AreLogNumbers : List ℕ → Type 0
AreLogNumbers [] = Unit {0}
AreLogNumbers (number ∷ numbers) = IsLogNumber number × AreLogNumbers numbers

abbrev pub ArePairsOfNumbers : List (ℕ × ℕ) → Type 0
ArePairsOfNumbers [] = Unit {0}
ArePairsOfNumbers (pair ∷ pairs) = IsLogNumber pair.0 × IsLogNumber pair.1 × ArePairsOfNumbers pairs

abbrev pub IsWritableRule : LogRule → Type 0
IsWritableRule (refl_step t) = IsLogNumber t
IsWritableRule (trans_step i j) = IsLogNumber i × IsLogNumber j
IsWritableRule (mk_comb_step i j) = IsLogNumber i × IsLogNumber j
IsWritableRule (abs_step t i) = IsLogNumber t × IsLogNumber i
IsWritableRule (beta_step t) = IsLogNumber t
IsWritableRule (assume_step t) = IsLogNumber t
IsWritableRule (eq_mp_step i j) = IsLogNumber i × IsLogNumber j
IsWritableRule (deduct_step i j) = IsLogNumber i × IsLogNumber j
IsWritableRule (inst_step i pairs) = IsLogNumber i × ArePairsOfNumbers pairs
IsWritableRule (inst_type_step i pairs) = IsLogNumber i × ArePairsOfNumbers pairs
IsWritableRule eta_step = Unit {0}
IsWritableRule select_step = Unit {0}
IsWritableRule (definition_step name t) = IsLogName name × IsLogNumber t

-- the line's names are names of a log, and its numbers within the limit
abbrev pub IsWritable : LogLine → Type 0
IsWritable (header_line version) = Unit {0}
IsWritable (type_variable_line name) = IsLogName name
IsWritable bool_line = Unit {0}
IsWritable (function_type_line a b) = IsLogNumber a × IsLogNumber b
IsWritable (declared_type_line name) = IsLogName name
IsWritable (variable_line name ty) = IsLogName name × IsLogNumber ty
IsWritable (constant_line name ty) = IsLogName name × IsLogNumber ty
IsWritable (combination_line f a) = IsLogNumber f × IsLogNumber a
IsWritable (abstraction_line v t) = IsLogNumber v × IsLogNumber t
IsWritable (new_type_line name) = IsLogName name
IsWritable (new_constant_line name ty) = IsLogName name × IsLogNumber ty
IsWritable (theorem_line rule) = IsWritableRule rule
IsWritable (claim_line name i c hs) = IsLogName name × IsLogNumber i × IsLogNumber c × AreLogNumbers hs
IsWritable (end_line count) = IsLogNumber count

-- the text is that of the line
pub record IsTextOf (line : LogLine) (text : List ℕ) : Type 0 where
  pub writable : IsWritable line
  pub is_text : text ≡ line_text line
