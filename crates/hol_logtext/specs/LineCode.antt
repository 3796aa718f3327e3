-- How a proof tells lines apart: versions, rules and lines as trees of numbers.
use Rattle.std.specs.Prelude.{◌≡◌, ℕ, List, refl}
use Rattle.std.specs.Coded.{Coded, coded_ℕ, coded_list, coded×}
use Rattle.std.proofs.Common.{ap}
use base.Stored.{Gv, gnil, gnum, gcons}
use Rattle.hol_model.specs.Logs.LogLine.{LogVersion, LogRule, LogLine}
use Rattle.hol_model.specs.Logs.LogLine.LogVersion.{first_version, second_version}
use Rattle.hol_model.specs.Logs.LogLine.LogRule.{refl_step, trans_step, mk_comb_step, abs_step, beta_step, assume_step, eq_mp_step, deduct_step, inst_step, inst_type_step, eta_step, select_step}
use Rattle.hol_model.specs.Logs.LogLine.LogRule.{definition_step}
use Rattle.hol_model.specs.Logs.LogLine.LogLine.{header_line, type_variable_line, bool_line, function_type_line, declared_type_line, variable_line, constant_line, combination_line}
use Rattle.hol_model.specs.Logs.LogLine.LogLine.{abstraction_line, new_type_line, new_constant_line, theorem_line, claim_line, end_line}

abbrev two_code : Coded (ℕ × ℕ)
two_code = coded× coded_ℕ coded_ℕ

abbrev name_code : Coded (List ℕ)
name_code = coded_list coded_ℕ

abbrev pairs_code : Coded (ℕ × List (ℕ × ℕ))
pairs_code = coded× coded_ℕ (coded_list two_code)

abbrev named_code : Coded (List ℕ × ℕ)
named_code = coded× name_code coded_ℕ

-- a name and the theorem, the conclusion and the hypotheses
abbrev ClaimParts : Type 0
ClaimParts = (List ℕ × ℕ) × (ℕ × List ℕ)

abbrev claim_code : Coded ClaimParts
claim_code = coded× named_code (coded× coded_ℕ name_code)

abbrev pub code_version : LogVersion → Gv
code_version first_version = gnum 0
code_version second_version = gnum 1

pub code_version_injective : (s t : LogVersion) → code_version s ≡ code_version t → s ≡ t
code_version_injective first_version first_version same = refl
code_version_injective second_version second_version same = refl
code_version_injective _ _ same = cc

abbrev version_code : Coded LogVersion
version_code = record { code = code_version; inj = code_version_injective }

abbrev pub code_rule : LogRule → Gv
code_rule (refl_step t) = gcons (gnum 0) (gnum t)
code_rule (trans_step i j) = gcons (gnum 1) (two_code.code (i, j))
code_rule (mk_comb_step i j) = gcons (gnum 2) (two_code.code (i, j))
code_rule (abs_step t i) = gcons (gnum 3) (two_code.code (t, i))
code_rule (beta_step t) = gcons (gnum 4) (gnum t)
code_rule (assume_step t) = gcons (gnum 5) (gnum t)
code_rule (eq_mp_step i j) = gcons (gnum 6) (two_code.code (i, j))
code_rule (deduct_step i j) = gcons (gnum 7) (two_code.code (i, j))
code_rule (inst_step i pairs) = gcons (gnum 8) (pairs_code.code (i, pairs))
code_rule (inst_type_step i pairs) = gcons (gnum 9) (pairs_code.code (i, pairs))
code_rule eta_step = gcons (gnum 10) gnil
code_rule select_step = gcons (gnum 11) gnil
code_rule (definition_step name t) = gcons (gnum 12) (named_code.code (name, t))

pub code_rule_injective : (s t : LogRule) → code_rule s ≡ code_rule t → s ≡ t
code_rule_injective (refl_step a) (refl_step b) same = cc
code_rule_injective (trans_step i j) (trans_step k l) same = ap (λ (p : ℕ × ℕ). trans_step p.0 p.1) (two_code.inj (i, j) (k, l) (cc))
code_rule_injective (mk_comb_step i j) (mk_comb_step k l) same = ap (λ (p : ℕ × ℕ). mk_comb_step p.0 p.1) (two_code.inj (i, j) (k, l) (cc))
code_rule_injective (abs_step t i) (abs_step u k) same = ap (λ (p : ℕ × ℕ). abs_step p.0 p.1) (two_code.inj (t, i) (u, k) (cc))
code_rule_injective (beta_step a) (beta_step b) same = cc
code_rule_injective (assume_step a) (assume_step b) same = cc
code_rule_injective (eq_mp_step i j) (eq_mp_step k l) same = ap (λ (p : ℕ × ℕ). eq_mp_step p.0 p.1) (two_code.inj (i, j) (k, l) (cc))
code_rule_injective (deduct_step i j) (deduct_step k l) same = ap (λ (p : ℕ × ℕ). deduct_step p.0 p.1) (two_code.inj (i, j) (k, l) (cc))
code_rule_injective (inst_step i p) (inst_step k q) same = ap (λ (p : ℕ × List (ℕ × ℕ)). inst_step p.0 p.1) (pairs_code.inj (i, p) (k, q) (cc))
code_rule_injective (inst_type_step i p) (inst_type_step k q) same = ap (λ (p : ℕ × List (ℕ × ℕ)). inst_type_step p.0 p.1) (pairs_code.inj (i, p) (k, q) (cc))
code_rule_injective eta_step eta_step same = refl
code_rule_injective select_step select_step same = refl
code_rule_injective (definition_step a s) (definition_step b t) same = ap (λ (p : List ℕ × ℕ). definition_step p.0 p.1) (named_code.inj (a, s) (b, t) (cc))
code_rule_injective _ _ same = cc

abbrev rule_code : Coded LogRule
rule_code = record { code = code_rule; inj = code_rule_injective }

abbrev pub code_line : LogLine → Gv
code_line (header_line version) = gcons (gnum 0) (version_code.code version)
code_line (type_variable_line name) = gcons (gnum 1) (name_code.code name)
code_line bool_line = gcons (gnum 2) gnil
code_line (function_type_line a b) = gcons (gnum 3) (two_code.code (a, b))
code_line (declared_type_line name) = gcons (gnum 4) (name_code.code name)
code_line (variable_line name ty) = gcons (gnum 5) (named_code.code (name, ty))
code_line (constant_line name ty) = gcons (gnum 6) (named_code.code (name, ty))
code_line (combination_line f a) = gcons (gnum 7) (two_code.code (f, a))
code_line (abstraction_line v t) = gcons (gnum 8) (two_code.code (v, t))
code_line (new_type_line name) = gcons (gnum 9) (name_code.code name)
code_line (new_constant_line name ty) = gcons (gnum 10) (named_code.code (name, ty))
code_line (theorem_line rule) = gcons (gnum 11) (rule_code.code rule)
code_line (claim_line name i c hs) = gcons (gnum 12) (claim_code.code ((name, i), (c, hs)))
code_line (end_line count) = gcons (gnum 13) (gnum count)

pub code_line_injective : (s t : LogLine) → code_line s ≡ code_line t → s ≡ t
code_line_injective (header_line a) (header_line b) same = ap header_line (version_code.inj a b (cc))
code_line_injective (type_variable_line a) (type_variable_line b) same = ap type_variable_line (name_code.inj a b (cc))
code_line_injective bool_line bool_line same = refl
code_line_injective (function_type_line i j) (function_type_line k l) same = ap (λ (p : ℕ × ℕ). function_type_line p.0 p.1) (two_code.inj (i, j) (k, l) (cc))
code_line_injective (declared_type_line a) (declared_type_line b) same = ap declared_type_line (name_code.inj a b (cc))
code_line_injective (variable_line a s) (variable_line b t) same = ap (λ (p : List ℕ × ℕ). variable_line p.0 p.1) (named_code.inj (a, s) (b, t) (cc))
code_line_injective (constant_line a s) (constant_line b t) same = ap (λ (p : List ℕ × ℕ). constant_line p.0 p.1) (named_code.inj (a, s) (b, t) (cc))
code_line_injective (combination_line i j) (combination_line k l) same = ap (λ (p : ℕ × ℕ). combination_line p.0 p.1) (two_code.inj (i, j) (k, l) (cc))
code_line_injective (abstraction_line i j) (abstraction_line k l) same = ap (λ (p : ℕ × ℕ). abstraction_line p.0 p.1) (two_code.inj (i, j) (k, l) (cc))
code_line_injective (new_type_line a) (new_type_line b) same = ap new_type_line (name_code.inj a b (cc))
code_line_injective (new_constant_line a s) (new_constant_line b t) same = ap (λ (p : List ℕ × ℕ). new_constant_line p.0 p.1) (named_code.inj (a, s) (b, t) (cc))
code_line_injective (theorem_line a) (theorem_line b) same = ap theorem_line (rule_code.inj a b (cc))
code_line_injective (claim_line a i c hs) (claim_line b k d ks) same =
    ap (λ (p : ClaimParts). claim_line p.0.0 p.0.1 p.1.0 p.1.1) (claim_code.inj ((a, i), (c, hs)) ((b, k), (d, ks)) (cc))
code_line_injective (end_line a) (end_line b) same = cc
code_line_injective _ _ same = cc

abbrev line_code : Coded LogLine
line_code = record { code = code_line; inj = code_line_injective }

abbrev pub lines_code : Coded (List LogLine)
lines_code = coded_list line_code
