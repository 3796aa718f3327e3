-- The lines of the code as those of the definitions.
use Rattle.std.specs.Prelude.{◌≡◌, ℕ, List, map, Option, Some, None, Result, Ok, Err}
use Rattle.std.specs.Option.{option_map}
use Rattle.std.proofs.Common.{Bor, Vec, Global}
use Rattle.hol_model.specs.Logs.LogLine.{LogVersion, LogRule, LogLine}
use Rattle.hol_model.specs.Logs.LogLine.LogVersion.{first_version, second_version}
use Rattle.hol_model.specs.Logs.LogLine.LogRule.{refl_step, trans_step, mk_comb_step, abs_step, beta_step, assume_step, eq_mp_step, deduct_step, inst_step, inst_type_step, eta_step, select_step}
use Rattle.hol_model.specs.Logs.LogLine.LogRule.{definition_step}
use Rattle.hol_model.specs.Logs.LogLine.LogLine.{header_line, type_variable_line, bool_line, function_type_line, declared_type_line, variable_line, constant_line, combination_line}
use Rattle.hol_model.specs.Logs.LogLine.LogLine.{abstraction_line, new_type_line, new_constant_line, theorem_line, claim_line, end_line}
use Rattle.hol_model.specs.declared.fault.Cause.{Cause}
use Rattle.hol_model.specs.declared.fault.Cause.TheVariants.{Shape}
use Rattle.hol_logtext.specs.LineText.{IsTextOf}
use Rattle.hol_logtext.specs.declared.line.Version.{Version}
use Rattle.hol_logtext.specs.declared.line.Version.TheVariants.{First, Second}
use Rattle.hol_logtext.specs.declared.line.Rule.{Rule}
use Rattle.hol_logtext.specs.declared.line.Rule.TheVariants.{Refl, Trans, MkComb, Abs, Beta, Assume, EqMp, Deduct, Inst, InstType, Eta, Select, Def}
use Rattle.hol_logtext.specs.declared.line.Line.{Line}
use Rattle.hol_logtext.specs.declared.line.Line.TheVariants.{Header, TypeVariable, Bool, FunctionType, DeclaredType, Variable, Constant, Combination, Abstraction, NewType, NewConstant, Theorem}
use Rattle.hol_logtext.specs.declared.line.Line.TheVariants.{Claim, End}

abbrev pub version_of : Version → LogVersion
version_of First = first_version
version_of Second = second_version

abbrev pub rule_of : Rule → LogRule
rule_of (Refl t) = refl_step t
rule_of (Trans i j) = trans_step i j
rule_of (MkComb i j) = mk_comb_step i j
rule_of (Abs t i) = abs_step t i
rule_of (Beta t) = beta_step t
rule_of (Assume t) = assume_step t
rule_of (EqMp i j) = eq_mp_step i j
rule_of (Deduct i j) = deduct_step i j
rule_of (Inst i pairs) = inst_step i pairs.items
rule_of (InstType i pairs) = inst_type_step i pairs.items
rule_of Eta = eta_step
rule_of Select = select_step
rule_of (Def name t) = definition_step name.now t

abbrev pub line_of : Line → LogLine
line_of (Header version) = header_line (version_of version)
line_of (TypeVariable name) = type_variable_line name.now
line_of Bool = bool_line
line_of (FunctionType a b) = function_type_line a b
line_of (DeclaredType name) = declared_type_line name.now
line_of (Variable name ty) = variable_line name.now ty
line_of (Constant name ty) = constant_line name.now ty
line_of (Combination f a) = combination_line f a
line_of (Abstraction v t) = abstraction_line v t
line_of (NewType name) = new_type_line name.now
line_of (NewConstant name ty) = new_constant_line name.now ty
line_of (Theorem rule) = theorem_line (rule_of rule)
line_of (Claim name i c hs) = claim_line name.now i c hs.items
line_of (End count) = end_line count

-- the fields that the code holds
abbrev pub fields_in : List (Bor (List ℕ)) → List (List ℕ)
fields_in fields = map (λ field. field.now) fields

abbrev pub text_in : Option (Bor (List ℕ)) → Option (List ℕ)
text_in found = option_map (λ name. name.now) found

abbrev pub name_and_number_in : Option (Bor (List ℕ) × ℕ) → Option (List ℕ × ℕ)
name_and_number_in found = option_map (λ pair. (pair.0.now, pair.1)) found

abbrev pub line_in : Option Line → Option LogLine
line_in found = option_map line_of found

abbrev pub rule_in : Option Rule → Option LogRule
rule_in found = option_map rule_of found

abbrev pub numbers_in : {A : Type 0} → Option (Vec A Global) → Option (List A)
numbers_in found = option_map (λ numbers. numbers.items) found

abbrev pub number_and_pairs_in : Option (ℕ × Vec (ℕ × ℕ) Global) → Option (ℕ × List (ℕ × ℕ))
number_and_pairs_in found = option_map (λ pair. (pair.0, pair.1.items)) found

-- the answer is the line that was read, or that there is none
abbrev pub IsLineRead : Result Line Cause → Option LogLine → Type 0
IsLineRead (Ok line) found = found ≡ Some (line_of line)
IsLineRead (Err cause) found = (found ≡ None) × (cause ≡ Shape)

-- the answer is the line whose text it is, or there is none
abbrev pub IsExact : Result Line Cause → List ℕ → Type 0
IsExact (Ok line) text = IsTextOf (line_of line) text
IsExact (Err cause) text = (line : LogLine) → ¬ (IsTextOf line text)
