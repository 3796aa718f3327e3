-- Types and terms in which each name is one of its kind.
use Rattle.std.specs.Prelude.{Bool, true, ◌&&◌}
use Rattle.hol_model.specs.Terms.Name.{is_identifier, is_type_variable_name, is_declared_type_name, is_constant_name}
use Rattle.hol_model.specs.Terms.HolType.{HolType, type_variable, bool_type, function_type, declared_type}
use Rattle.hol_model.specs.Terms.NamedTerm.{NamedTerm, variable, constant, combination, abstraction}

abbrev pub is_well_named_type : HolType → Bool
is_well_named_type (type_variable name) = is_type_variable_name name
is_well_named_type bool_type = true
is_well_named_type (function_type domain codomain) = is_well_named_type domain && is_well_named_type codomain
is_well_named_type (declared_type name) = is_declared_type_name name

-- variables, bound ones too, are identifiers
abbrev pub is_well_named : NamedTerm → Bool
is_well_named (variable name ty) = is_identifier name && is_well_named_type ty
is_well_named (constant name ty) = is_constant_name name && is_well_named_type ty
is_well_named (combination function argument) = is_well_named function && is_well_named argument
is_well_named (abstraction name ty body) = is_identifier name && is_well_named_type ty && is_well_named body
