-- Terms that are written with type variables.
use Rattle.std.specs.Prelude.{Bool, ◌||◌}
use Rattle.hol_types.specs.Variables as types
use Rattle.hol_model.specs.Terms.NamedTerm.{NamedTerm, variable, constant, combination, abstraction}

-- a type variable stands in a type that the term is written with
abbrev pub has_type_variables : NamedTerm → Bool
has_type_variables (variable name ty) = types.has_type_variables ty
has_type_variables (constant name ty) = types.has_type_variables ty
has_type_variables (combination function argument) = has_type_variables function || has_type_variables argument
has_type_variables (abstraction name ty body) = types.has_type_variables ty || has_type_variables body
