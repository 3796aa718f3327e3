-- Tests on types and on terms with names: whether a theory knows them.
use Rattle.std.specs.Prelude.{ℕ, List, [], ◌∷◌, Bool, true, false, ◌&&◌, ◌||◌}
use Rattle.std.specs.Option.{is_some, option_map_or}
use Rattle.std.specs.Str.{bytes_eq}
use Rattle.hol_model.specs.Terms.HolType.{HolType, type_variable, bool_type, function_type, declared_type, is_instance}
use Rattle.hol_model.specs.Terms.NamedTerm.{NamedTerm, variable, constant, combination, abstraction}
use Rattle.hol_model.specs.Logic.Theory.{Theory, definition, declaration_of_type, declaration_of_constant, generic_type}

-- the type was declared
abbrev pub is_declared : Theory → List ℕ → Bool
is_declared [] name = false
is_declared (definition other ty body ∷ rest) name = is_declared rest name
is_declared (declaration_of_type other ∷ rest) name = bytes_eq other name || is_declared rest name
is_declared (declaration_of_constant other ty ∷ rest) name = is_declared rest name

-- each declared type in it was declared
abbrev pub knows_type : Theory → HolType → Bool
knows_type theory (type_variable name) = true
knows_type theory bool_type = true
knows_type theory (function_type domain codomain) = knows_type theory domain && knows_type theory codomain
knows_type theory (declared_type name) = is_declared theory name

-- each type in the term is known
abbrev pub knows_types : Theory → NamedTerm → Bool
knows_types theory (variable name ty) = knows_type theory ty
knows_types theory (constant name ty) = knows_type theory ty
knows_types theory (combination function argument) = knows_types theory function && knows_types theory argument
knows_types theory (abstraction name ty body) = knows_type theory ty && knows_types theory body

-- each constant in the term is there
abbrev pub knows_constants : Theory → NamedTerm → Bool
knows_constants theory (variable name ty) = true
knows_constants theory (constant name ty) = is_some (generic_type theory name)
knows_constants theory (combination function argument) = knows_constants theory function && knows_constants theory argument
knows_constants theory (abstraction name ty body) = knows_constants theory body

-- each constant in the term is there at an instance of its generic type
abbrev pub has_instances : Theory → NamedTerm → Bool
has_instances theory (variable name ty) = true
has_instances theory (constant name ty) = option_map_or (λ generic. is_instance generic ty) (generic_type theory name) false
has_instances theory (combination function argument) = has_instances theory function && has_instances theory argument
has_instances theory (abstraction name ty body) = has_instances theory body

-- the types and the constants of the term are known
abbrev pub is_known : Theory → NamedTerm → Bool
is_known theory term = knows_types theory term && knows_constants theory term && has_instances theory term
