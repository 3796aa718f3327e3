-- A term that is written without type variables has no places of them.
use Rattle.std.proofs.Common.{◌≡◌, [], ◌++◌, false}
use Rattle.hol_model.specs.Terms.NamedTerm.{NamedTerm, variable, constant, combination, abstraction, type_places}
use Rattle.hol_model.proofs.Tests.{first_of_neither, second_of_neither}
use Rattle.hol_types.specs.Variables as types
use Rattle.hol_types.proofs.Closed.{no_places}
use Rattle.hol_terms.specs.TypeVariables.{has_type_variables}

pub no_type_places : (term : NamedTerm) → has_type_variables term ≡ false → type_places term ≡ []
no_type_places (variable name ty) none = no_places ty none
no_type_places (constant name ty) none = no_places ty none
no_type_places (combination f x) none =
    λ i. no_type_places f (first_of_neither (has_type_variables f) (has_type_variables x) none) i
    ++ no_type_places x (second_of_neither (has_type_variables f) (has_type_variables x) none) i
no_type_places (abstraction name ty body) none =
    λ i. no_places ty (first_of_neither (types.has_type_variables ty) (has_type_variables body) none) i
    ++ no_type_places body (second_of_neither (types.has_type_variables ty) (has_type_variables body) none) i

pub ruleset without_places = (no_type_places)
