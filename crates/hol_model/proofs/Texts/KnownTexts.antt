-- Well named terms of known types and constants are told by their texts.
use Rattle.std.proofs.Common.{◌≡◌, ℕ, List, Bool, true, false, ◌&&◌, refl, Option, Some, None, Ok, Err}
use Rattle.std.specs.Prelude.{if◌then◌else◌}
use Rattle.std.specs.Option.{option_map_or}
use Rattle.hol_model.specs.declared.fault.Fault.TheVariants.{UnknownConst}
use Rattle.hol_model.specs.Terms.Name.{is_identifier, is_constant_name}
use Rattle.hol_model.specs.Terms.HolType.{HolType, type_variable, bool_type, function_type, declared_type, is_instance}
use Rattle.hol_model.specs.Terms.NamedTerm.{NamedTerm, variable, constant, combination, abstraction}
use Rattle.hol_model.specs.Terms.WellNamed.{is_well_named_type, is_well_named}
use Rattle.hol_model.specs.Logic.Theory.{Theory, generic_type}
use Rattle.hol_model.specs.Logic.KnownTerm.{knows_type, knows_types, has_instances}
use Rattle.hol_model.specs.Texts.Reading.{constant_at}
use Rattle.hol_model.specs.Texts.Texts.{IsNamedType, IsKnownTerm}
use Rattle.hol_model.specs.Texts.Scopes.{scope_with}
use Rattle.hol_model.proofs.Tests.{first_of_both, second_of_both}

named_type : (theory : Theory) (variables : List ℕ → Option HolType) (ty : HolType) → knows_type theory ty ≡ true → is_well_named_type ty ≡ true
    → IsNamedType (scope_with theory variables) ty
named_type theory variables (type_variable name) known named = named
named_type theory variables bool_type known named = tt
named_type theory variables (function_type domain codomain) known named = (
  named_type theory variables domain (first_of_both (knows_type theory domain) (knows_type theory codomain) known)
      (first_of_both (is_well_named_type domain) (is_well_named_type codomain) named),
  named_type theory variables codomain (second_of_both (knows_type theory domain) (knows_type theory codomain) known)
      (second_of_both (is_well_named_type domain) (is_well_named_type codomain) named),
)
named_type theory variables (declared_type name) known named = (known, named)

known_at : (found : Option HolType) (name : List ℕ) (ty : HolType) → option_map_or (λ generic. is_instance generic ty) found false ≡ true
    → constant_at found name ty ≡ Ok (constant name ty)
known_at None name ty passed = cc
known_at (Some generic) name ty passed = rw passed refl

known_name : (test : Bool) (found : Option HolType) (name : List ℕ) (ty : HolType) → test ≡ true → option_map_or (λ generic. is_instance generic ty) found false ≡ true
    → (if test then constant_at found name ty else Err UnknownConst) ≡ Ok (constant name ty)
known_name true found name ty is passed = known_at found name ty passed
known_name false found name ty is passed = cc

pub known_text : (theory : Theory) (variables : List ℕ → Option HolType) (term : NamedTerm) → knows_types theory term ≡ true → has_instances theory term ≡ true
    → is_well_named term ≡ true → IsKnownTerm (scope_with theory variables) term
known_text theory variables (variable name ty) types instances named = (
  named_type theory variables ty types (second_of_both (is_identifier name) (is_well_named_type ty) named),
  first_of_both (is_identifier name) (is_well_named_type ty) named,
)
known_text theory variables (constant name ty) types instances named = (
  named_type theory variables ty types (second_of_both (is_constant_name name) (is_well_named_type ty) named),
  known_name (is_constant_name name) (generic_type theory name) name ty (first_of_both (is_constant_name name) (is_well_named_type ty) named) instances,
)
known_text theory variables (combination function argument) types instances named = (
  known_text theory variables function (first_of_both (knows_types theory function) (knows_types theory argument) types)
      (first_of_both (has_instances theory function) (has_instances theory argument) instances) (first_of_both (is_well_named function) (is_well_named argument) named),
  known_text theory variables argument (second_of_both (knows_types theory function) (knows_types theory argument) types)
      (second_of_both (has_instances theory function) (has_instances theory argument) instances) (second_of_both (is_well_named function) (is_well_named argument) named),
)
known_text theory variables (abstraction name ty body) types instances named =
    let binder = first_of_both (is_identifier name && is_well_named_type ty) (is_well_named body) named in (
      named_type theory variables ty (first_of_both (knows_type theory ty) (knows_types theory body) types) (second_of_both (is_identifier name) (is_well_named_type ty) binder),
      first_of_both (is_identifier name) (is_well_named_type ty) binder,
      known_text theory variables body (second_of_both (knows_type theory ty) (knows_types theory body) types) instances
          (second_of_both (is_identifier name && is_well_named_type ty) (is_well_named body) named),
    )
