-- The image of a term with names that passes the tests is known.
use Rattle.std.proofs.Common.{◌≡◌, ℕ, List, [], ◌∷◌, true, false, refl, sym, ap, Option, Some, None}
use Rattle.std.specs.Option.{option_map_or}
use Rattle.std.proofs.lemmas.Slice.Eq.{bytes_eq-Decides}
use Rattle.hol_model.specs.Terms.HolType.{HolType, type_variable, bool_type, function_type, declared_type, type_eq, TypeInstance, instantiate_type, part_at, fits_generic, is_instance, IsInstance}
use Rattle.hol_model.specs.Terms.NamedTerm.{NamedTerm, variable, constant, combination, abstraction, Binder, type_of}
use Rattle.hol_model.specs.Terms.Nameless.{free, bound, image, image_under, variable_image, binder_index}
use Rattle.hol_model.specs.Logic.Theory.{Theory, generic_type, IsKnownType, IsKnownConstant, HasKnownParts, IsKnown}
use Rattle.hol_model.specs.Logic.KnownTerm.{knows_type, knows_types, has_instances}
use Rattle.hol_model.proofs.Terms.HolTypeEq.{type_eq-Decides}
use Rattle.hol_model.proofs.Tests.{first_of_both, second_of_both}
use Rattle.hol_model.proofs.Terms.TypeTests.{knows_type-Decides}
use Rattle.hol_model.proofs.Terms.Images.{image-typed}

-- an instance that passes the test is one

-- the type of a part, where there is one
abbrev part_or_variable : List ℕ → Option HolType → HolType
part_or_variable name None = type_variable name
part_or_variable name (Some ty) = ty

-- what first stands for each type variable
abbrev parts_of : HolType → HolType → TypeInstance
parts_of generic ty name = part_or_variable name (part_at generic ty name)

fits_generic-instance : (whole_generic whole generic ty : HolType) → fits_generic whole_generic whole generic ty ≡ true → ty ≡ instantiate_type (parts_of whole_generic whole) generic
fits_generic-instance whole_generic whole (type_variable name) ty passed = go (part_at whole_generic whole name) passed
  where
    go : (found : Option HolType) → option_map_or (λ part. type_eq part ty) found false ≡ true → ty ≡ part_or_variable name found
    go None passed = cc
    go (Some part) passed = sym ((type_eq-Decides part ty).0 passed)
fits_generic-instance whole_generic whole bool_type bool_type passed = refl
fits_generic-instance whole_generic whole (function_type a b) (function_type c d) passed =
    let domain = fits_generic-instance whole_generic whole a c (first_of_both (fits_generic whole_generic whole a c) (fits_generic whole_generic whole b d) passed) in
    let codomain = fits_generic-instance whole_generic whole b d (second_of_both (fits_generic whole_generic whole a c) (fits_generic whole_generic whole b d) passed) in
    λ i. function_type (domain i) (codomain i)
fits_generic-instance whole_generic whole (declared_type a) (declared_type b) passed = ap declared_type (sym ((bytes_eq-Decides a b).0 passed))
fits_generic-instance whole_generic whole _ _ passed = cc

pub is_instance-IsInstance : (generic ty : HolType) → is_instance generic ty ≡ true → IsInstance generic ty
is_instance-IsInstance generic ty passed = record { instance = parts_of generic ty; is_instance = fits_generic-instance generic ty generic ty passed }

-- known types

pub knows_type-IsKnownType : (theory : Theory) (ty : HolType) → knows_type theory ty ≡ true → IsKnownType theory ty
knows_type-IsKnownType theory ty passed = (knows_type-Decides theory ty).0 passed

-- known terms

variable-parts : (theory : Theory) (binders : List Binder) (name : List ℕ) (ty : HolType) → IsKnownType theory ty → HasKnownParts theory (variable_image binders name ty)
variable-parts theory binders name ty known = go (binder_index binders name ty)
  where
    go : (found : Option ℕ) → HasKnownParts theory (option_map_or bound found (free name ty))
    go None = known
    go (Some index) = tt

constant-known : (theory : Theory) (name : List ℕ) (ty : HolType) → has_instances theory (constant name ty) ≡ true → IsKnownConstant theory name ty
constant-known theory name ty passed = go (generic_type theory name) refl passed
  where
    go : (found : Option HolType) → generic_type theory name ≡ found → option_map_or (λ generic. is_instance generic ty) found false ≡ true → IsKnownConstant theory name ty
    go None is passed = cc
    go (Some generic) is passed = record { generic = generic; is_generic = is; is_instance = is_instance-IsInstance generic ty passed }

image_under-parts : (theory : Theory) (binders : List Binder) (term : NamedTerm) → knows_types theory term ≡ true → has_instances theory term ≡ true → HasKnownParts theory (image_under binders term)
image_under-parts theory binders (variable name ty) types instances = variable-parts theory binders name ty (knows_type-IsKnownType theory ty types)
image_under-parts theory binders (constant name ty) types instances = (knows_type-IsKnownType theory ty types, constant-known theory name ty instances)
image_under-parts theory binders (combination f x) types instances = (
  image_under-parts theory binders f (first_of_both (knows_types theory f) (knows_types theory x) types) (first_of_both (has_instances theory f) (has_instances theory x) instances),
  image_under-parts theory binders x (second_of_both (knows_types theory f) (knows_types theory x) types) (second_of_both (has_instances theory f) (has_instances theory x) instances),
)
image_under-parts theory binders (abstraction name ty body) types instances = (
  knows_type-IsKnownType theory ty (first_of_both (knows_type theory ty) (knows_types theory body) types),
  image_under-parts theory ((name, ty) ∷ binders) body (second_of_both (knows_type theory ty) (knows_types theory body) types) instances,
)

-- the image of a known term is known
pub image-known : (theory : Theory) (term : NamedTerm) (ty : HolType) → type_of term ≡ Some ty → knows_types theory term ≡ true → has_instances theory term ≡ true → IsKnown theory (image term) ty
image-known theory term ty typed types instances = record { typed = image-typed term ty typed; parts = image_under-parts theory [] term types instances }
