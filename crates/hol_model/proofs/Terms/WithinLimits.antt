-- The image of a term within the limits is within them.
use Rattle.std.proofs.Common.{◌≡◌, ℕ, List, [], ◌∷◌, true, ◌&&◌, refl, sym, ◌∙◌, ap, Option, Some, None, nat_le, IsTrue}
use Rattle.std.specs.Option.{option_map, option_map_or}
use Rattle.hol_model.specs.declared.limits.TheConstants.{TERM_NODES_LIMIT, TERM_HEIGHT_LIMIT}
use Rattle.hol_model.specs.Terms.HolType.{HolType, function_type}
use Rattle.hol_model.specs.Terms.NamedTerm.{NamedTerm, variable, constant, combination, abstraction, Binder, type_of, height, nodes, type_fits, some_type_fits, types_fit, is_within_limits}
use Rattle.hol_model.specs.Terms.Nameless.{bound, free, image, image_under, binder_index, nameless_type}
use Rattle.hol_model.specs.Terms.Measures.{nameless_height, nameless_nodes, nameless_types_fit, nameless_within_limits}
use Rattle.hol_model.proofs.Tests.{first_of_both, second_of_both, both}
use Rattle.hol_model.proofs.Terms.Typing.{nameless_type-is}
use Rattle.hol_model.proofs.Terms.Images.{binder_types, application-typed, image_under-typed}
use Rattle.hol_model.proofs.Terms.Measures.{height-image, nodes-image, some_type}

variable-fits : (binders : List Binder) (found : Option ℕ) (name : List ℕ) (ty : HolType) → type_fits ty ≡ true
    → nameless_types_fit (binder_types binders) (option_map_or bound found (free name ty)) ≡ true
variable-fits binders None name ty fits = fits
variable-fits binders (Some index) name ty fits = refl

types_fit-image : (binders : List Binder) (term : NamedTerm) (ty : HolType) → type_of term ≡ Some ty → types_fit term ≡ true
    → nameless_types_fit (binder_types binders) (image_under binders term) ≡ true
types_fit-image binders (variable name s) ty typed fits = variable-fits binders (binder_index binders name s) name s fits
types_fit-image binders (constant name s) ty typed fits = fits
types_fit-image binders (combination f x) ty typed fits =
    let parts = application-typed (type_of f) (type_of x) ty typed in
    both (nameless_types_fit (binder_types binders) (image_under binders f)) (nameless_types_fit (binder_types binders) (image_under binders x))
    (types_fit-image binders f (function_type parts.0 ty) parts.1 (first_of_both (types_fit f) (types_fit x) fits))
    (types_fit-image binders x parts.0 parts.2 (second_of_both (types_fit f) (types_fit x) fits))
types_fit-image binders (abstraction name s body) ty typed fits =
    let inner = image_under ((name, s) ∷ binders) body in
    let shape = nameless_type (s ∷ binder_types binders) inner in
    let q = some_type_fits (option_map (function_type s) (type_of body)) in
    let found = some_type (type_of body) s ty typed in
    let is : type_of body ≡ Some found.0 = found.1 in
    let same : shape ≡ found.0 = nameless_type-is inner (s ∷ binder_types binders) found.0 (image_under-typed ((name, s) ∷ binders) body found.0 is) in
    both (nameless_types_fit (s ∷ binder_types binders) inner) (type_fits (function_type s shape))
    (types_fit-image ((name, s) ∷ binders) body found.0 is (first_of_both (types_fit body) q fits))
    (ap (λ c. type_fits (function_type s c)) same ∙ ap (λ o. some_type_fits (option_map (function_type s) o)) (sym is) ∙ second_of_both (types_fit body) q fits)

pub within_limits-image : (term : NamedTerm) (ty : HolType) → type_of term ≡ Some ty → IsTrue (is_within_limits term) → IsTrue (nameless_within_limits (image term))
within_limits-image term ty typed within =
    let h = nat_le (height term) TERM_HEIGHT_LIMIT in
    let n = nat_le (nodes term) TERM_NODES_LIMIT in
    let two : (h && n) ≡ true = first_of_both (h && n) (types_fit term) within in
    both (nat_le (nameless_height (image term)) TERM_HEIGHT_LIMIT && nat_le (nameless_nodes (image term)) TERM_NODES_LIMIT) (nameless_types_fit [] (image term))
    (both (nat_le (nameless_height (image term)) TERM_HEIGHT_LIMIT) (nat_le (nameless_nodes (image term)) TERM_NODES_LIMIT)
    (ap (λ k. nat_le k TERM_HEIGHT_LIMIT) (height-image [] term) ∙ first_of_both h n two)
    (ap (λ k. nat_le k TERM_NODES_LIMIT) (nodes-image [] term) ∙ second_of_both h n two))
    (types_fit-image [] term ty typed (second_of_both (h && n) (types_fit term) within))

pub ruleset limits = (within_limits-image)
