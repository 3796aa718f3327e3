-- The tests of definitions and declarations say of a term with names what is asked of its image.
use Rattle.std.proofs.Common.{◌≡◌, ℕ, suc, List, [], ◌∷◌, Bool, true, false, ◌&&◌, ◌||◌, refl, sym, ◌∙◌, ap, subst, Option, Some, None, if◌then◌else◌}
use Rattle.std.specs.Option.{option_map, option_map_or}
use Rattle.std.specs.Bool.{Decides}
use Rattle.hol_model.specs.Terms.HolType.{HolType, OccursInType}
use Rattle.hol_model.specs.Terms.NamedTerm.{NamedTerm, variable, constant, combination, abstraction, Binder, is_bound_by, same_variable}
use Rattle.hol_model.specs.Terms.Nameless.{free, bound, image, image_under, variable_image, binder_index}
use Rattle.hol_model.specs.Terms.Substitution.{HasNoFree, OccursInTerm}
use Rattle.hol_model.specs.Logic.Theory.{Theory, IsNewName}
use Rattle.hol_model.specs.Logic.Legality.{is_closed_under, is_closed, reflects_type, reflects, is_fixed, is_new_name}
use Rattle.hol_model.specs.Logic.Checks.{has_no_free, reflects_nameless}
use Rattle.hol_model.proofs.Tests.{same_variable-type}
use Rattle.hol_model.proofs.Terms.TypeTests.{is_fixed-Decides, is_new_name-Decides}
use Rattle.hol_model.proofs.Logic.Checks.{has_no_free-Decides, reflects_nameless-Decides}

-- closed terms

bound_variable-same : (binders : List Binder) (name : List ℕ) (ty : HolType) → is_bound_by binders name ty ≡ has_no_free (variable_image binders name ty)
bound_variable-same [] name ty = refl
bound_variable-same (binder ∷ binders) name ty = go (same_variable binder.0 binder.1 name ty) (binder_index binders name ty) (bound_variable-same binders name ty)
  where
    go : (test : Bool) (found : Option ℕ) → is_bound_by binders name ty ≡ has_no_free (option_map_or bound found (free name ty))
        → (test || is_bound_by binders name ty) ≡ has_no_free (option_map_or bound (if test then Some 0 else option_map suc found) (free name ty))
    go true found deeper = refl
    go false None deeper = deeper
    go false (Some index) deeper = deeper

closed_under-same : (binders : List Binder) (term : NamedTerm) → is_closed_under binders term ≡ has_no_free (image_under binders term)
closed_under-same binders (variable name ty) = bound_variable-same binders name ty
closed_under-same binders (constant name ty) = refl
closed_under-same binders (combination f x) = cc (closed_under-same binders f, closed_under-same binders x)
closed_under-same binders (abstraction name ty body) = closed_under-same ((name, ty) ∷ binders) body

pub is_closed-Decides : (term : NamedTerm) → Decides (is_closed term) (HasNoFree (image term))
is_closed-Decides term = subst (λ test. Decides test (HasNoFree (image term))) (sym (closed_under-same [] term)) (has_no_free-Decides (image term))

pub closed-HasNoFree : (term : NamedTerm) → is_closed term ≡ true → HasNoFree (image term)
closed-HasNoFree term passed = (is_closed-Decides term).0 passed

-- type variables

abbrev ReflectedBinders : HolType → List Binder → Type 0
ReflectedBinders whole [] = Unit {0}
ReflectedBinders whole (binder ∷ binders) = (reflects_type whole binder.1 ≡ true) × ReflectedBinders whole binders

-- the type of a bound variable is that of its binder
variable-same : (whole : HolType) (binders : List Binder) (name : List ℕ) (ty : HolType) → ReflectedBinders whole binders
    → reflects_type whole ty ≡ reflects_nameless whole (variable_image binders name ty)
variable-same whole [] name ty reflected = refl
variable-same whole (binder ∷ binders) name ty reflected =
    go (same_variable binder.0 binder.1 name ty) refl (binder_index binders name ty) (variable-same whole binders name ty reflected.1)
  where
    go : (test : Bool) → same_variable binder.0 binder.1 name ty ≡ test → (found : Option ℕ)
        → reflects_type whole ty ≡ reflects_nameless whole (option_map_or bound found (free name ty))
        → reflects_type whole ty ≡ reflects_nameless whole (option_map_or bound (if test then Some 0 else option_map suc found) (free name ty))
    go true passed found deeper = ap (reflects_type whole) (sym (same_variable-type binder.0 name binder.1 ty passed)) ∙ reflected.0
    go false passed None deeper = deeper
    go false passed (Some index) deeper = deeper

reflects_under-same : (whole : HolType) (binders : List Binder) (term : NamedTerm) → ReflectedBinders whole binders → reflects whole term ≡ reflects_nameless whole (image_under binders term)
reflects_under-same whole binders (variable name ty) reflected = variable-same whole binders name ty reflected
reflects_under-same whole binders (constant name ty) reflected = refl
reflects_under-same whole binders (combination f x) reflected = cc (reflects_under-same whole binders f reflected, reflects_under-same whole binders x reflected)
reflects_under-same whole binders (abstraction name ty body) reflected =
    go (reflects_type whole ty) (λ passed. reflects_under-same whole ((name, ty) ∷ binders) body (passed, reflected))
  where
    go : (test : Bool) → (test ≡ true → reflects whole body ≡ reflects_nameless whole (image_under ((name, ty) ∷ binders) body))
        → (test && reflects whole body) ≡ (test && reflects_nameless whole (image_under ((name, ty) ∷ binders) body))
    go true deeper = deeper refl
    go false deeper = refl

pub reflects-Decides : (whole : HolType) (term : NamedTerm) → Decides (reflects whole term) ((name : List ℕ) → OccursInTerm name (image term) → OccursInType name whole)
reflects-Decides whole term =
    subst (λ test. Decides test ((name : List ℕ) → OccursInTerm name (image term) → OccursInType name whole)) (sym (reflects_under-same whole [] term tt))
    (reflects_nameless-Decides whole (image term))

pub reflects-image : (whole : HolType) (term : NamedTerm) → reflects whole term ≡ true → (name : List ℕ) → OccursInTerm name (image term) → OccursInType name whole
reflects-image whole term passed name occurs = (reflects-Decides whole term).0 passed name occurs

pub fixed-has_none : (ty : HolType) → is_fixed ty ≡ true → (name : List ℕ) → ¬ (OccursInType name ty)
fixed-has_none ty passed = (is_fixed-Decides ty).0 passed

-- new names

pub new_name-IsNewName : (theory : Theory) (name : List ℕ) → is_new_name theory name ≡ true → IsNewName theory name
new_name-IsNewName theory name passed = (is_new_name-Decides theory name).0 passed
