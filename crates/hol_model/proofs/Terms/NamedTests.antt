-- The test of terms with names decides whether their images are known.
use Rattle.std.proofs.Common.{◌≡◌, ℕ, suc, List, [], ◌∷◌, Bool, true, false, ◌&&◌, refl, sym, ◌∙◌, ap, Option, Some, None, if◌then◌else◌}
use Rattle.std.specs.Option.{is_some, option_map, option_map_or}
use Rattle.std.specs.Bool.{Decides}
use Rattle.hol_model.specs.Terms.HolType.{HolType, is_instance}
use Rattle.hol_model.specs.Terms.NamedTerm.{NamedTerm, variable, constant, combination, abstraction, Binder, same_variable, type_of}
use Rattle.hol_model.specs.Terms.Nameless.{free, bound, image, image_under, variable_image, binder_index}
use Rattle.hol_model.specs.Logic.Theory.{Theory, generic_type, HasKnownParts, IsKnown}
use Rattle.hol_model.specs.Logic.Checks.{ChecksDecide, TypesAreOfImages}
use Rattle.hol_model.specs.Logic.KnownTerm.{knows_type, knows_types, knows_constants, has_instances, is_known}
use Rattle.hol_model.proofs.Tests.{first_of_both, second_of_both, both, same_variable-type}
use Rattle.hol_model.proofs.Terms.TypeTests.{knows_type-Decides, is_fixed-Decides, is_new_name-Decides}
use Rattle.hol_model.proofs.Terms.Images.{image-typed, image-type}
use Rattle.hol_model.proofs.Logic.LegalEntries.{is_closed-Decides, reflects-Decides}
use Rattle.hol_model.proofs.Logic.KnownTerms.{image-known}
use Rattle.hol_model.proofs.Logic.Checks.{knows_constant-Decides, knows_nameless-Decides, is_legal-Decides}

abbrev KnownBinders : Theory → List Binder → Type 0
KnownBinders theory [] = Unit {0}
KnownBinders theory (binder ∷ binders) = (knows_type theory binder.1 ≡ true) × KnownBinders theory binders

variable-known : (theory : Theory) (binders : List Binder) (name : List ℕ) (ty : HolType) → KnownBinders theory binders
    → HasKnownParts theory (variable_image binders name ty) → knows_type theory ty ≡ true
variable-known theory [] name ty known parts = (knows_type-Decides theory ty).1 parts
variable-known theory (binder ∷ binders) name ty known parts =
    go (same_variable binder.0 binder.1 name ty) refl (binder_index binders name ty) parts (variable-known theory binders name ty known.1)
  where
    go : (test : Bool) → same_variable binder.0 binder.1 name ty ≡ test → (found : Option ℕ)
        → HasKnownParts theory (option_map_or bound (if test then Some 0 else option_map suc found) (free name ty))
        → (HasKnownParts theory (option_map_or bound found (free name ty)) → knows_type theory ty ≡ true) → knows_type theory ty ≡ true
    go true passed found parts deeper = ap (knows_type theory) (sym (same_variable-type binder.0 name binder.1 ty passed)) ∙ known.0
    go false passed None parts deeper = deeper parts
    go false passed (Some index) parts deeper = deeper tt

-- a term whose image has known parts passes the tests
record PassesTests (theory : Theory) (term : NamedTerm) : Type 0 where
  types : knows_types theory term ≡ true
  instances : has_instances theory term ≡ true

parts-pass : (theory : Theory) (binders : List Binder) (term : NamedTerm) → KnownBinders theory binders → HasKnownParts theory (image_under binders term)
    → PassesTests theory term
parts-pass theory binders (variable name ty) known parts = record { types = variable-known theory binders name ty known parts; instances = refl }
parts-pass theory binders (constant name ty) known parts = record {
  types = (knows_type-Decides theory ty).1 parts.0;
  instances = (knows_constant-Decides theory name ty).1 parts.1;
}
parts-pass theory binders (combination f x) known parts =
    let first = parts-pass theory binders f known parts.0 in
    let second = parts-pass theory binders x known parts.1 in
    record {
      types = both (knows_types theory f) (knows_types theory x) first.types second.types;
      instances = both (has_instances theory f) (has_instances theory x) first.instances second.instances;
    }
parts-pass theory binders (abstraction name ty body) known parts =
    let binder : knows_type theory ty ≡ true = (knows_type-Decides theory ty).1 parts.0 in
    let inner = parts-pass theory ((name, ty) ∷ binders) body (binder, known) parts.1 in
    record { types = both (knows_type theory ty) (knows_types theory body) binder inner.types; instances = inner.instances }

-- a constant that is there at an instance is there
instances-constants : (theory : Theory) (term : NamedTerm) → has_instances theory term ≡ true → knows_constants theory term ≡ true
instances-constants theory (variable name ty) passed = refl
instances-constants theory (constant name ty) passed = go (generic_type theory name) passed
  where
    go : (found : Option HolType) → option_map_or (λ generic. is_instance generic ty) found false ≡ true → is_some found ≡ true
    go None passed = cc
    go (Some generic) passed = refl
instances-constants theory (combination f x) passed =
    both (knows_constants theory f) (knows_constants theory x)
    (instances-constants theory f (first_of_both (has_instances theory f) (has_instances theory x) passed))
    (instances-constants theory x (second_of_both (has_instances theory f) (has_instances theory x) passed))
instances-constants theory (abstraction name ty body) passed = instances-constants theory body passed

pub is_known-Decides : (theory : Theory) (term : NamedTerm) (ty : HolType) → type_of term ≡ Some ty → Decides (is_known theory term) (IsKnown theory (image term) ty)
is_known-Decides theory term ty typed = (
  λ passed. image-known theory term ty typed
      (first_of_both (knows_types theory term) (knows_constants theory term)
      (first_of_both (knows_types theory term && knows_constants theory term) (has_instances theory term) passed))
      (second_of_both (knows_types theory term && knows_constants theory term) (has_instances theory term) passed),
  λ known. let p = parts-pass theory [] term tt known.parts in rw (p.types, instances-constants theory term p.instances, p.instances) refl,
)

pub checks_decide : ChecksDecide
checks_decide = record {
  known = knows_nameless-Decides;
  known_image = is_known-Decides;
  legal = is_legal-Decides;
  closed = is_closed-Decides;
  reflected = reflects-Decides;
  fixed = is_fixed-Decides;
  new_name = is_new_name-Decides;
}

pub types_are_of_images : TypesAreOfImages
types_are_of_images = record { typed = image-typed; type_is = image-type }
