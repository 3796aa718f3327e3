-- Parts of a term that stand free of the binders around them.
use Rattle.std.proofs.Common.{◌≡◌, ◌<◌, ℕ, suc, List, [], ◌∷◌, ◌++◌, length, Bool, true, false, refl, sym, ◌∙◌, ap, arith, Option, Some, None, if◌then◌else◌}
use Rattle.std.proofs.lemmas.Bool.Decides.{nat_tests}
use Rattle.std.specs.Prelude.{bit_and, bit_or}
use Rattle.std.specs.Option.{option_map, option_map_or}
use Rattle.std.proofs.lemmas.Nat.{and_comm}
use Rattle.std.proofs.lemmas.Option.{slice_get_within}
use Rattle.hol_model.specs.Terms.HolType.{HolType, function_type}
use Rattle.hol_model.specs.Terms.NamedTerm.{NamedTerm, variable, constant, combination, abstraction, Binder, same_variable}
use Rattle.hol_model.specs.Terms.Nameless.{free, bound, lam, app, HasType, image_under, binder_index}
use Rattle.hol_model.proofs.Logic.Conditions.{first_of_both, second_of_both}
use Rattle.hol_terms.specs.Classes.{class_of_name, have_common_class, classes_of_names}
use Rattle.hol_terms.proofs.FreeNames.{nothing_common, apart_from_first, apart_from_second, other_names}
use Rattle.hol_match.specs.Walk.{stays_inside, is_inside}
use Rattle.hol_match.specs.Inside.{CoversOuter}

-- a variable of no class of the outer binders' names is bound by none of them

inside_more : (inner : ℕ) (found : Option ℕ) → is_inside inner found ≡ true → is_inside (suc inner) (option_map suc found) ≡ true
inside_more inner None inside = refl
inside_more inner (Some index) inside = grind (arith, nat_tests)

pub no_binders : (classes : ℕ) → CoversOuter classes 0 []
no_binders classes = record { inside = λ name ty apart. refl }

still_outside : (found : Option ℕ) → is_inside 0 found ≡ true → is_inside 0 (option_map suc found) ≡ true
still_outside None inside = refl
still_outside (Some index) inside = absurd (grind (arith, nat_tests))

pub with_binder : (classes : ℕ) (binders : List Binder) (name : List ℕ) (ty : HolType) → CoversOuter classes 0 binders
    → CoversOuter (bit_or (class_of_name name) classes) 0 ((name, ty) ∷ binders)
with_binder classes binders name ty covers = record {
  inside = λ other s apart.
      rw (other_names name other ty s (and_comm (class_of_name name) (class_of_name other) ∙ apart_from_first (class_of_name other) (class_of_name name) classes apart))
      (still_outside (binder_index binders other s) (covers.inside other s (apart_from_second (class_of_name other) (class_of_name name) classes apart)));
}

pub past_binder : (classes inner : ℕ) (binders : List Binder) (name : List ℕ) (ty : HolType) → CoversOuter classes inner binders
    → CoversOuter classes (suc inner) ((name, ty) ∷ binders)
past_binder classes inner binders name ty covers = record {
  inside = λ other s apart. go (same_variable name ty other s) (binder_index binders other s) (covers.inside other s apart);
}
  where
    go : (test : Bool) (found : Option ℕ) → is_inside inner found ≡ true → is_inside (suc inner) (if test then Some 0 else option_map suc found) ≡ true
    go true found inside = grind (arith, nat_tests)
    go false found inside = inside_more inner found inside

-- nor is one of a term whose names have none of these classes

apart_inside : (classes inner : ℕ) (binders : List Binder) (term : NamedTerm) → CoversOuter classes inner binders
    → bit_and classes (classes_of_names term) ≡ 0 → true ≡ stays_inside inner binders term
apart_inside classes inner binders (variable name ty) covers apart = sym (covers.inside name ty (and_comm (class_of_name name) classes ∙ apart))
apart_inside classes inner binders (constant name ty) covers apart = refl
apart_inside classes inner binders (combination f x) covers apart =
    let first = apart_inside classes inner binders f covers (apart_from_first classes (classes_of_names f) (classes_of_names x) apart) in
    let second = apart_inside classes inner binders x covers (apart_from_second classes (classes_of_names f) (classes_of_names x) apart) in
    cc
apart_inside classes inner binders (abstraction name ty body) covers apart =
    apart_inside classes (suc inner) ((name, ty) ∷ binders) body (past_binder classes inner binders name ty covers) apart

pub passed_over : (classes inner : ℕ) (binders : List Binder) (term : NamedTerm) → CoversOuter classes inner binders
    → have_common_class classes (classes_of_names term) ≡ false → true ≡ stays_inside inner binders term
passed_over classes inner binders term covers apart = apart_inside classes inner binders term covers (nothing_common classes (classes_of_names term) apart)

pub ruleset closed = (no_binders, with_binder, past_binder, passed_over)

-- a part that is free of the binders around it has the image that it has alone

inside_step : (inner : ℕ) (found alone : Option ℕ) → (is_inside inner found ≡ true → found ≡ alone)
    → is_inside (suc inner) (option_map suc found) ≡ true → option_map suc found ≡ option_map suc alone
inside_step inner None alone deeper inside = ap (option_map suc) (deeper refl)
inside_step inner (Some index) alone deeper inside = ap (option_map suc) (deeper (grind (arith, nat_tests)))

same_index : (inner outer : List Binder) (name : List ℕ) (ty : HolType)
    → is_inside (length inner) (binder_index (inner ++ outer) name ty) ≡ true → binder_index (inner ++ outer) name ty ≡ binder_index inner name ty
same_index [] outer name ty inside = go (binder_index outer name ty) inside
  where
    go : (found : Option ℕ) → is_inside 0 found ≡ true → found ≡ None
    go None inside = refl
    go (Some index) inside = absurd (grind (arith, nat_tests))
same_index (binder ∷ inner) outer name ty inside =
    go (same_variable binder.0 binder.1 name ty) (same_index inner outer name ty) inside
  where
    go : (test : Bool) → (is_inside (length inner) (binder_index (inner ++ outer) name ty) ≡ true → binder_index (inner ++ outer) name ty ≡ binder_index inner name ty)
        → is_inside (suc (length inner)) (if test then Some 0 else option_map suc (binder_index (inner ++ outer) name ty)) ≡ true
        → (if test then Some 0 else option_map suc (binder_index (inner ++ outer) name ty)) ≡ (if test then Some 0 else option_map suc (binder_index inner name ty))
    go true deeper inside = refl
    go false deeper inside = inside_step (length inner) (binder_index (inner ++ outer) name ty) (binder_index inner name ty) deeper inside

same_image : (inner outer : List Binder) (term : NamedTerm) → stays_inside (length inner) (inner ++ outer) term ≡ true
    → image_under (inner ++ outer) term ≡ image_under inner term
same_image inner outer (variable name ty) inside = ap (λ found. option_map_or bound found (free name ty)) (same_index inner outer name ty inside)
same_image inner outer (constant name ty) inside = refl
same_image inner outer (combination f x) inside = λ i. app
    (same_image inner outer f (first_of_both (stays_inside (length inner) (inner ++ outer) f) (stays_inside (length inner) (inner ++ outer) x) inside) i)
    (same_image inner outer x (second_of_both (stays_inside (length inner) (inner ++ outer) f) (stays_inside (length inner) (inner ++ outer) x) inside) i)
same_image inner outer (abstraction name ty body) inside = ap (lam ty) (same_image ((name, ty) ∷ inner) outer body inside)

pub image_of_closed : (binders : List Binder) (term : NamedTerm) → stays_inside 0 binders term ≡ true → image_under binders term ≡ image_under [] term
image_of_closed binders term inside = same_image [] binders term inside

-- a part whose image has a type with no binder around it is free of those around it

typed_inside : (types : List HolType) (found : Option ℕ) (name : List ℕ) (s ty : HolType)
    → HasType types (option_map_or bound found (free name s)) ty → is_inside (length types) found ≡ true
typed_inside types None name s ty typed = refl
typed_inside types (Some index) name s ty typed =
    let within : index < length types = slice_get_within types index ty typed in grind (arith, nat_tests)

pub stays_where_typed : (types : List HolType) (binders : List Binder) (term : NamedTerm) (ty : HolType)
    → HasType types (image_under binders term) ty → stays_inside (length types) binders term ≡ true
stays_where_typed types binders (variable name s) ty typed = typed_inside types (binder_index binders name s) name s ty typed
stays_where_typed types binders (constant name s) ty typed = refl
stays_where_typed types binders (combination f x) ty typed =
    let first = stays_where_typed types binders f (function_type typed.0 ty) typed.1 in
    let second = stays_where_typed types binders x typed.0 typed.2 in
    cc
stays_where_typed types binders (abstraction name s body) ty typed = stays_where_typed (s ∷ types) ((name, s) ∷ binders) body typed.0 typed.1
