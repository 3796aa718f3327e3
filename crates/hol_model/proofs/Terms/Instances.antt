-- What stands in an instance of a generic type at a type variable, and when the test for instances passes.
use Rattle.std.proofs.Common.{◌≡◌, ◌⊎◌, List, ℕ, Bool, true, false, refl, sym, ◌∙◌, ap, inl, inr, Option, Some, None, if◌then◌else◌}
use Rattle.std.specs.Str.{bytes_eq}
use Rattle.std.specs.Bool.{Decides}
use Rattle.std.proofs.lemmas.Slice.Eq.{bytes_eq-Decides}
use Rattle.hol_model.specs.Terms.HolType.{HolType, type_variable, bool_type, function_type, declared_type, TypeInstance, instantiate_type, OccursInType, part_at, first_answer, fits_generic}
use Rattle.hol_model.specs.Terms.HolType.{is_instance, IsInstance}
use Rattle.hol_model.proofs.Logic.Conditions.{if_same}
use Rattle.hol_model.proofs.Terms.HolTypeEq.{type_eq-self}
use Rattle.hol_model.proofs.Tests.{both}
use Rattle.hol_model.proofs.Logic.KnownTerms.{is_instance-IsInstance}

part_at_cases : (generic : HolType) (tau : TypeInstance) (name : List ℕ)
    → (part_at generic (instantiate_type tau generic) name ≡ None) ⊎ (part_at generic (instantiate_type tau generic) name ≡ Some (tau name))
part_at_cases (type_variable other) tau name = go (bytes_eq other name) (bytes_eq-Decides other name)
  where
    go : (test : Bool) → Decides test (other ≡ name)
        → ((if test then Some (tau other) else None) ≡ None) ⊎ ((if test then Some (tau other) else None) ≡ Some (tau name))
    go true d = inr (ap (λ n. Some (tau n)) (d.0 refl))
    go false d = inl refl
part_at_cases bool_type tau name = inl refl
part_at_cases (function_type a b) tau name =
    go (part_at a (instantiate_type tau a) name) (part_at b (instantiate_type tau b) name) (part_at_cases a tau name) (part_at_cases b tau name)
  where
    go : (first second : Option HolType) → (first ≡ None) ⊎ (first ≡ Some (tau name)) → (second ≡ None) ⊎ (second ≡ Some (tau name))
        → (first_answer first second ≡ None) ⊎ (first_answer first second ≡ Some (tau name))
    go first second (inl e) h = rw e h
    go first second (inr e) h = inr (rw e refl)
part_at_cases (declared_type other) tau name = inl refl

-- a type variable that occurs has what replaces it
pub part_at-instance : (generic : HolType) (tau : TypeInstance) (name : List ℕ) → OccursInType name generic
    → part_at generic (instantiate_type tau generic) name ≡ Some (tau name)
part_at-instance (type_variable other) tau name occurs =
    if_same (bytes_eq other name) (bytes_eq-Decides other name) (Some (tau other)) None (sym occurs) ∙ ap (λ n. Some (tau n)) (sym occurs)
part_at-instance bool_type tau name occurs = absurd occurs
part_at-instance (function_type a b) tau name (inl occurs) = rw (part_at-instance a tau name occurs) refl
part_at-instance (function_type a b) tau name (inr occurs) =
    go (part_at a (instantiate_type tau a) name) (part_at b (instantiate_type tau b) name) (part_at_cases a tau name) (part_at-instance b tau name occurs)
  where
    go : (first second : Option HolType) → (first ≡ None) ⊎ (first ≡ Some (tau name)) → second ≡ Some (tau name) → first_answer first second ≡ Some (tau name)
    go first second (inl e) h = rw e h
    go first second (inr e) h = rw e refl
part_at-instance (declared_type other) tau name occurs = absurd occurs

fits_generic-instance : (whole : HolType) (tau : TypeInstance) (generic : HolType) → ((name : List ℕ) → OccursInType name generic → OccursInType name whole)
    → fits_generic whole (instantiate_type tau whole) generic (instantiate_type tau generic) ≡ true
fits_generic-instance whole tau (type_variable name) inside = rw (part_at-instance whole tau name (inside name refl)) (type_eq-self (tau name))
fits_generic-instance whole tau bool_type inside = refl
fits_generic-instance whole tau (function_type a b) inside =
    both (fits_generic whole (instantiate_type tau whole) a (instantiate_type tau a)) (fits_generic whole (instantiate_type tau whole) b (instantiate_type tau b))
    (fits_generic-instance whole tau a (λ name occurs. inside name (inl occurs)))
    (fits_generic-instance whole tau b (λ name occurs. inside name (inr occurs)))
fits_generic-instance whole tau (declared_type name) inside = (bytes_eq-Decides name name).1 refl

-- the test for instances is right
pub is_instance-Decides : (generic ty : HolType) → Decides (is_instance generic ty) (IsInstance generic ty)
is_instance-Decides generic ty = (
  is_instance-IsInstance generic ty,
  λ k. ap (is_instance generic) k.is_instance ∙ fits_generic-instance generic k.instance generic (λ name occurs. occurs),
)

-- for contracts that say when a type is an instance
pub ruleset instances = (is_instance-Decides)
