-- Known terms put together and filled in.
use Rattle.std.proofs.Common.{◌≡◌, ℕ, zero, suc, List, [], ◌∷◌, ◌++◌, Bool, true, false, length, refl, sym, ap, subst, inl, inr, Some, None, Option, if◌then◌else◌}
use Rattle.std.specs.Prelude.{slice_get, nat_eq}
use Rattle.std.specs.List.{list_any}
use Rattle.std.specs.Option.{option_map_or}
use Rattle.std.proofs.lemmas.Bool.{eqb-true, eqb-false}
use Rattle.hol_model.specs.Terms.HolType.{HolType, type_variable, bool_type, function_type, type_eq}
use Rattle.hol_model.specs.Terms.NamedTerm.{NamedTerm, type_of}
use Rattle.hol_model.specs.Terms.Nameless.{Nameless, free, const, bound, app, lam, HasType}
use Rattle.hol_model.specs.Terms.Substitution.{fill_at, fill, occurs_free}
use Rattle.hol_model.specs.Logic.Theory.{Theory, IsKnown, HasKnownParts, IsKnownConstant, generic_type}
use Rattle.hol_model.specs.Logic.Derivable.{IsMember}
use Rattle.hol_model.specs.Logic.Logic.{binary, false_name, false_term}
use Rattle.hol_model.specs.Derived.DerivedRules.{is_of_type}
use Rattle.hol_model.proofs.Terms.HolTypeEq.{type_eq-Decides}
use Rattle.hol_model.proofs.Tests.{first_of_neither, second_of_neither}
use Rattle.hol_model.proofs.Terms.Typing.{slice_get-last, HasType-more}
use Rattle.hol_model.specs.Refining.Refiners.{has_free_name}

-- ---- connectives

binary-known : (theory : Theory) (name : List ℕ) → generic_type theory name ≡ Some binary → IsKnownConstant theory name binary
binary-known theory name is = record { generic = binary; is_generic = is; is_instance = record { instance = type_variable; is_instance = refl } }

pub connected-known : (theory : Theory) (name : List ℕ) → generic_type theory name ≡ Some binary → (p q : Nameless) → IsKnown theory p bool_type
    → IsKnown theory q bool_type → IsKnown theory (app (app (const name binary) p) q) bool_type
connected-known theory name is p q h k = record {
  typed = (bool_type, (bool_type, refl, h.typed), k.typed);
  parts = ((((tt, (tt, tt)), binary-known theory name is), h.parts), k.parts);
}

pub false-known : (theory : Theory) → generic_type theory false_name ≡ Some bool_type → IsKnown theory false_term bool_type
false-known theory is = record { typed = refl; parts = (tt, record { generic = bool_type; is_generic = is; is_instance = record { instance = type_variable; is_instance = refl } }) }

-- ---- a closed term filled in

slice_get-other : (binders : List HolType) (a : HolType) (index : ℕ) (ty : HolType) → ¬ (index ≡ length binders) → slice_get (binders ++ a ∷ []) index ≡ Some ty
    → slice_get binders index ≡ Some ty
slice_get-other [] a zero ty other is = absurd (other refl)
slice_get-other [] a (suc index) ty other is = cc
slice_get-other (b ∷ binders) a zero ty other is = is
slice_get-other (b ∷ binders) a (suc index) ty other is = slice_get-other binders a index ty (λ same. other (ap suc same)) is

same_number : (a b : ℕ) → nat_eq a b ≡ true → a ≡ b
same_number a b is = eqb-true a b is

fill_at-typed : (new : Nameless) (a : HolType) → HasType [] new a → (t : Nameless) (binders : List HolType) (ty : HolType) → HasType (binders ++ a ∷ []) t ty
    → HasType binders (fill_at (length binders) new t) ty
fill_at-typed new a closed (free other s) binders ty h = h
fill_at-typed new a closed (const other s) binders ty h = h
fill_at-typed new a closed (bound index) binders ty h = go (nat_eq index (length binders)) refl
  where
    go : (test : Bool) → nat_eq index (length binders) ≡ test → HasType binders (if test then new else bound index) ty
    go true is =
        let here : slice_get (binders ++ a ∷ []) (length binders) ≡ Some ty = rw (← same_number index (length binders) is) h in
        let last = slice_get-last binders a in
        let same : a ≡ ty = cc in
        subst (HasType binders new) same (HasType-more new [] binders a closed)
    go false is = slice_get-other binders a index ty (eqb-false index (length binders) is) h
fill_at-typed new a closed (app f x) binders ty h = (h.0, fill_at-typed new a closed f binders (function_type h.0 ty) h.1, fill_at-typed new a closed x binders h.0 h.2)
fill_at-typed new a closed (lam b t) binders ty h = (h.0, fill_at-typed new a closed t (b ∷ binders) h.0 h.1, h.2)

fill_at-parts : (theory : Theory) (new : Nameless) → HasKnownParts theory new → (t : Nameless) (passed : ℕ) → HasKnownParts theory t → HasKnownParts theory (fill_at passed new t)
fill_at-parts theory new known (free other s) passed p = p
fill_at-parts theory new known (const other s) passed p = p
fill_at-parts theory new known (bound index) passed p = go (nat_eq index passed)
  where
    go : (test : Bool) → HasKnownParts theory (if test then new else bound index)
    go true = known
    go false = tt
fill_at-parts theory new known (app f x) passed p = (fill_at-parts theory new known f passed p.0, fill_at-parts theory new known x passed p.1)
fill_at-parts theory new known (lam b t) passed p = (p.0, fill_at-parts theory new known t (suc passed) p.1)

pub fill-known : (theory : Theory) (new : Nameless) (a b : HolType) (t : Nameless) → IsKnown theory new a → HasType (a ∷ []) t b → HasKnownParts theory t → IsKnown theory (fill new t) b
fill-known theory new a b t known typed parts = record { typed = fill_at-typed new a known.typed t [] b typed; parts = fill_at-parts theory new known.parts t 0 parts }

-- ---- tests

pub is_of_type-type : (ty : HolType) (term : NamedTerm) → is_of_type ty term ≡ true → type_of term ≡ Some ty
is_of_type-type ty term is = go (type_of term) is
  where
    go : (found : Option HolType) → option_map_or (λ s. type_eq s ty) found false ≡ true → found ≡ Some ty
    go None is = cc
    go (Some s) is = ap Some ((type_eq-Decides s ty).0 is)

pub no-name : (name : List ℕ) (ty : HolType) (t : Nameless) → has_free_name name t ≡ false → occurs_free name ty t ≡ false
no-name name ty (free other s) absent = rw absent refl
no-name name ty (const other s) absent = refl
no-name name ty (bound index) absent = refl
no-name name ty (app f x) absent =
    rw (no-name name ty f (first_of_neither (has_free_name name f) (has_free_name name x) absent)) (no-name name ty x (second_of_neither (has_free_name name f) (has_free_name name x) absent))
no-name name ty (lam s b) absent = no-name name ty b absent

pub none-passes : {A : Type 0} (test : A → Bool) (x : A) (xs : List A) → list_any test xs ≡ false → IsMember x xs → test x ≡ false
none-passes {A = A} test x [] none member = absurd member
none-passes {A = A} test x (y ∷ xs) none (inl same) = subst (λ (z : A). test z ≡ false) (sym same) (first_of_neither (test y) (list_any test xs) none)
none-passes {A = A} test x (y ∷ xs) none (inr member) = none-passes test x xs (second_of_neither (test y) (list_any test xs) none) member
