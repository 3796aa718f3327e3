-- The types of terms without bound names: a term has one type at most, and substitution keeps types.
use Rattle.std.proofs.Common.{◌≡◌, ℕ, zero, suc, List, [], ◌∷◌, ◌++◌, map, length, Bool, true, false, refl, sym, ◌∙◌, ap, subst, Some, if◌then◌else◌}
use Rattle.std.specs.Prelude.{slice_get}
use Rattle.hol_model.specs.Terms.HolType.{HolType, type_variable, bool_type, function_type, declared_type, TypeInstance, instantiate_type, codomain_of}
use Rattle.hol_model.specs.Terms.NamedTerm.{same_variable}
use Rattle.hol_model.specs.Terms.Nameless.{Nameless, free, const, bound, app, lam, HasType, nameless_type, binder_type}
use Rattle.hol_model.specs.Terms.Substitution.{close_at, put, TermInstance, instantiate}
use Rattle.hol_model.proofs.Tests.{same_variable-type}

-- a term has no other type than that which is computed

binder_type-is : (binders : List HolType) (index : ℕ) (ty : HolType) → slice_get binders index ≡ Some ty → binder_type binders index ≡ ty
binder_type-is [] index ty e = cc
binder_type-is (a ∷ binders) zero ty e = cc
binder_type-is (a ∷ binders) (suc index) ty e = binder_type-is binders index ty e

pub nameless_type-is : (t : Nameless) (binders : List HolType) (ty : HolType) → HasType binders t ty → nameless_type binders t ≡ ty
nameless_type-is (free name a) binders ty h = h
nameless_type-is (const name a) binders ty h = h
nameless_type-is (bound index) binders ty h = binder_type-is binders index ty h
nameless_type-is (app f x) binders ty h = ap codomain_of (nameless_type-is f binders (function_type h.0 ty) h.1)
nameless_type-is (lam a b) binders ty h = ap (λ c. function_type a c) (nameless_type-is b (a ∷ binders) h.0 h.1) ∙ h.2

pub one_type : (t : Nameless) (a b : HolType) → HasType [] t a → HasType [] t b → a ≡ b
one_type t a b h k = sym (nameless_type-is t [] a h) ∙ nameless_type-is t [] b k

-- more binders outside

pub slice_get-more : (binders more : List HolType) (index : ℕ) (ty : HolType) → slice_get binders index ≡ Some ty → slice_get (binders ++ more) index ≡ Some ty
slice_get-more [] more index ty e = cc
slice_get-more (a ∷ binders) more zero ty e = e
slice_get-more (a ∷ binders) more (suc index) ty e = slice_get-more binders more index ty e

pub slice_get-last : (binders : List HolType) (a : HolType) → slice_get (binders ++ a ∷ []) (length binders) ≡ Some a
slice_get-last [] a = refl
slice_get-last (b ∷ binders) a = slice_get-last binders a

pub HasType-more : (t : Nameless) (binders more : List HolType) (ty : HolType) → HasType binders t ty → HasType (binders ++ more) t ty
HasType-more (free name a) binders more ty h = h
HasType-more (const name a) binders more ty h = h
HasType-more (bound index) binders more ty h = slice_get-more binders more index ty h
HasType-more (app f x) binders more ty h = (h.0, HasType-more f binders more (function_type h.0 ty) h.1, HasType-more x binders more h.0 h.2)
HasType-more (lam a b) binders more ty h = (h.0, HasType-more b (a ∷ binders) more h.0 h.1, h.2)

-- closing, replacing free variables, replacing type variables

pub close_at-typed : (name : List ℕ) (a : HolType) (t : Nameless) (binders : List HolType) (ty : HolType) → HasType binders t ty → HasType (binders ++ a ∷ []) (close_at (length binders) name a t) ty
close_at-typed name a (free other b) binders ty h = go (same_variable name a other b) refl
  where
    go : (test : Bool) → same_variable name a other b ≡ test → HasType (binders ++ a ∷ []) (if test then bound (length binders) else free other b) ty
    go true passed = slice_get-last binders a ∙ ap Some (same_variable-type name other a b passed ∙ h)
    go false passed = h
close_at-typed name a (const other b) binders ty h = h
close_at-typed name a (bound index) binders ty h = slice_get-more binders (a ∷ []) index ty h
close_at-typed name a (app f x) binders ty h = (h.0, close_at-typed name a f binders (function_type h.0 ty) h.1, close_at-typed name a x binders h.0 h.2)
close_at-typed name a (lam b t) binders ty h = (h.0, close_at-typed name a t (b ∷ binders) h.0 h.1, h.2)

pub put-typed : (theta : TermInstance) → ((name : List ℕ) (a : HolType) → HasType [] (theta name a) a) → (t : Nameless) (binders : List HolType) (ty : HolType) → HasType binders t ty →
    HasType binders (put theta t) ty
put-typed theta fit (free name a) binders ty h = subst (λ (c : HolType). HasType binders (theta name a) c) h (HasType-more (theta name a) [] binders a (fit name a))
put-typed theta fit (const name a) binders ty h = h
put-typed theta fit (bound index) binders ty h = h
put-typed theta fit (app f x) binders ty h = (h.0, put-typed theta fit f binders (function_type h.0 ty) h.1, put-typed theta fit x binders h.0 h.2)
put-typed theta fit (lam a b) binders ty h = (h.0, put-typed theta fit b (a ∷ binders) h.0 h.1, h.2)

slice_get-map : (tau : TypeInstance) (binders : List HolType) (index : ℕ) (ty : HolType) → slice_get binders index ≡ Some ty →
    slice_get (map (instantiate_type tau) binders) index ≡ Some (instantiate_type tau ty)
slice_get-map tau [] index ty e = cc
slice_get-map tau (a ∷ binders) zero ty e = let same : a ≡ ty = cc in ap (λ c. Some (instantiate_type tau c)) same
slice_get-map tau (a ∷ binders) (suc index) ty e = slice_get-map tau binders index ty e

pub instantiate-typed : (tau : TypeInstance) (t : Nameless) (binders : List HolType) (ty : HolType) → HasType binders t ty →
    HasType (map (instantiate_type tau) binders) (instantiate tau t) (instantiate_type tau ty)
instantiate-typed tau (free name a) binders ty h = ap (instantiate_type tau) h
instantiate-typed tau (const name a) binders ty h = ap (instantiate_type tau) h
instantiate-typed tau (bound index) binders ty h = slice_get-map tau binders index ty h
instantiate-typed tau (app f x) binders ty h = (instantiate_type tau h.0, instantiate-typed tau f binders (function_type h.0 ty) h.1, instantiate-typed tau x binders h.0 h.2)
instantiate-typed tau (lam a b) binders ty h = (instantiate_type tau h.0, instantiate-typed tau b (a ∷ binders) h.0 h.1, ap (instantiate_type tau) h.2)

pub instantiate_type-twice : (tau rho : TypeInstance) (a : HolType) → instantiate_type tau (instantiate_type rho a) ≡ instantiate_type (λ v. instantiate_type tau (rho v)) a
instantiate_type-twice tau rho (type_variable v) = refl
instantiate_type-twice tau rho bool_type = refl
instantiate_type-twice tau rho (function_type a b) = cc (instantiate_type-twice tau rho a, instantiate_type-twice tau rho b)
instantiate_type-twice tau rho (declared_type d) = refl

pub instantiate_type-same : (a : HolType) → instantiate_type type_variable a ≡ a
instantiate_type-same (type_variable v) = refl
instantiate_type-same bool_type = refl
instantiate_type-same (function_type a b) = cc (instantiate_type-same a, instantiate_type-same b)
instantiate_type-same (declared_type d) = refl
