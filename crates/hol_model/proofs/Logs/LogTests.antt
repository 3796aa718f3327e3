-- What the tests of a proof log say: of terms, of sets of hypotheses, and of equations.
use Rattle.std.proofs.Common.{◌≡◌, ◌⊎◌, ℕ, zero, suc, ◌<◌, List, [], ◌∷◌, ◌++◌, Bool, true, false, not, length, refl, sym, ◌∙◌, ap, subst, inl, inr, Some, if◌then◌else◌}
use Rattle.std.specs.Prelude.{slice_get, nat_eq, nat_le}
use Rattle.std.proofs.lemmas.Bool.{eqb-true, eqb-false}
use Rattle.std.proofs.lemmas.Bool.{leb-false}
use Rattle.std.specs.declared.cmp.Ordering.{Ordering}
use Rattle.std.specs.declared.cmp.Ordering.TheVariants.{Less, Equal, Greater}
use Rattle.std.proofs.lemmas.Slice.Eq.{bytes_eq-Decides}
use Rattle.hol_model.specs.Terms.HolType.{HolType, bool_type, function_type, domain_of, instantiate_type}
use Rattle.hol_model.specs.Terms.Nameless.{Nameless, free, const, bound, app, lam, HasType, same_term, nameless_cmp}
use Rattle.hol_model.specs.Terms.Substitution.{close_at, fill_at, occurs_free}
use Rattle.hol_model.specs.Logic.Theory.{Theory, IsLegal, IsKnown, IsKnownType, HasKnownParts, equality_name, equality_type, type_a, generic_type}
use Rattle.hol_model.specs.Logic.Derivable.{IsMember, IsSameSet, nameless_equation}
use Rattle.hol_model.specs.Kernel.Theorem.{by_order}
use Rattle.hol_model.specs.Logs.LogState.{with_term, with_terms, set_of, same_terms}
use Rattle.hol_model.specs.Logs.LogSequents.{is_equation, left_side, right_side, side_type}
use Rattle.hol_model.specs.Logs.LogFaults.{takes}
use Rattle.hol_model.proofs.Terms.HolTypeEq.{type_eq-Decides}
use Rattle.hol_model.proofs.Tests.{first_of_both, second_of_both, first_of_neither, second_of_neither, same_variable-self, same_term-Decides}
use Rattle.hol_model.proofs.Terms.Orders.{same_from_nameless_cmp}
use Rattle.hol_model.proofs.Terms.Typing.{slice_get-last}
use Rattle.hol_model.proofs.Logic.Known.{generic_type-logical}

-- tests

pub not_false : (p : Bool) → not p ≡ false → p ≡ true
not_false true is = refl
not_false false is = cc

pub not_true : (p : Bool) → not p ≡ true → p ≡ false
not_true true is = cc
not_true false is = refl

pub is_there : (count number : ℕ) → nat_le count number ≡ false → number < count
is_there count number is = leb-false count number is

-- sets

members-with_term : (xs : List Nameless) (new t : Nameless) → IsMember t (with_term xs new) → IsMember t xs ⊎ (t ≡ new)
members-with_term [] new t (inl e) = inr e
members-with_term [] new t (inr m) = absurd m
members-with_term (x ∷ xs) new t m = go (nameless_cmp new x) m (members-with_term xs new t)
  where
    go : (order : Ordering) → IsMember t (by_order order (new ∷ x ∷ xs) (x ∷ xs) (x ∷ with_term xs new))
        → (IsMember t (with_term xs new) → IsMember t xs ⊎ (t ≡ new))
        → ((t ≡ x) ⊎ IsMember t xs) ⊎ (t ≡ new)
    go Less (inl e) deeper = inr e
    go Less (inr m) deeper = inl m
    go Equal m deeper = inl m
    go Greater (inl e) deeper = inl (inl e)
    go Greater (inr m) deeper = elim (deeper m) [ inl k ↦ inl (inr k) | inr e ↦ inr e ]

kept-with_term : (xs : List Nameless) (new t : Nameless) → IsMember t xs → IsMember t (with_term xs new)
kept-with_term [] new t m = absurd m
kept-with_term (x ∷ xs) new t m = go (nameless_cmp new x) m (kept-with_term xs new t)
  where
    go : (order : Ordering) → (t ≡ x) ⊎ IsMember t xs → (IsMember t xs → IsMember t (with_term xs new))
        → IsMember t (by_order order (new ∷ x ∷ xs) (x ∷ xs) (x ∷ with_term xs new))
    go Less m deeper = inr m
    go Equal m deeper = m
    go Greater (inl e) deeper = inl e
    go Greater (inr m) deeper = inr (deeper m)

new-with_term : (xs : List Nameless) (new : Nameless) → IsMember new (with_term xs new)
new-with_term [] new = inl refl
new-with_term (x ∷ xs) new = go (nameless_cmp new x) refl (new-with_term xs new)
  where
    go : (order : Ordering) → nameless_cmp new x ≡ order → IsMember new (with_term xs new)
        → IsMember new (by_order order (new ∷ x ∷ xs) (x ∷ xs) (x ∷ with_term xs new))
    go Less is deeper = inl refl
    go Equal is deeper = inl (same_from_nameless_cmp new x is)
    go Greater is deeper = inr deeper

members-with_terms : (xs ys : List Nameless) (t : Nameless) → IsMember t (with_terms xs ys) → IsMember t xs ⊎ IsMember t ys
members-with_terms xs [] t m = inl m
members-with_terms xs (y ∷ ys) t m =
    elim (members-with_terms (with_term xs y) ys t m) [
      | inl k ↦ (elim (members-with_term xs y t k) [ inl h ↦ inl h | inr e ↦ inr (inl e) ])
      | inr k ↦ inr (inr k)
    ]

kept-with_terms : (xs ys : List Nameless) (t : Nameless) → IsMember t xs → IsMember t (with_terms xs ys)
kept-with_terms xs [] t m = m
kept-with_terms xs (y ∷ ys) t m = kept-with_terms (with_term xs y) ys t (kept-with_term xs y t m)

new-with_terms : (xs ys : List Nameless) (t : Nameless) → IsMember t ys → IsMember t (with_terms xs ys)
new-with_terms xs [] t m = absurd m
new-with_terms xs (y ∷ ys) t (inl e) = kept-with_terms (with_term xs y) ys t (subst (λ (u : Nameless). IsMember u (with_term xs y)) (sym e) (new-with_term xs y))
new-with_terms xs (y ∷ ys) t (inr m) = new-with_terms (with_term xs y) ys t m

-- the members of a list in order are its members
pub set_of-same_set : (xs : List Nameless) → IsSameSet xs (set_of xs)
set_of-same_set xs = record {
  to = λ t m. new-with_terms [] xs t m;
  back = λ t m. elim (members-with_terms [] xs t m) [ inl none ↦ absurd none | inr k ↦ k ];
}

pub same_terms-is : (xs ys : List Nameless) → same_terms xs ys ≡ true → xs ≡ ys
same_terms-is [] [] is = refl
same_terms-is (x ∷ xs) (y ∷ ys) is =
    let first : x ≡ y = (same_term-Decides x y).0 (first_of_both (same_term x y) (same_terms xs ys) is) in
    let rest : xs ≡ ys = same_terms-is xs ys (second_of_both (same_term x y) (same_terms xs ys) is) in
    cc
same_terms-is _ _ is = cc

-- functions and their arguments

pub takes-is : (f argument : HolType) → takes f argument ≡ true → (codomain : HolType) × (f ≡ function_type argument codomain)
takes-is (function_type a b) argument is = (b, ap (λ c. function_type c b) ((type_eq-Decides a argument).0 is))
takes-is _ argument is = cc

-- equations

-- a known equation is that of its sides, which have one type
pub record IsEquation (theory : Theory) (c : Nameless) (ty : HolType) : Type 0 where
  pub is_equation : c ≡ nameless_equation ty (left_side c) (right_side c)
  pub left : IsKnown theory (left_side c) ty
  pub right : IsKnown theory (right_side c) ty

equality-instance : (theory : Theory) → IsLegal theory → (ty : HolType) → HasKnownParts theory (const equality_name ty) → (a : HolType) × (ty ≡ equality_type a)
equality-instance theory legal ty parts =
    let found : generic_type theory equality_name ≡ Some (equality_type type_a) = generic_type-logical theory legal equality_name (equality_type type_a) refl in
    let is : generic_type theory equality_name ≡ Some parts.1.generic = parts.1.is_generic in
    let same : parts.1.generic ≡ equality_type type_a = cc in
    (instantiate_type parts.1.is_instance.instance type_a, parts.1.is_instance.is_instance ∙ ap (instantiate_type parts.1.is_instance.instance) same)

-- the sides of an equation have the type of its equality
pub equation-is : (theory : Theory) → IsLegal theory → (c : Nameless) → is_equation c ≡ true → IsKnown theory c bool_type → IsEquation theory c (side_type c)
equation-is theory legal (app (app (const name ty) l) r) is known =
    let named : name ≡ equality_name = (bytes_eq-Decides name equality_name).0 is in
    let parts : HasKnownParts theory (const equality_name ty) = subst (λ (n : List ℕ). HasKnownParts theory (const n ty)) named known.parts.0.0 in
    let instance = equality-instance theory legal ty parts in
    let a : HolType = instance.0 in
    let type_is : ty ≡ equality_type a = instance.1 in
    let function = known.typed.1.1 in
    let left_type : known.typed.1.0 ≡ a = cc in
    let right_type : known.typed.0 ≡ a = cc in
    let side : domain_of ty ≡ a = ap domain_of type_is in
    record {
      is_equation = rw (named, type_is) refl;
      left = record { typed = subst (λ (d : HolType). HasType [] l d) (left_type ∙ sym side) known.typed.1.2; parts = known.parts.0.1 };
      right = record { typed = subst (λ (d : HolType). HasType [] r d) (right_type ∙ sym side) known.typed.2; parts = known.parts.1 };
    }
equation-is theory legal _ is known = cc

-- a body whose variable is filled in and closed over again

same_number : (a b : ℕ) → nat_eq a b ≡ true → a ≡ b
same_number a b is = eqb-true a b is

close_at-fill_at : (name : List ℕ) (ty : HolType) (t : Nameless) (passed : ℕ) → occurs_free name ty t ≡ false → close_at passed name ty (fill_at passed (free name ty) t) ≡ t
close_at-fill_at name ty (free other s) passed absent = rw absent refl
close_at-fill_at name ty (const other s) passed absent = refl
close_at-fill_at name ty (bound index) passed absent = go (nat_eq index passed) refl
  where
    go : (test : Bool) → nat_eq index passed ≡ test → close_at passed name ty (if test then free name ty else bound index) ≡ bound index
    go true is = rw (same_variable-self name ty) (ap bound (sym (same_number index passed is)))
    go false is = refl
close_at-fill_at name ty (app f x) passed absent =
    cc (
      close_at-fill_at name ty f passed (first_of_neither (occurs_free name ty f) (occurs_free name ty x) absent),
      close_at-fill_at name ty x passed (second_of_neither (occurs_free name ty f) (occurs_free name ty x) absent),
    )
close_at-fill_at name ty (lam s b) passed absent = ap (lam s) (close_at-fill_at name ty b (suc passed) absent)

pub close-fill : (name : List ℕ) (ty : HolType) (t : Nameless) → occurs_free name ty t ≡ false → close_at 0 name ty (fill_at 0 (free name ty) t) ≡ t
close-fill name ty t absent = close_at-fill_at name ty t 0 absent

-- a body keeps its type where a variable of the binder's type is filled in

slice_get-other : (binders : List HolType) (a : HolType) (index : ℕ) (ty : HolType) → ¬ (index ≡ length binders) → slice_get (binders ++ a ∷ []) index ≡ Some ty → slice_get binders index ≡ Some ty
slice_get-other [] a zero ty other is = absurd (other refl)
slice_get-other [] a (suc index) ty other is = cc
slice_get-other (b ∷ binders) a zero ty other is = is
slice_get-other (b ∷ binders) a (suc index) ty other is = slice_get-other binders a index ty (λ same. other (ap suc same)) is

fill_at-typed : (name : List ℕ) (a : HolType) (t : Nameless) (binders : List HolType) (ty : HolType) → HasType (binders ++ a ∷ []) t ty → HasType binders (fill_at (length binders) (free name a) t) ty
fill_at-typed name a (free other s) binders ty h = h
fill_at-typed name a (const other s) binders ty h = h
fill_at-typed name a (bound index) binders ty h = go (nat_eq index (length binders)) refl
  where
    go : (test : Bool) → nat_eq index (length binders) ≡ test → HasType binders (if test then free name a else bound index) ty
    go true is =
        let here : slice_get (binders ++ a ∷ []) (length binders) ≡ Some ty = rw (← same_number index (length binders) is) h in
        let last = slice_get-last binders a in
        cc
    go false is = slice_get-other binders a index ty (eqb-false index (length binders) is) h
fill_at-typed name a (app f x) binders ty h = (h.0, fill_at-typed name a f binders (function_type h.0 ty) h.1, fill_at-typed name a x binders h.0 h.2)
fill_at-typed name a (lam b t) binders ty h = (h.0, fill_at-typed name a t (b ∷ binders) h.0 h.1, h.2)

fill_at-parts : (theory : Theory) (name : List ℕ) (a : HolType) → IsKnownType theory a → (t : Nameless) (passed : ℕ) → HasKnownParts theory t → HasKnownParts theory (fill_at passed (free name a) t)
fill_at-parts theory name a known (free other s) passed p = p
fill_at-parts theory name a known (const other s) passed p = p
fill_at-parts theory name a known (bound index) passed p = go (nat_eq index passed)
  where
    go : (test : Bool) → HasKnownParts theory (if test then free name a else bound index)
    go true = known
    go false = tt
fill_at-parts theory name a known (app f x) passed p = (fill_at-parts theory name a known f passed p.0, fill_at-parts theory name a known x passed p.1)
fill_at-parts theory name a known (lam b t) passed p = (p.0, fill_at-parts theory name a known t (suc passed) p.1)

pub fill-known : (theory : Theory) (name : List ℕ) (a b : HolType) (t : Nameless) → IsKnownType theory a → HasType (a ∷ []) t b → HasKnownParts theory t → IsKnown theory (fill_at 0 (free name a) t) b
fill-known theory name a b t known typed parts = record { typed = fill_at-typed name a t [] b typed; parts = fill_at-parts theory name a known t 0 parts }
