-- Types of terms that are kept.
use Rattle.std.proofs.Common.{◌≡◌, ℕ, zero, suc, ◌-◌, ◌<◌, List, ◌∷◌, length, ◌&&◌, refl, sym, ◌∙◌, ap, inl, inr, Option, Some, None, arith}
use Rattle.std.specs.Option.{IfSome}
use Rattle.hol_model.specs.Terms.HolType.{HolType, function_type, codomain_of}
use Rattle.hol_model.specs.Terms.NamedTerm.{type_fits}
use Rattle.hol_model.specs.Terms.Nameless.{Nameless, free, const, bound, app, lam, binder_type, nameless_type}
use Rattle.hol_model.specs.Terms.Measures.{nameless_types_fit}
use Rattle.hol_check_terms.specs.Growth.{IsLonger}
use Rattle.hol_check_terms.specs.Terms.{term_at}
use Rattle.hol_check_terms.specs.Entries.{IsEntry, HasOnlyAdded}
use Rattle.hol_check_terms.specs.Loose.{binders_needed}
use Rattle.hol_check_terms.specs.Typed.{IsTypedUnderSome, IsTyped, AreTyped}
use Rattle.hol_check_terms.proofs.TableLemmas.{get_or-longer, within-later}
use Rattle.hol_check_terms.proofs.GrowthLemmas.{type-place}

-- the binders agree as far as the term needs them
abbrev AgreeFor : ℕ → List HolType → List HolType → Type 0
AgreeFor needed first second = (index : ℕ) → index < needed → binder_type first index ≡ binder_type second index

agree-under : (ty : HolType) (needed : ℕ) (first second : List HolType) → AgreeFor (needed - 1) first second → AgreeFor needed (ty ∷ first) (ty ∷ second)
agree-under ty needed first second agree zero within = refl
agree-under ty needed first second agree (suc index) within = agree index (omega arith)

-- only the binders that a term needs count for its type

type-agrees : (term : Nameless) (first second : List HolType) → AgreeFor (binders_needed term) first second → nameless_type first term ≡ nameless_type second term
type-agrees (free name ty) first second agree = refl
type-agrees (const name ty) first second agree = refl
type-agrees (bound index) first second agree = agree index (omega arith)
type-agrees (app f a) first second agree = ap codomain_of (type-agrees f first second (λ index within. agree index (omega arith)))
type-agrees (lam ty body) first second agree = ap (function_type ty) (type-agrees body (ty ∷ first) (ty ∷ second) (agree-under ty (binders_needed body) first second agree))

fit-agrees : (term : Nameless) (first second : List HolType) → AgreeFor (binders_needed term) first second → nameless_types_fit first term ≡ nameless_types_fit second term
fit-agrees (free name ty) first second agree = refl
fit-agrees (const name ty) first second agree = refl
fit-agrees (bound index) first second agree = refl
fit-agrees (app f a) first second agree = λ i. fit-agrees f first second (λ index within. agree index (omega arith)) i && fit-agrees a first second (λ index within. agree index (omega arith)) i
fit-agrees (lam ty body) first second agree =
    let under = agree-under ty (binders_needed body) first second agree in
    λ i. fit-agrees body (ty ∷ first) (ty ∷ second) under i && type_fits (function_type ty (type-agrees body (ty ∷ first) (ty ∷ second) under i))

-- a term that needs no binders has its type under any
pub typed-anywhere : (types : List HolType) (term : Nameless) (ty : ℕ) → binders_needed term ≡ 0 → IsTypedUnderSome types term ty → IsTyped types term ty
typed-anywhere types term ty none some binders = record {
  number = some.typed.number ∙ ap Some (type-agrees term some.binders binders (λ index within. absurd (omega (arith, none, within))));
  fits = sym (fit-agrees term some.binders binders (λ index within. absurd (omega (arith, none, within)))) ∙ some.typed.fits;
}

-- tables that have grown

pub AreTyped-later : (types more : List HolType) (terms now : List Nameless) (typed : List (ℕ × ℕ)) → IsLonger types more → IsLonger terms now → AreTyped types terms typed → AreTyped more now typed
AreTyped-later types more terms now typed longer_types longer_terms are number ty there =
    let old = are number ty there in
    let same : term_at now number ≡ term_at terms number = ap (λ l. term_at l number) longer_terms.is_added ∙ get_or-longer terms longer_terms.added number (bound 0) old.within in
    record {
      within = within-later terms now number longer_terms old.within;
      typed = λ binders. record {
        number = rw same (type-place types more ty (nameless_type binders (term_at terms number)) longer_types (old.typed binders).number);
        fits = rw same (old.typed binders).fits;
      };
    }

-- one more kept type
pub kept-AreTyped : (types : List HolType) (terms : List Nameless) (typed now : List (ℕ × ℕ)) (number ty : ℕ) → HasOnlyAdded typed now number ty → number < length terms →
    IsTyped types (term_at terms number) ty → AreTyped types terms typed → AreTyped types terms now
kept-AreTyped types terms typed now number ty added within is are other one there =
    elim (added other one there) [
      | inl early ↦ are other one early
      | inr new ↦ record { within = rw new.0 within; typed = rw (new.0, new.1) is }
    ]

-- a type that is kept, if one is
pub known-type : (types : List HolType) (terms : List Nameless) (entries : List (ℕ × ℕ)) (number : ℕ) (result : Option ℕ) → AreTyped types terms entries
    → IfSome result (λ ty. IsEntry entries number ty) → IfSome result (λ ty. IsTyped types (term_at terms number) ty)
known-type types terms entries number None are found = tt
known-type types terms entries number (Some ty) are found = (are number ty found).typed
