-- Abstractions over variables, by numbers.
use Rattle.std.proofs.Common.{◌≡◌, ◌⊎◌, ℕ, ◌<◌, List, length, false, sym, ◌∙◌, ap, subst, inl, inr, Some, Result, Ok, Err, IfOk, IfErr, arith}
use Rattle.std.specs.Prelude.{slice_get}
use Rattle.hol_model.specs.declared.fault.Fault.{Fault}
use Rattle.hol_model.specs.declared.fault.Fault.TheVariants.{Memory, TooLarge}
use Rattle.hol_model.specs.Terms.HolType.{HolType}
use Rattle.hol_model.specs.Terms.Nameless.{Nameless, free, lam, const, app}
use Rattle.hol_model.specs.Terms.Measures.{nameless_within_limits}
use Rattle.hol_model.specs.Terms.Substitution.{close}
use Rattle.hol_model.specs.Logs.LogState.{term_type}
use Rattle.hol_model.specs.Logs.LogSequents.{abstraction_over, equation_of}
use Rattle.hol_model.specs.Logic.Theory.{equality_name, equality_type}
use Rattle.hol_check_terms.specs.Terms.{TermTable, type_at, term_at, IsGrown, IsTooLarge}
use Rattle.hol_check_changes.specs.Change.{IsPastLimits, IsAnswered, IsMade}
use Rattle.hol_check_changes.specs.Forming.{IsFormed}
use Rattle.hol_check_changes.proofs.LimitLemmas.{past-limits}
use Rattle.hol_check_terms.proofs.GrowthLemmas.{type-grown, term-there}
use Rattle.hol_model.proofs.Terms.Measures.{past_limits-argument}

past-body : (ty : HolType) (body : Nameless) → IsPastLimits body → nameless_within_limits (lam ty body) ≡ false
past-body ty body (inl (inl high)) = past-limits (lam ty body) (inl (inl (omega arith)))
past-body ty body (inl (inr many)) = past-limits (lam ty body) (inl (inr (omega arith)))
past-body ty body (inr large) = past-limits (lam ty body) (inr (inr large))

abstraction-is : (terms : List Nameless) (variable : ℕ) (name : List ℕ) (ty : HolType) (t : Nameless) → slice_get terms variable ≡ Some (free name ty) →
    lam ty (close name ty t) ≡ abstraction_over (term_at terms variable) t
abstraction-is terms variable name ty t there = sym (ap (λ v. abstraction_over v t) (term-there terms variable (free name ty) there))

pub made-abstraction : (t0 t1 : TermTable) (variable ty body : ℕ) (t : Nameless) (name : List ℕ) (s : HolType) (result : Result ℕ Fault) (now : List Nameless)
    → slice_get t0.terms variable ≡ Some (free name s) → type_at t0.types ty ≡ term_type (term_at t0.terms variable) → ty < length t0.types → IsGrown t0 t1 →
    IsAnswered (close name s t) (Ok body) t1.terms
    → IfOk result (λ n. slice_get now n ≡ Some (lam (type_at t1.types ty) (term_at t1.terms body)))
    → IfErr result (λ fault. (fault ≡ Memory) ⊎ ((fault ≡ TooLarge) × IsTooLarge (lam (type_at t1.types ty) (term_at t1.terms body))))
    → IsMade (abstraction_over (term_at t0.terms variable) t) result now
made-abstraction t0 t1 variable ty body t name s result now there typed within grows closed made refused = go result made refused
  where
    ty_is : type_at t1.types ty ≡ s
    ty_is = type-grown t0.types t1.types ty grows.types within ∙ (typed ∙ ap term_type (term-there t0.terms variable (free name s) there))

    is : lam (type_at t1.types ty) (term_at t1.terms body) ≡ abstraction_over (term_at t0.terms variable) t
    is = (λ i. lam (ty_is i) (term-there t1.terms body (close name s t) closed.number i)) ∙ abstraction-is t0.terms variable name s t there

    go : (result : Result ℕ Fault) → IfOk result (λ n. slice_get now n ≡ Some (lam (type_at t1.types ty) (term_at t1.terms body)))
        → IfErr result (λ fault. (fault ≡ Memory) ⊎ ((fault ≡ TooLarge) × IsTooLarge (lam (type_at t1.types ty) (term_at t1.terms body))))
        → IsMade (abstraction_over (term_at t0.terms variable) t) result now
    go (Ok n) made refused = record { number = made ∙ ap Some is; refused = tt }
    go (Err fault) made refused = record {
      number = tt;
      refused = elim refused [
        | inl memory ↦ inl memory
        | inr large ↦ inr (large.0, past-limits (abstraction_over (term_at t0.terms variable) t) (inl (subst IsTooLarge is large.1)))
      ];
    }

pub refused-abstraction : (terms now : List Nameless) (variable : ℕ) (t : Nameless) (name : List ℕ) (s : HolType) (fault : Fault)
    → slice_get terms variable ≡ Some (free name s) → IsAnswered (close name s t) (Err fault) now → IsMade (abstraction_over (term_at terms variable) t) (Err fault) now
refused-abstraction terms now variable t name s fault there closed = record {
  number = tt;
  refused = elim closed.refused [
    | inl memory ↦ inl memory
    | inr large ↦ inr (large.0, subst (λ u. nameless_within_limits u ≡ false) (abstraction-is terms variable name s t there) (past-body s (close name s t) large.1))
  ];
}

-- a side that passes a limit makes the equation pass it
pub right-refused : (left right : Nameless) (fault : Fault) (now : List Nameless) → IsMade right (Err fault) now → IsFormed (equation_of left right) (Err fault) now
right-refused left right fault now made = record {
  number = tt;
  fits = tt;
  refused = elim made.refused [ inl memory ↦ inl memory | inr large ↦ inr (large.0, past_limits-argument (app (const equality_name (equality_type (term_type left))) left) right large.1) ];
}
