-- Types that were worked out for terms under binders.
use Rattle.std.proofs.Common.{◌≡◌, ℕ, ◌<◌, List, length, Some, Result, Ok, Err, IfOk, IfErr, inl, inr, sym, ◌∙◌, ap, subst, arith}
use Rattle.std.specs.Prelude.{slice_get}
use Rattle.hol_model.specs.declared.fault.Fault.{Fault}
use Rattle.hol_model.specs.declared.fault.Fault.TheVariants.{Memory}
use Rattle.hol_model.specs.Terms.HolType.{HolType, codomain_of}
use Rattle.hol_model.specs.Terms.Nameless.{Nameless, app}
use Rattle.hol_check_terms.specs.Entries.{IsEntry, HasOnlyAdded}
use Rattle.hol_check_terms.specs.Terms.{TermTable, type_at, term_at, IsGrown}
use Rattle.hol_check_terms.specs.Typed.{IsTypedUnder}
use Rattle.hol_check_terms.specs.Typing.{binder_types, AreTypes, IsKnownTerm, AreKnown, AnswersTyping}
use Rattle.hol_check_terms.proofs.TypingLemmas.{binders-grown, typed-application, typed-argument-refused}
use Rattle.hol_check_terms.proofs.GrowthLemmas.{type-place, within-grown, term-grown}

-- tables that have grown

known-here : (earlier now : TermTable) (binders : List ℕ) (number ty : ℕ) → IsGrown earlier now → AreTypes earlier.types binders → number < length earlier.terms
    → IsTypedUnder (binder_types earlier.types binders) now.types (term_at earlier.terms number) ty → IsKnownTerm now binders number ty
known-here earlier now binders number ty grown are within typed = record {
  within = within-grown earlier now number grown within;
  typed = rw (binders-grown earlier.types now.types grown.types binders are, term-grown earlier now number grown within) typed;
}

pub known-grown : (earlier now : TermTable) (binders : List ℕ) (entries : List (ℕ × ℕ)) → IsGrown earlier now → AreTypes earlier.types binders → AreKnown earlier binders entries →
    AreKnown now binders entries
known-grown earlier now binders entries grown are known = record {
  known = λ number ty there.
      let part = known.known number ty there in
      known-here earlier now binders number ty grown are part.within (record { number = type-place earlier.types now.types ty _ grown.types part.typed.number; fits = part.typed.fits });
}

-- one more

known-added : (table : TermTable) (binders : List ℕ) (entries now : List (ℕ × ℕ)) (number ty : ℕ) → HasOnlyAdded entries now number ty → IsKnownTerm table binders number ty →
    AreKnown table binders entries → AreKnown table binders now
known-added table binders entries now number ty added is are = record {
  known = λ other one there.
      elim (added other one there) [
        | inl early ↦ are.known other one early
        | inr new ↦ rw (new.0, new.1) is
      ];
}

pub known-kept : (t0 t1 t2 : TermTable) (binders : List ℕ) (entries now : List (ℕ × ℕ)) (number ty : ℕ) → IsGrown t0 t1 → IsGrown t1 t2 → IsGrown t0 t2 → AreTypes t0.types binders →
    AreTypes t1.types binders → number < length t0.terms
    → AnswersTyping (binder_types t0.types binders) (term_at t0.terms number) (Ok ty) t1.types → HasOnlyAdded entries now number ty → AreKnown t1 binders entries → AreKnown t2 binders now
known-kept t0 t1 t2 binders entries now number ty first second both are still within answers added known =
    known-added t2 binders entries now number ty added
    (known-here t0 t2 binders number ty both are within (record { number = type-place t1.types t2.types ty _ second.types answers.number; fits = answers.fits }))
    (known-grown t1 t2 binders entries second still known)

-- a type that is known

pub typed-recalled : (table : TermTable) (binders : List ℕ) (entries : List (ℕ × ℕ)) (number ty : ℕ) → AreKnown table binders entries → IsEntry entries number ty
    → AnswersTyping (binder_types table.types binders) (term_at table.terms number) (Ok ty) table.types
typed-recalled table binders entries number ty are there = let part = (are.known number ty there).typed in record { number = part.number; fits = part.fits; refused = tt }

-- the parts of a combination, one after the other

typed-later : (t0 t1 : TermTable) (types : List HolType) (binders : List ℕ) (result : Result ℕ Fault) (argument : ℕ) → IsGrown t0 t1 → AreTypes t0.types binders
    → AnswersTyping (binder_types t1.types binders) (term_at t1.terms argument) result types → AnswersTyping (binder_types t0.types binders) (term_at t1.terms argument) result types
typed-later t0 t1 types binders result argument grown are = subst (λ bs. AnswersTyping bs (term_at t1.terms argument) result types) (binders-grown t0.types t1.types grown.types binders are)

application-later : (t0 t1 : TermTable) (t : Nameless) (number function argument : ℕ) → IsGrown t0 t1 → argument < number → number < length t0.terms
    → t ≡ app (term_at t0.terms function) (term_at t0.terms argument) → t ≡ app (term_at t0.terms function) (term_at t1.terms argument)
application-later t0 t1 t number function argument grown before within is = is ∙ ap (app (term_at t0.terms function)) (sym (term-grown t0 t1 argument grown (omega (arith, before, within))))

pub argument-refused : (t0 t1 : TermTable) (types : List HolType) (binders : List ℕ) (t : Nameless) (number function argument : ℕ) (fault : Fault) → IsGrown t0 t1 →
    AreTypes t0.types binders → argument < number → number < length t0.terms
    → t ≡ app (term_at t0.terms function) (term_at t0.terms argument) → AnswersTyping (binder_types t1.types binders) (term_at t1.terms argument) (Err fault) types →
    AnswersTyping (binder_types t0.types binders) t (Err fault) types
argument-refused t0 t1 types binders t number function argument fault grown are before within is answers =
    typed-argument-refused types (binder_types t0.types binders) t (term_at t0.terms function) (term_at t1.terms argument) fault
    (application-later t0 t1 t number function argument grown before within is) (typed-later t0 t1 types binders (Err fault) argument grown are answers)

pub application-typed : (t0 t1 t2 : TermTable) (types : List HolType) (binders : List ℕ) (t : Nameless) (number function argument function_ty argument_ty : ℕ) (result : Result ℕ Fault) →
    IsGrown t0 t1 → IsGrown t1 t2 → AreTypes t0.types binders
    → argument < number → number < length t0.terms → t ≡ app (term_at t0.terms function) (term_at t0.terms argument)
    → AnswersTyping (binder_types t0.types binders) (term_at t0.terms function) (Ok function_ty) t1.types →
    AnswersTyping (binder_types t1.types binders) (term_at t1.terms argument) (Ok argument_ty) t2.types
    → IfOk result (λ answer. slice_get types answer ≡ Some (codomain_of (type_at t2.types function_ty))) → IfErr result (λ fault. fault ≡ Memory) →
    AnswersTyping (binder_types t0.types binders) t result types
application-typed t0 t1 t2 types binders t number function argument function_ty argument_ty result first second are before within is function_is argument_is =
    typed-application t1.types t2.types types (binder_types t0.types binders) t (term_at t0.terms function) (term_at t1.terms argument) function_ty argument_ty result second.types
    (application-later t0 t1 t number function argument first before within is) function_is
    (typed-later t0 t1 t2.types binders (Ok argument_ty) argument first are argument_is)
