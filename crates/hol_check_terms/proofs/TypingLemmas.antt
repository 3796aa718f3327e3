-- Types of terms, part by part.
use Rattle.std.proofs.Common.{◌≡◌, ◌⊎◌, ℕ, zero, suc, ◌<◌, ◌≤◌, List, [], ◌∷◌, length, Bool, true, false, ◌&&◌, refl, sym, ◌∙◌, ap, subst, inl, inr, Some, Result, Ok, Err, IfOk, IfErr, arith}
use Rattle.std.specs.Prelude.{slice_get}
use Rattle.std.proofs.lemmas.Option.{slice_get-get_or}
use Rattle.hol_model.specs.declared.fault.Fault.{Fault}
use Rattle.hol_model.specs.declared.fault.Fault.TheVariants.{Memory, TooLarge}
use Rattle.hol_model.specs.declared.limits.TheConstants.{TYPE_NODES_LIMIT}
use Rattle.hol_model.specs.Terms.HolType.{HolType, function_type, codomain_of, type_nodes, bool_type}
use Rattle.hol_model.specs.Terms.NamedTerm.{type_fits}
use Rattle.hol_model.specs.Terms.Nameless.{Nameless, free, const, app, lam, binder_type, nameless_type}
use Rattle.hol_model.specs.Terms.Measures.{nameless_types_fit}
use Rattle.hol_model.proofs.Terms.Measures.{past_limit-type}
use Rattle.hol_model.proofs.Tests.{both}
use Rattle.hol_check_terms.specs.Growth.{IsLonger}
use Rattle.hol_check_terms.specs.Terms.{type_at}
use Rattle.hol_check_terms.specs.Typed.{IsTypedUnderSome}
use Rattle.hol_check_terms.specs.Typing.{binder_types, AreTypes, AnswersTyping}
use Rattle.hol_check_terms.proofs.GrowthLemmas.{type-within, type-grown, type-place, type-there}

pub binders-grown : (types now : List HolType) → IsLonger types now → (binders : List ℕ) → AreTypes types binders → binder_types now binders ≡ binder_types types binders
binders-grown types now longer [] are = refl
binders-grown types now longer (ty ∷ outer) are = cc (type-grown types now ty longer are.0, binders-grown types now longer outer are.1)

pub types-still : (types now : List HolType) → IsLonger types now → (binders : List ℕ) → AreTypes types binders → AreTypes now binders
types-still types now longer [] are = tt
types-still types now longer (ty ∷ outer) are = (type-within types now ty longer are.0, types-still types now longer outer are.1)

pub binder-found : (types : List HolType) (binders : List ℕ) (index ty : ℕ) → AreTypes types binders → slice_get binders index ≡ Some ty
    → slice_get types ty ≡ Some (binder_type (binder_types types binders) index)
binder-found types [] index ty are there = cc
binder-found types (n ∷ binders) zero ty are there = let same : n ≡ ty = cc in subst (λ m. slice_get types m ≡ Some (type_at types n)) same (slice_get-get_or types n bool_type are.0)
binder-found types (n ∷ binders) (suc index) ty are there = binder-found types binders index ty are.1 there

pub no-binder : (types : List HolType) (binders : List ℕ) (index : ℕ) → length binders ≤ index → binder_type (binder_types types binders) index ≡ bool_type
no-binder types [] index past = refl
no-binder types (n ∷ binders) zero past = absurd (omega arith)
no-binder types (n ∷ binders) (suc index) past = no-binder types binders index (omega arith)

pub within-fits : (ty : HolType) → type_nodes ty ≤ TYPE_NODES_LIMIT → type_fits ty ≡ true
within-fits ty within = grind arith

-- a free variable, and a constant

pub typed-free : (types binders : List HolType) (t : Nameless) (name : List ℕ) (ty count : ℕ) → t ≡ free name (type_at types ty) → ty < length types → count ≡ type_nodes (type_at types ty) →
    count ≤ TYPE_NODES_LIMIT → AnswersTyping binders t (Ok ty) types
typed-free types binders t name ty count is within counted fits = record {
  number = slice_get-get_or types ty bool_type within ∙ ap Some (sym (ap (nameless_type binders) is));
  fits = ap (nameless_types_fit binders) is ∙ within-fits (type_at types ty) (subst (λ n. n ≤ TYPE_NODES_LIMIT) counted fits);
  refused = tt;
}

pub typed-const : (types binders : List HolType) (t : Nameless) (name : List ℕ) (ty count : ℕ) → t ≡ const name (type_at types ty) → ty < length types →
    count ≡ type_nodes (type_at types ty) → count ≤ TYPE_NODES_LIMIT → AnswersTyping binders t (Ok ty) types
typed-const types binders t name ty count is within counted fits = record {
  number = slice_get-get_or types ty bool_type within ∙ ap Some (sym (ap (nameless_type binders) is));
  fits = ap (nameless_types_fit binders) is ∙ within-fits (type_at types ty) (subst (λ n. n ≤ TYPE_NODES_LIMIT) counted fits);
  refused = tt;
}

-- types that are kept

pub typed-under_some : (types binders : List HolType) (t : Nameless) (ty : ℕ) → AnswersTyping binders t (Ok ty) types → IsTypedUnderSome types t ty
typed-under_some types binders t ty answers = record { binders = binders; typed = record { number = answers.number; fits = answers.fits } }

pub typed-kept : (types now binders : List HolType) (t : Nameless) (ty : ℕ) (result : Result ℕ Fault) → IsLonger types now → AnswersTyping binders t (Ok ty) types
    → IfOk result (λ same. same ≡ ty) → IfErr result (λ fault. fault ≡ Memory) → AnswersTyping binders t result now
typed-kept types now binders t ty (Ok same) longer answers is refused = record {
  number = type-place types now same (nameless_type binders t) longer (rw is answers.number);
  fits = answers.fits;
  refused = tt;
}
typed-kept types now binders t ty (Err fault) longer answers is refused = record { number = tt; fits = tt; refused = inl refused }

-- combinations

one-fails : (p q : Bool) → q ≡ false → (p && q) ≡ false
one-fails true q failed = failed
one-fails false q failed = refl

pub typed-argument-refused : (now binders : List HolType) (t f a : Nameless) (fault : Fault) → t ≡ app f a → AnswersTyping binders a (Err fault) now → AnswersTyping binders t (Err fault) now
typed-argument-refused now binders t f a fault is answers = record {
  number = tt;
  fits = tt;
  refused = elim answers.refused [
    | inl memory ↦ inl memory
    | inr large ↦ inr (
      large.0,
      ap (nameless_types_fit binders) is ∙ one-fails (nameless_types_fit binders f) (nameless_types_fit binders a) large.1,
    )
  ];
}

pub typed-application : (t1 t2 t3 binders : List HolType) (t f a : Nameless) (function_ty argument_ty : ℕ) (result : Result ℕ Fault) → IsLonger t1 t2 → t ≡ app f a →
    AnswersTyping binders f (Ok function_ty) t1 → AnswersTyping binders a (Ok argument_ty) t2
    → IfOk result (λ answer. slice_get t3 answer ≡ Some (codomain_of (type_at t2 function_ty))) → IfErr result (λ fault. fault ≡ Memory) → AnswersTyping binders t result t3
typed-application t1 t2 t3 binders t f a function_ty argument_ty result longer is first second made refused = go result made refused
  where
    function_is : type_at t2 function_ty ≡ nameless_type binders f
    function_is = type-there t2 function_ty _ (type-place t1 t2 function_ty _ longer first.number)

    go : (result : Result ℕ Fault) → IfOk result (λ answer. slice_get t3 answer ≡ Some (codomain_of (type_at t2 function_ty))) → IfErr result (λ fault. fault ≡ Memory) →
        AnswersTyping binders t result t3
    go (Ok answer) made refused = record {
      number = made ∙ ap Some (ap codomain_of function_is ∙ sym (ap (nameless_type binders) is));
      fits = ap (nameless_types_fit binders) is ∙ both (nameless_types_fit binders f) (nameless_types_fit binders a) first.fits second.fits;
      refused = tt;
    }
    go (Err fault) made refused = record { number = tt; fits = tt; refused = inl refused }

-- abstractions

pub typed-abstraction : (t0 t1 t2 binders : List HolType) (t : Nameless) (ty : ℕ) (body : Nameless) (body_ty : ℕ) (result : Result ℕ Fault) → IsLonger t0 t1 → ty < length t0 →
    t ≡ lam (type_at t0 ty) body → AnswersTyping (type_at t0 ty ∷ binders) body (Ok body_ty) t1
    → IfOk result (λ n. slice_get t2 n ≡ Some (function_type (type_at t1 ty) (type_at t1 body_ty))) →
    IfOk result (λ n. type_nodes (function_type (type_at t1 ty) (type_at t1 body_ty)) ≤ TYPE_NODES_LIMIT)
    → IfErr result (λ fault. (fault ≡ Memory) ⊎ ((fault ≡ TooLarge) × (TYPE_NODES_LIMIT < type_nodes (function_type (type_at t1 ty) (type_at t1 body_ty))))) → AnswersTyping binders t result t2
typed-abstraction t0 t1 t2 binders t ty body body_ty result longer within is inner made fits refused = go result made fits refused
  where
    function_is : function_type (type_at t1 ty) (type_at t1 body_ty) ≡ function_type (type_at t0 ty) (nameless_type (type_at t0 ty ∷ binders) body)
    function_is = cc (type-grown t0 t1 ty longer within, type-there t1 body_ty _ inner.number)

    whole : HolType
    whole = function_type (type_at t0 ty) (nameless_type (type_at t0 ty ∷ binders) body)

    go : (result : Result ℕ Fault) → IfOk result (λ n. slice_get t2 n ≡ Some (function_type (type_at t1 ty) (type_at t1 body_ty))) →
        IfOk result (λ n. type_nodes (function_type (type_at t1 ty) (type_at t1 body_ty)) ≤ TYPE_NODES_LIMIT)
        → IfErr result (λ fault. (fault ≡ Memory) ⊎ ((fault ≡ TooLarge) × (TYPE_NODES_LIMIT < type_nodes (function_type (type_at t1 ty) (type_at t1 body_ty))))) → AnswersTyping binders t result t2
    go (Ok n) made fits refused = record {
      number = made ∙ ap Some (function_is ∙ sym (ap (nameless_type binders) is));
      fits = ap (nameless_types_fit binders) is ∙ both (nameless_types_fit (type_at t0 ty ∷ binders) body) (type_fits whole) inner.fits
          (within-fits whole (subst (λ s. type_nodes s ≤ TYPE_NODES_LIMIT) function_is fits));
      refused = tt;
    }
    go (Err fault) made fits refused = record {
      number = tt;
      fits = tt;
      refused = elim refused [
        | inl memory ↦ inl memory
        | inr large ↦ inr (
          large.0,
          ap (nameless_types_fit binders) is ∙ one-fails (nameless_types_fit (type_at t0 ty ∷ binders) body) (type_fits whole)
              (past_limit-type whole (subst (λ s. TYPE_NODES_LIMIT < type_nodes s) function_is large.1)),
        )
      ];
    }
