-- What a call answers, from what it answers once its first refusals are out of the way.
use Rattle.std.proofs.Common.{◌≡◌, ◌⊎◌, inl, inr, ℕ, List, Bool, true, false, Some, None, Ok, Err, IfOk, IfErr, refl}
use Rattle.std.specs.Prelude.{Option, Result}
use Rattle.hol_model.specs.declared.fault.Fault.{Fault}
use Rattle.hol_model.specs.declared.fault.Fault.TheVariants.{Memory, TooLarge, NotVariable, TypeMismatch}
use Rattle.hol_model.specs.Terms.HolType.{HolType, replaces_type_variables}
use Rattle.hol_model.specs.Terms.NamedTerm.{NamedTerm, variable, constant, combination, abstraction, dest_variable}
use Rattle.hol_model.specs.Terms.Nameless.{image}
use Rattle.hol_model.specs.Terms.Measures.{nameless_within_limits}
use Rattle.hol_model.specs.Kernel.Outcome.{AnswersSuch}
use Rattle.hol_model.specs.Terms.Substitution.{put_all, replaces_variables, keeps_types}
use Rattle.hol_model.specs.Kernel.Instantiation.{or_too_large, instantiate_all}
use Rattle.hol_subst.specs.Outcomes.{vsubst_refusal, inst_refusal, pairs_refusal, type_pairs_refusal, variant_refusal}

such : {A : Type 0} (result : Result A Fault) (fact : A → Type 0) (first : Option Fault) (fits : Bool) → first ≡ None
    → IfOk result fact → IfOk result (λ answer. fits ≡ true) → IfErr result (λ fault. (fault ≡ Memory) ⊎ ((fault ≡ TooLarge) × (fits ≡ false)))
    → AnswersSuch result (or_too_large first fits) fact
such (Ok x) fact first fits none holds within err = (rw (none, within) refl, holds)
such (Err fault) fact first fits none holds within (inl memory) = inl memory
such (Err fault) fact first fits none holds within (inr past) = inr (rw (none, past.1, past.0) refl)

-- a substitution
pub not_variables : {A : Type 0} (fact : A → Type 0) (theta : List (NamedTerm × NamedTerm)) (term : NamedTerm) → replaces_variables theta ≡ false
    → AnswersSuch (Err NotVariable) (vsubst_refusal theta term) fact
not_variables fact theta term failed = inr (rw failed refl)

pub not_typed : {A : Type 0} (fact : A → Type 0) (theta : List (NamedTerm × NamedTerm)) (term : NamedTerm) → replaces_variables theta ≡ true → keeps_types theta ≡ false
    → AnswersSuch (Err TypeMismatch) (vsubst_refusal theta term) fact
not_typed fact theta term passed failed = inr (rw (passed, failed) refl)

pub substituted : {A : Type 0} (result : Result A Fault) (fact : A → Type 0) (theta : List (NamedTerm × NamedTerm)) (term : NamedTerm)
    → replaces_variables theta ≡ true → keeps_types theta ≡ true
    → IfOk result fact → IfOk result (λ answer. nameless_within_limits (put_all theta (image term)) ≡ true)
    → IfErr result (λ fault. (fault ≡ Memory) ⊎ ((fault ≡ TooLarge) × (nameless_within_limits (put_all theta (image term)) ≡ false)))
    → AnswersSuch result (vsubst_refusal theta term) fact
substituted result fact theta term variables types =
    such result fact (pairs_refusal theta) (nameless_within_limits (put_all theta (image term))) (rw (variables, types) refl)

-- an instantiation
pub not_type_variables : {A : Type 0} (fact : A → Type 0) (theta : List (HolType × HolType)) (term : NamedTerm) → replaces_type_variables theta ≡ false
    → AnswersSuch (Err NotVariable) (inst_refusal theta term) fact
not_type_variables fact theta term failed = inr (rw failed refl)

pub instantiated : {A : Type 0} (result : Result A Fault) (fact : A → Type 0) (theta : List (HolType × HolType)) (term : NamedTerm) → replaces_type_variables theta ≡ true
    → IfOk result fact → IfOk result (λ answer. nameless_within_limits (instantiate_all theta (image term)) ≡ true)
    → IfErr result (λ fault. (fault ≡ Memory) ⊎ ((fault ≡ TooLarge) × (nameless_within_limits (instantiate_all theta (image term)) ≡ false)))
    → AnswersSuch result (inst_refusal theta term) fact
instantiated result fact theta term variables =
    such result fact (type_pairs_refusal theta) (nameless_within_limits (instantiate_all theta (image term))) (rw variables refl)

-- a variant
pub varied : {A : Type 0} (result : Result A Fault) (fact : A → Type 0) (term : NamedTerm) (name : List ℕ) (ty : HolType) → Some (name, ty) ≡ dest_variable term
    → IfOk result fact → IfErr result (λ fault. fault ≡ Memory) → AnswersSuch result (variant_refusal term) fact
varied (Ok x) fact (variable name ty) other s is holds memory = (refl, holds)
varied (Ok x) fact (constant name ty) other s is holds memory = cc
varied (Ok x) fact (combination f a) other s is holds memory = cc
varied (Ok x) fact (abstraction name ty body) other s is holds memory = cc
varied (Err fault) fact term other s is holds memory = inl memory

pub not_varied : {A : Type 0} (fact : A → Type 0) (term : NamedTerm) → None ≡ dest_variable term → AnswersSuch (Err NotVariable) (variant_refusal term) fact
not_varied fact (variable name ty) is = cc
not_varied fact (constant name ty) is = inr refl
not_varied fact (combination f a) is = inr refl
not_varied fact (abstraction name ty body) is = inr refl

pub ruleset answering = (not_variables, not_typed, substituted, not_type_variables, instantiated, not_varied)
