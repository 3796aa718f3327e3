-- Terms and types that are made of two parts, one after the other.
use Rattle.std.proofs.Common.{◌≡◌, ◌⊎◌, ℕ, ◌<◌, ◌≤◌, List, ◌∙◌, ap, Some, Ok, Err, Result, true, false, inl, inr, subst, IfOk, IfErr, arith}
use Rattle.std.specs.Prelude.{slice_get}
use Rattle.hol_model.specs.declared.fault.Fault.{Fault}
use Rattle.hol_model.specs.declared.fault.Fault.TheVariants.{Memory, TooLarge}
use Rattle.hol_model.specs.declared.limits.TheConstants.{TYPE_NODES_LIMIT}
use Rattle.hol_model.specs.Terms.HolType.{HolType, function_type, type_nodes}
use Rattle.hol_model.specs.Terms.Nameless.{Nameless, app, lam}
use Rattle.hol_model.specs.Terms.Measures.{nameless_within_limits}
use Rattle.hol_check_terms.specs.Terms.{TermTable, type_at, term_at, IsGrown, IsTooLarge}
use Rattle.hol_check_terms.proofs.TableLemmas.{is_within}
use Rattle.hol_check_changes.specs.Forming.{IsFitting}
use Rattle.hol_check_changes.proofs.LimitLemmas.{past-limits}
use Rattle.hol_check_rules.specs.Steps.{IsNamed, IsNamedType}
use Rattle.hol_check_terms.proofs.GrowthLemmas.{type-place, type-there, place-grown, term-there, IsGrown-trans}

pub grown-twice : (t0 t1 t2 t3 : TermTable) → IsGrown t0 t1 → IsGrown t1 t2 → IsGrown t2 t3 → IsGrown t0 t3
grown-twice t0 t1 t2 t3 first second third = IsGrown-trans t0 t1 t3 first (IsGrown-trans t1 t2 t3 second third)

pub term-kept : (t1 t2 : TermTable) (n : ℕ) (t : Nameless) → IsGrown t1 t2 → slice_get t1.terms n ≡ Some t → term_at t2.terms n ≡ t
term-kept t1 t2 n t grows there = term-there t2.terms n t (place-grown t1 t2 n t grows there)

pub type-kept : (t1 t2 : TermTable) (n : ℕ) (ty : HolType) → IsGrown t1 t2 → slice_get t1.types n ≡ Some ty → type_at t2.types n ≡ ty
type-kept t1 t2 n ty grows there = type-there t2.types n ty (type-place t1.types t2.types n ty grows.types there)

-- what is within the limits is made, unless memory is used up

pub small-function : (fault : Fault) (made wanted : HolType) → made ≡ wanted → type_nodes wanted ≤ TYPE_NODES_LIMIT
    → (fault ≡ Memory) ⊎ ((fault ≡ TooLarge) × (TYPE_NODES_LIMIT < type_nodes made)) → fault ≡ Memory
small-function fault made wanted same small refused =
    elim refused [ inl memory ↦ memory | inr large ↦ let nodes : type_nodes made ≡ type_nodes wanted = ap type_nodes same in absurd (omega (arith, large.1, small, nodes)) ]

small-term : (fault : Fault) (made wanted : Nameless) → made ≡ wanted → nameless_within_limits wanted ≡ true → (fault ≡ Memory) ⊎ ((fault ≡ TooLarge) × IsTooLarge made) → fault ≡ Memory
small-term fault made wanted same fits refused =
    elim refused [ inl memory ↦ memory | inr large ↦ let past : nameless_within_limits wanted ≡ false = past-limits wanted (inl (subst IsTooLarge same large.1)) in cc ]

small-named : (now : List Nameless) (made wanted : Nameless) (result : Result ℕ Fault) → made ≡ wanted → nameless_within_limits wanted ≡ true → IfOk result (λ n. slice_get now n ≡ Some made)
    → IfErr result (λ fault. (fault ≡ Memory) ⊎ ((fault ≡ TooLarge) × IsTooLarge made)) → IsNamed wanted result now
small-named now made wanted (Ok n) same fits number refused = record { number = number ∙ ap Some same; refused = tt }
small-named now made wanted (Err fault) same fits number refused = record { number = tt; refused = small-term fault made wanted same fits refused }

pub application-named : (t1 t2 : TermTable) (now : List Nameless) (f x : ℕ) (result : Result ℕ Fault) (function argument : Nameless) → slice_get t1.terms f ≡ Some function
    → IsGrown t1 t2 → slice_get t2.terms x ≡ Some argument → nameless_within_limits (app function argument) ≡ true
    → IfOk result (λ n. slice_get now n ≡ Some (app (term_at t2.terms f) (term_at t2.terms x)))
    → IfErr result (λ fault. (fault ≡ Memory) ⊎ ((fault ≡ TooLarge) × IsTooLarge (app (term_at t2.terms f) (term_at t2.terms x)))) → IsNamed (app function argument) result now
application-named t1 t2 now f x result function argument first grows second =
    small-named now (app (term_at t2.terms f) (term_at t2.terms x)) (app function argument) result
    (λ i. app (term-kept t1 t2 f function grows first i) (term-there t2.terms x argument second i))

pub abstraction-named : (t1 t2 : TermTable) (now : List Nameless) (b a : ℕ) (result : Result ℕ Fault) (body : Nameless) (ty : HolType) → slice_get t1.terms b ≡ Some body
    → IsGrown t1 t2 → slice_get t2.types a ≡ Some ty → nameless_within_limits (lam ty body) ≡ true
    → IfOk result (λ n. slice_get now n ≡ Some (lam (type_at t2.types a) (term_at t2.terms b)))
    → IfErr result (λ fault. (fault ≡ Memory) ⊎ ((fault ≡ TooLarge) × IsTooLarge (lam (type_at t2.types a) (term_at t2.terms b)))) → IsNamed (lam ty body) result now
abstraction-named t1 t2 now b a result body ty first grows second =
    small-named now (lam (type_at t2.types a) (term_at t2.terms b)) (lam ty body) result
    (λ i. lam (type-there t2.types a ty second i) (term-kept t1 t2 b body grows first i))

pub function-is : (t1 t2 : TermTable) (d c : ℕ) (domain codomain : HolType) → slice_get t1.types d ≡ Some domain → IsGrown t1 t2 → slice_get t2.types c ≡ Some codomain
    → function_type (type_at t2.types d) (type_at t2.types c) ≡ function_type domain codomain
function-is t1 t2 d c domain codomain first grows second = λ i. function_type (type-kept t1 t2 d domain grows first i) (type-there t2.types c codomain second i)

pub function-named : (now : List HolType) (made wanted : HolType) (result : Result ℕ Fault) → made ≡ wanted → type_nodes wanted ≤ TYPE_NODES_LIMIT → IfOk result (λ n. slice_get now n ≡ Some made)
    → IfErr result (λ fault. (fault ≡ Memory) ⊎ ((fault ≡ TooLarge) × (TYPE_NODES_LIMIT < type_nodes made))) → IsNamedType wanted result now
function-named now made wanted (Ok n) same small number refused = record { number = number ∙ ap Some same; refused = tt }
function-named now made wanted (Err fault) same small number refused = record { number = tt; refused = small-function fault made wanted same small refused }

pub named-fits : (terms : List Nameless) (wanted : Nameless) (result : Result ℕ Fault) → nameless_within_limits wanted ≡ true → IfOk result (λ n. slice_get terms n ≡ Some wanted)
    → IfOk result (IsFitting terms)
named-fits terms wanted (Err fault) fits there = tt
named-fits terms wanted (Ok n) fits there = record { within = is_within terms n wanted there; fits = ap nameless_within_limits (term-there terms n wanted there) ∙ fits }
