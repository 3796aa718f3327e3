-- What the constructors of terms answer is the meaning of a node.
use Rattle.std.proofs.Common.{◌≡◌, inl, inr, ⊎_elim, ℕ, List, Bool, true, false, ◌&&◌, Option, None, Some, Result, Ok, Err, is_some, refl, sym, ap, ◌∙◌, subst, arith, if◌then◌else◌}
use Rattle.std.specs.Prelude.{IfOk, IfErr}
use Rattle.std.specs.Option.{option_map}
use Rattle.std.proofs.lemmas.Bool.Decides.{nat_tests}
use Rattle.hol_model.specs.declared.fault.Fault.{Fault}
use Rattle.hol_model.specs.declared.fault.Fault.TheVariants.{Memory, TooLarge, TypeMismatch, NotInstance}
use Rattle.hol_model.specs.Terms.HolType.{HolType, bool_type, function_type, type_eq, is_instance}
use Rattle.hol_model.specs.Terms.NamedTerm.{NamedTerm, variable, abstraction, combination, application_type, type_of, constant, type_fits, is_within_limits}
use Rattle.hol_model.specs.Kernel.Outcome.{Answers, unless}
use Rattle.hol_model.specs.Kernel.Rules.{limited, abstraction_outcome}
use Rattle.hol_model.specs.Kernel.Constructors.{typed_outcome, combination_outcome}
use Rattle.hol_model.specs.Texts.Reading.{Scope, connective, connective_at, truth_operation, quantifier_type, within_limits, well_typed}
use Rattle.hol_model.proofs.Terms.HolTypeEq.{type_eq-self, same_from_type_eq}
use Rattle.hol_syntax.specs.Building.{limited_constant}

well_typed_is : (term : NamedTerm) (some fits : Bool) → is_some (type_of term) ≡ some → is_within_limits term ≡ fits
    → well_typed term ≡ (if some then (if fits then Ok term else Err TooLarge) else Err TypeMismatch)
well_typed_is term some fits a b =
    ap (λ x. if x then within_limits term else Err TypeMismatch) a ∙ ap (λ y. if some then (if y then Ok term else Err TooLarge) else Err TypeMismatch) b

-- the outcome of a term whose parts are there is what it means
typed_outcome-is : (term : NamedTerm) → typed_outcome term ≡ well_typed term
typed_outcome-is term = go (is_some (type_of term)) (is_within_limits term)
  where
    go : (typed fits : Bool) → unless typed TypeMismatch (unless fits TooLarge (Ok term)) ≡ (if typed then (if fits then Ok term else Err TooLarge) else Err TypeMismatch)
    go true true = refl
    go true false = refl
    go false true = refl
    go false false = refl

pub made : (result : Result NamedTerm Fault) (term : NamedTerm) → Answers result (typed_outcome term) → Answers result (well_typed term)
made (Ok answer) term is = sym (typed_outcome-is term) ∙ is
made (Err fault) term (inl memory) = inl memory
made (Err fault) term (inr refused) = inr (sym (typed_outcome-is term) ∙ refused)

pub abstracted : (result : Result NamedTerm Fault) (binder body : NamedTerm) (name : List ℕ) (ty s : HolType) → type_of body ≡ Some s → binder ≡ variable name ty
    → Answers result (abstraction_outcome binder body) → Answers result (well_typed (abstraction name ty body))
abstracted result binder body name ty s typed is answered =
    let fits : is_some (type_of (abstraction name ty body)) ≡ true = ap (λ o. is_some (option_map (function_type ty) o)) typed in
    made result (abstraction name ty body)
    (subst (λ w. Answers result w) (ap (λ v. abstraction_outcome v body) is ∙ sym (ap (λ t. unless t TypeMismatch (limited (abstraction name ty body))) fits)) answered)

-- the type of truth values as the program makes it
pub truth-is : (truth : HolType) → ◌≡◌ {A = Result HolType Fault} (Ok bool_type) (Ok truth) → bool_type ≡ truth
truth-is truth made = cc

-- a term whose type passes the test is a truth value
pub truth_typed : (term : NamedTerm) (ty : HolType) → type_of term ≡ Some ty → type_eq ty bool_type ≡ true → type_of term ≡ Some bool_type
truth_typed term ty typed same = typed ∙ ap (λ t. Some t) (same_from_type_eq ty bool_type same)

-- a copy of a type that passes the test is the type that it was tested against
pub copied_type : (copied : Result HolType Fault) (ty tested : HolType) → type_eq ty tested ≡ true → IfOk copied (λ copy. copy ≡ ty) → IfErr copied (λ fault. fault ≡ Memory)
    → Answers copied (Ok tested)
copied_type (Ok copy) ty tested same is _ = ap (λ t. Ok t) (sym (same_from_type_eq ty tested same) ∙ sym is)
copied_type (Err fault) ty tested same _ memory = inl memory

-- a term with a part that is too large is too large
pub large_argument : (f a : NamedTerm) → is_within_limits a ≡ false → is_within_limits (combination f a) ≡ false
large_argument f a h = grind (arith, nat_tests)

large_function : (f a : NamedTerm) → is_within_limits f ≡ false → is_within_limits (combination f a) ≡ false
large_function f a h = grind (arith, nat_tests)

pub large_operator : (name : List ℕ) (ty : HolType) (a : NamedTerm) → type_fits ty ≡ false → is_within_limits (combination (constant name ty) a) ≡ false
large_operator name ty a h = grind (arith, nat_tests)

-- an operator on predicates applied to an abstraction that is one
applied_typed : (name : List ℕ) (r ty s : HolType) (x : List ℕ) (body : NamedTerm) → type_of body ≡ Some s → type_eq bool_type s ≡ true
    → is_some (type_of (combination (constant name (function_type (function_type ty bool_type) r)) (abstraction x ty body))) ≡ true
applied_typed name r ty s x body eb same =
    ap (λ o. is_some (application_type (Some (function_type (function_type ty bool_type) r)) (option_map (function_type ty) o))) eb
    ∙ ap (λ b. is_some (if b && type_eq bool_type s then Some r else None)) (type_eq-self ty)
    ∙ ap (λ b. is_some (if b then Some r else None)) same

too_large : (term : NamedTerm) (fault : Fault) → is_some (type_of term) ≡ true → is_within_limits term ≡ false → TooLarge ≡ fault → Answers {A = NamedTerm} (Err fault) (well_typed term)
too_large term fault typed large is = inr (well_typed_is term true false typed large ∙ ap (λ f. Err f) is)

limited_refusal : (name : List ℕ) (ty : HolType) (fault : Fault) → limited_constant name ty ≡ Err fault → (type_fits ty ≡ false) × (TooLarge ≡ fault)
limited_refusal name ty fault = go (type_fits ty)
  where
    go : (b : Bool) → (if b then Ok (constant name ty) else Err TooLarge) ≡ Err fault → (b ≡ false) × (TooLarge ≡ fault)
    go true e = absurd (let bad : ◌≡◌ {A = Result NamedTerm Fault} (Ok (constant name ty)) (Err fault) = e in cc)
    go false e = (refl, cc)

typed_refusal : (term : NamedTerm) (fault : Fault) → is_some (type_of term) ≡ true → well_typed term ≡ Err fault → (is_within_limits term ≡ false) × (TooLarge ≡ fault)
typed_refusal term fault typed e = go (is_within_limits term) (sym (ap (λ b. if b then within_limits term else Err TypeMismatch) typed) ∙ e)
  where
    go : (b : Bool) → (if b then Ok term else Err TooLarge) ≡ Err fault → (b ≡ false) × (TooLarge ≡ fault)
    go true k = absurd (let bad : ◌≡◌ {A = Result NamedTerm Fault} (Ok term) (Err fault) = k in cc)
    go false k = (refl, cc)

-- a connective between truth values applied to one of them, and to both
operator_typed : (operator left : NamedTerm) → type_of operator ≡ Some truth_operation → type_of left ≡ Some bool_type
    → type_of (combination operator left) ≡ Some (function_type bool_type bool_type)
operator_typed operator left typed typed_left =
    ap (λ o. application_type o (type_of left)) typed ∙ ap (λ o. application_type (Some truth_operation) o) typed_left

joined_typed : (operator left right : NamedTerm) → type_of operator ≡ Some truth_operation → type_of left ≡ Some bool_type → type_of right ≡ Some bool_type
    → type_of (combination (combination operator left) right) ≡ Some bool_type
joined_typed operator left right typed typed_left typed_right =
    ap (λ o. application_type o (type_of right)) (operator_typed operator left typed typed_left)
    ∙ ap (λ o. application_type (Some (function_type bool_type bool_type)) o) typed_right

pub joined_refused : (operator left right : NamedTerm) (fault : Fault) → type_of operator ≡ Some truth_operation → type_of left ≡ Some bool_type → type_of right ≡ Some bool_type
    → combination_outcome operator left ≡ Err fault → Answers {A = NamedTerm} (Err fault) (well_typed (combination (combination operator left) right))
joined_refused operator left right fault typed typed_left typed_right refused =
    let part = combination operator left in
    let why = typed_refusal part fault (ap is_some (operator_typed operator left typed typed_left)) (sym (typed_outcome-is part) ∙ refused) in
    too_large (combination part right) fault (ap is_some (joined_typed operator left right typed typed_left typed_right)) (large_function part right why.0) why.1

-- a combination that is answered
pub combination_made : (f x answer : NamedTerm) → combination_outcome f x ≡ Ok answer → answer ≡ combination f x
combination_made f x answer = go (is_some (type_of (combination f x))) (is_within_limits (combination f x))
  where
    go : (typed fits : Bool) → unless typed TypeMismatch (unless fits TooLarge (Ok (combination f x))) ≡ Ok answer → answer ≡ combination f x
    go true true is = cc
    go true false is = cc
    go false fits is = cc

pub operator_refused : (name : List ℕ) (r ty s : HolType) (x : List ℕ) (body : NamedTerm) (fault : Fault) → type_of body ≡ Some s → type_eq bool_type s ≡ true
    → Answers {A = NamedTerm} (Err fault) (limited_constant name (function_type (function_type ty bool_type) r))
    → Answers {A = NamedTerm} (Err fault) (well_typed (combination (constant name (function_type (function_type ty bool_type) r)) (abstraction x ty body)))
operator_refused name r ty s x body fault eb same h =
    ⊎_elim (λ m. inl m)
    (λ e.
    let why = limited_refusal name (function_type (function_type ty bool_type) r) fault e in
    too_large (combination (constant name (function_type (function_type ty bool_type) r)) (abstraction x ty body)) fault (applied_typed name r ty s x body eb same)
    (large_operator name (function_type (function_type ty bool_type) r) (abstraction x ty body) why.0) why.1)
    h

pub predicate_refused : (name : List ℕ) (r ty s : HolType) (x : List ℕ) (body : NamedTerm) (fault : Fault) → type_of body ≡ Some s → type_eq bool_type s ≡ true
    → Answers {A = NamedTerm} (Err fault) (well_typed (abstraction x ty body))
    → Answers {A = NamedTerm} (Err fault) (well_typed (combination (constant name (function_type (function_type ty bool_type) r)) (abstraction x ty body)))
predicate_refused name r ty s x body fault eb same h =
    ⊎_elim (λ m. inl m)
    (λ e.
    let why = typed_refusal (abstraction x ty body) fault (ap (λ o. is_some (option_map (function_type ty) o)) eb) e in
    too_large (combination (constant name (function_type (function_type ty bool_type) r)) (abstraction x ty body)) fault (applied_typed name r ty s x body eb same)
    (large_argument (constant name (function_type (function_type ty bool_type) r)) (abstraction x ty body) why.0) why.1)
    h

pub binder_typed : (binder : NamedTerm) (x : List ℕ) (ty t : HolType) → binder ≡ variable x ty → type_of binder ≡ Some t → t ≡ ty
binder_typed binder x ty t is e = let types : ◌≡◌ {A = Option HolType} (Some t) (Some ty) = sym e ∙ ap type_of is in cc

pub choice_made : (binder body operator predicate : NamedTerm) (x : List ℕ) (ty t : HolType) (name : List ℕ) (r : HolType → HolType) (result : Result NamedTerm Fault)
    → binder ≡ variable x ty → type_of binder ≡ Some t → limited_constant name (function_type (function_type t bool_type) (r t)) ≡ Ok operator
    → well_typed (abstraction x ty body) ≡ Ok predicate → Answers result (well_typed (combination operator predicate))
    → Answers result (well_typed (combination (constant name (function_type (function_type ty bool_type) (r ty))) (abstraction x ty body)))
choice_made binder body operator predicate x ty t name r result is e o p h =
    let same : t ≡ ty = binder_typed binder x ty t is e in
    let first : operator ≡ constant name (function_type (function_type ty bool_type) (r ty)) =
    made_constant (type_fits (function_type (function_type t bool_type) (r t))) o ∙ ap (λ u. constant name (function_type (function_type u bool_type) (r u))) same in
    let second : predicate ≡ abstraction x ty body = made_term (is_some (type_of (abstraction x ty body))) (is_within_limits (abstraction x ty body)) p in
    subst (λ u. Answers result (well_typed u)) (ap (λ f. combination f predicate) first ∙ ap (λ a. combination (constant name (function_type (function_type ty bool_type) (r ty))) a) second) h
  where
    made_constant : (b : Bool) → (if b then Ok (constant name (function_type (function_type t bool_type) (r t))) else Err TooLarge) ≡ Ok operator
        → operator ≡ constant name (function_type (function_type t bool_type) (r t))
    made_constant true k = cc
    made_constant false k = absurd (let bad : ◌≡◌ {A = Result NamedTerm Fault} (Err TooLarge) (Ok operator) = k in cc)

    made_term : (b d : Bool) → (if b then (if d then Ok (abstraction x ty body) else Err TooLarge) else Err TypeMismatch) ≡ Ok predicate → predicate ≡ abstraction x ty body
    made_term true true k = cc
    made_term true false k = absurd (let bad : ◌≡◌ {A = Result NamedTerm Fault} (Err TooLarge) (Ok predicate) = k in cc)
    made_term false d k = absurd (let bad : ◌≡◌ {A = Result NamedTerm Fault} (Err TypeMismatch) (Ok predicate) = k in cc)

-- a known connective at an instance of its generic type
connective_known : (scope : Scope) (name : List ℕ) (generic ty : HolType) (term : NamedTerm) → Some generic ≡ scope.generic_type name → is_instance generic ty ≡ true
    → connective scope name ty term ≡ well_typed term
connective_known scope name generic ty term g i =
    ap (λ o. connective_at o ty term) (sym g) ∙ ap (λ b. if b then well_typed term else Err NotInstance) i

-- a known quantifier over the type of its binder
pub quantifier_known : (scope : Scope) (name : List ℕ) (generic t : HolType) (binder body : NamedTerm) (x : List ℕ) (ty : HolType) → Some generic ≡ scope.generic_type name
    → type_of binder ≡ Some t → is_instance generic (quantifier_type t) ≡ true → binder ≡ variable x ty
    → connective scope name (quantifier_type ty) (combination (constant name (quantifier_type ty)) (abstraction x ty body))
    ≡ well_typed (combination (constant name (quantifier_type ty)) (abstraction x ty body))
quantifier_known scope name generic t binder body x ty g e i is =
    connective_known scope name generic (quantifier_type ty) (combination (constant name (quantifier_type ty)) (abstraction x ty body)) g
    (subst (λ v. is_instance generic (quantifier_type v) ≡ true) (binder_typed binder x ty t is e) i)
