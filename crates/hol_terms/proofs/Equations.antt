-- The outcomes of the calls that make an equation, as the outcome of the equation.
use Rattle.std.proofs.Common.{◌≡◌, ◌∙◌, refl, sym, ap, arith, Bool, true, false, Some, None, Ok, Err, codes, if◌then◌else◌}
use Rattle.std.proofs.lemmas.Bool.Decides.{nat_tests}
use Rattle.std.specs.Prelude.{Result, is_some}
use Rattle.hol_model.specs.declared.fault.Fault.{Fault}
use Rattle.hol_model.specs.declared.fault.Fault.TheVariants.{TooLarge, BadName, TypeMismatch}
use Rattle.hol_model.specs.Terms.HolType.{HolType, bool_type, function_type}
use Rattle.hol_model.specs.Terms.NamedTerm.{NamedTerm, constant, combination, equality, application_type, type_of, type_fits, is_within_limits}
use Rattle.hol_model.specs.Terms.Name.{is_constant_name}
use Rattle.hol_model.specs.Kernel.Outcome.{unless}
use Rattle.hol_model.specs.Kernel.Rules.{limited}
use Rattle.hol_model.specs.Kernel.Constructors.{function_type_outcome, constant_outcome, typed_outcome, combination_outcome, equation_outcome}
use Rattle.hol_model.proofs.Kernel.Outcomes.{passed_value}
use Rattle.hol_model.proofs.Terms.HolTypeEq.{type_eq-self}

large_function : (f x : NamedTerm) → is_within_limits f ≡ false → is_within_limits (combination f x) ≡ false
large_function f x past = grind (arith, nat_tests)

-- `=` for a type, with its left side
applied_type : (left : NamedTerm) (ty : HolType) → type_of left ≡ Some ty → type_of (combination (equality (Some ty)) left) ≡ Some (function_type ty bool_type)
applied_type left ty typed =
    ap (λ o. application_type (Some (function_type ty (function_type ty bool_type))) o) typed
    ∙ ap (λ x. if x then Some (function_type ty bool_type) else None) (type_eq-self ty)

equation_type : (left right : NamedTerm) (ty : HolType) → type_of left ≡ Some ty → type_of right ≡ Some ty
    → type_of (combination (combination (equality (Some ty)) left) right) ≡ Some bool_type
equation_type left right ty typed_left typed_right =
    ap (λ o. application_type o (type_of right)) (applied_type left ty typed_left)
    ∙ ap (λ o. application_type (Some (function_type ty bool_type)) o) typed_right
    ∙ ap (λ x. if x then Some bool_type else None) (type_eq-self ty)

typed_is : (term : NamedTerm) (ty : HolType) → type_of term ≡ Some ty → typed_outcome term ≡ limited term
typed_is term ty typed = ap (λ o. unless (is_some o) TypeMismatch (limited term)) typed

limited-refused : (part whole : NamedTerm) (fault : Fault) → (is_within_limits part ≡ false → is_within_limits whole ≡ false)
    → limited part ≡ Err fault → limited whole ≡ Err fault
limited-refused part whole fault past = go (is_within_limits part) refl
  where
    go : (test : Bool) → is_within_limits part ≡ test → unless test TooLarge (Ok part) ≡ Err fault → limited whole ≡ Err fault
    go true is refused = cc
    go false is refused = let same : TooLarge ≡ fault = cc in ap (λ t. unless t TooLarge (Ok whole)) (past is) ∙ ap (λ f. Err f) same

-- `=` as the program makes it
pub equality-made : (ty truth predicate relation : HolType) (operator : NamedTerm) → ◌≡◌ {A = Result HolType Fault} (Ok bool_type) (Ok truth) → function_type_outcome ty truth ≡ Ok predicate
    → function_type_outcome ty predicate ≡ Ok relation → constant_outcome (codes "=") relation ≡ Ok operator → operator ≡ equality (Some ty)
equality-made ty truth predicate relation operator truth_is predicate_is relation_is operator_is =
    let first : truth ≡ bool_type = cc in
    let second = passed_value (type_fits (function_type ty truth)) TooLarge (function_type ty truth) predicate predicate_is in
    let third = passed_value (type_fits (function_type ty predicate)) TooLarge (function_type ty predicate) relation relation_is in
    let fourth = passed_value (is_constant_name (codes "=")) BadName (constant (codes "=") relation) operator operator_is in
    fourth ∙ ap (λ r. constant (codes "=") r) (third ∙ ap (λ r. function_type ty r) (second ∙ ap (λ r. function_type ty r) first))

pub equation-is : (left right : NamedTerm) (ty : HolType) → type_of left ≡ Some ty
    → combination_outcome (combination (equality (Some ty)) left) right ≡ equation_outcome left right
equation-is left right ty typed = sym (ap (λ o. typed_outcome (combination (combination (equality o) left) right)) typed)

-- an equation is refused as `=` with its left side
pub equation-refused : (left right : NamedTerm) (ty : HolType) (fault : Fault) → type_of left ≡ Some ty → type_of right ≡ Some ty
    → combination_outcome (equality (Some ty)) left ≡ Err fault → equation_outcome left right ≡ Err fault
equation-refused left right ty fault typed_left typed_right refused =
    let part = combination (equality (Some ty)) left in
    sym (equation-is left right ty typed_left)
    ∙ typed_is (combination part right) bool_type (equation_type left right ty typed_left typed_right)
    ∙ limited-refused part (combination part right) fault (large_function part right)
    (sym (typed_is part (function_type ty bool_type) (applied_type left ty typed_left)) ∙ refused)

-- a combination that is answered
pub combination-made : (f x made : NamedTerm) → combination_outcome f x ≡ Ok made → made ≡ combination f x
combination-made f x made = go (is_some (type_of (combination f x))) (is_within_limits (combination f x))
  where
    go : (typed fits : Bool) → unless typed TypeMismatch (unless fits TooLarge (Ok (combination f x))) ≡ Ok made → made ≡ combination f x
    go true true is = cc
    go true false is = cc
    go false fits is = cc
