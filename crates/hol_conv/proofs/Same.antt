-- That nothing changes.
use Rattle.std.proofs.Common.{◌≡◌, ℕ, List, [], inl, Bool, true, false, ◌&&◌, not, if◌then◌else◌, refl, sym, ◌∙◌, ap, subst, Option, Some, None, Result, Ok, Err, IfOk}
use Rattle.std.specs.Option.{is_some, option_map_or}
use Rattle.hol_model.specs.declared.fault.Fault.{Fault}
use Rattle.hol_model.specs.declared.fault.Fault.TheVariants.{TooLarge, NotEquation, NotAlpha, TypeMismatch, UnknownType, UnknownConst, NotInstance, ConvFails}
use Rattle.hol_model.specs.Terms.NamedTerm.{NamedTerm, combination, abstraction, equation, type_of, is_within_limits}
use Rattle.hol_model.specs.Terms.HolType.{HolType}
use Rattle.hol_model.specs.Terms.Nameless.{image}
use Rattle.hol_model.specs.Logic.Theory.{Theory}
use Rattle.hol_model.specs.Logic.KnownTerm.{is_known, knows_type, knows_types, knows_constants, has_instances}
use Rattle.hol_model.specs.Kernel.Outcome.{unless, given, refused}
use Rattle.hol_model.specs.Kernel.Theorem.{Theorem, are_alpha_equivalent}
use Rattle.hol_model.specs.Kernel.Rules.{dest_equation, concluded, refl_outcome, trans_outcome}
use Rattle.hol_model.specs.Refining.Conversions.{binder_answer, of_argument, of_function, of_parts, of_body, if_changed}
use Rattle.hol_model.proofs.Tests.{same_term-Decides}
use Rattle.hol_laws_refiners.proofs.Equations.{equation-sides}
use Rattle.hol_laws_refiners.proofs.Repeating.{onto}
use Rattle.hol_journal.specs.Journal.{Recorded}
use Rattle.hol_conv.specs.Makes.{Joins, IsRightSide}
use Rattle.hol_conv.specs.declared.converted.Converted.{Converted}
use Rattle.hol_conv.specs.declared.converted.Converted.TheVariants.{Same, Changed}
use Rattle.hol_conv.specs.Converted.{same_theorem, theorem_of, answered, changed_by}

-- REFL of a known term
known-refl : (theory : Theory) (t : NamedTerm) → is_known theory t ≡ true → refl_outcome theory t ≡ concluded theory [] (equation t t)
known-refl theory t known = go (knows_types theory t) (knows_constants theory t) (has_instances theory t) known
  where
    go : (a b c : Bool) → (a && b && c) ≡ true
        → refused (if not a then Some UnknownType else (if not b then Some UnknownConst else (if not c then Some NotInstance else None)))
        (concluded theory [] (equation t t)) ≡ concluded theory [] (equation t t)
    go true true true e = refl
    go true true false e = cc
    go true false c e = cc
    go false b c e = cc

pub roomy-refl : (theory : Theory) (t : NamedTerm) → is_known theory t ≡ true → is_within_limits (equation t t) ≡ true → refl_outcome theory t ≡ Ok (same_theorem theory t)
roomy-refl theory t known fits = known-refl theory t known ∙ ap (λ b. unless b TooLarge (Ok (same_theorem theory t))) fits

pub roomless-refl : (theory : Theory) (t : NamedTerm) → is_known theory t ≡ true → is_within_limits (equation t t) ≡ false → refl_outcome theory t ≡ Err TooLarge
roomless-refl theory t known fits = known-refl theory t known ∙ ap (λ b. unless b TooLarge (Ok (same_theorem theory t))) fits

-- MK_COMB of two that do not change is REFL of the whole
pub both-same : (theory : Theory) (f x : NamedTerm) → is_some (type_of (combination f x)) ≡ true → is_known theory (combination f x) ≡ true
    → of_parts theory (Ok (same_theorem theory f)) (Ok (same_theorem theory x)) ≡ refl_outcome theory (combination f x)
both-same theory f x typed known =
    subst (λ (found : Option (NamedTerm × NamedTerm)).
    given found NotEquation (λ functions.
    given (dest_equation (equation x x)) NotEquation
    (λ arguments. unless (is_some (type_of (combination functions.0 arguments.0))) TypeMismatch (made functions arguments))) ≡ refl_outcome
    theory (combination f x)) (sym (equation-sides f f))
    (subst (λ (found : Option (NamedTerm × NamedTerm)).
    given found NotEquation (λ arguments.
    unless (is_some (type_of (combination f arguments.0))) TypeMismatch (made (f, f) arguments)) ≡ refl_outcome theory (combination f x))
    (sym (equation-sides x x))
    (ap (λ b. unless b TypeMismatch (made (f, f) (x, x))) typed ∙ sym (known-refl theory (combination f x) known)))
  where
    made : NamedTerm × NamedTerm → NamedTerm × NamedTerm → Result Theorem Fault
    made functions arguments = concluded theory [] (equation (combination functions.0 arguments.0) (combination functions.1 arguments.1))

-- AP_TERM, AP_THM where the part that stays has room for REFL
pub argument-same : (theory : Theory) (f : NamedTerm) (second : Theorem) → is_known theory f ≡ true → is_within_limits (equation f f) ≡ true
    → of_argument theory f (Ok second) ≡ of_parts theory (Ok (same_theorem theory f)) (Ok second)
argument-same theory f second known fits = ap (λ first. of_parts theory first (Ok second)) (roomy-refl theory f known fits)

pub function-same : (theory : Theory) (x : NamedTerm) (first : Theorem) → is_known theory x ≡ true → is_within_limits (equation x x) ≡ true
    → of_function theory x (Ok first) ≡ of_parts theory (Ok first) (Ok (same_theorem theory x))
function-same theory x first known fits = ap (λ second. of_parts theory (Ok first) second) (roomy-refl theory x known fits)

-- TRANS of two that do not change is the same
pub same-joined : (theory : Theory) (t : NamedTerm) → is_within_limits (equation t t) ≡ true → trans_outcome theory (same_theorem theory t) (same_theorem theory t) ≡ Ok (same_theorem theory t)
same-joined theory t fits =
    subst (λ (found : Option (NamedTerm × NamedTerm)). given found NotEquation (λ left. given found NotEquation (λ right. joined left right)) ≡ Ok (same_theorem theory t)) (sym (equation-sides t t))
    (go (are_alpha_equivalent t t) (is_within_limits (equation t t)) ((same_term-Decides (image t) (image t)).1 refl) fits)
  where
    joined : NamedTerm × NamedTerm → NamedTerm × NamedTerm → Result Theorem Fault
    joined left right = unless (are_alpha_equivalent left.1 right.0) NotAlpha (concluded theory [] (equation left.0 right.1))

    go : (alike roomy : Bool) → alike ≡ true → roomy ≡ true → unless alike NotAlpha (unless roomy TooLarge (Ok (same_theorem theory t))) ≡ Ok (same_theorem theory t)
    go true true a b = refl
    go true false a b = cc
    go false roomy a b = cc

-- the right side of what does not change
pub same-side : (theory : Theory) (t : NamedTerm) → IsRightSide (same_theorem theory t) t
same-side theory t = record { left = t; is = equation-sides t t }

some-right : (l r a b : NamedTerm) → ◌≡◌ {A = Option (NamedTerm × NamedTerm)} (Some (l, r)) (Some (a, b)) → r ≡ b
some-right l r a b is = ap (λ (found : Option (NamedTerm × NamedTerm)). option_map_or (λ sides. sides.1) found l) is

pub side-same : (theory : Theory) (t right : NamedTerm) → IsRightSide (same_theorem theory t) right → right ≡ t
side-same theory t right side = some-right side.left right t t (sym side.is ∙ equation-sides t t)

-- CHANGED_CONV refuses it
pub same-refused : (theory : Theory) (t : NamedTerm) → if_changed t (Ok (same_theorem theory t)) ≡ Err ConvFails
same-refused theory t =
    subst (λ (found : Option (NamedTerm × NamedTerm)).
    given found ConvFails (λ sides. unless (not (are_alpha_equivalent sides.1 t)) ConvFails (Ok (same_theorem theory t))) ≡ Err ConvFails)
    (sym (equation-sides t t))
    (go (are_alpha_equivalent t t) ((same_term-Decides (image t) (image t)).1 refl))
  where
    go : (alike : Bool) → alike ≡ true → unless (not alike) ConvFails (Ok (same_theorem theory t)) ≡ Err ConvFails
    go true is = refl
    go false is = cc

-- ABS of a body that does not change is REFL of the whole
pub same-body : (theory : Theory) (name : List ℕ) (ty : HolType) (body : NamedTerm) → is_known theory (abstraction name ty body) ≡ true
    → of_body theory name ty (Ok (same_theorem theory body)) ≡ refl_outcome theory (abstraction name ty body)
same-body theory name ty body known =
    subst (λ (found : Option (NamedTerm × NamedTerm)).
    binder_answer (given found NotEquation (λ sides. unless (knows_type theory ty) UnknownType (made sides))) ≡ refl_outcome theory
    (abstraction name ty body)) (sym (equation-sides body body))
    (go (knows_type theory ty) (is_within_limits (equation (abstraction name ty body) (abstraction name ty body)))
    (knows (knows_type theory ty) (knows_types theory body) (knows_constants theory body) (has_instances theory body) known) ∙ sym (known-refl theory (abstraction name ty body) known))
  where
    made : NamedTerm × NamedTerm → Result Theorem Fault
    made sides = concluded theory [] (equation (abstraction name ty sides.0) (abstraction name ty sides.1))

    whole : Theorem
    whole = same_theorem theory (abstraction name ty body)

    knows : (a b c d : Bool) → ((a && b) && c && d) ≡ true → a ≡ true
    knows true b c d e = refl
    knows false b c d e = cc

    go : (knows roomy : Bool) → knows ≡ true → binder_answer (unless knows UnknownType (unless roomy TooLarge (Ok whole))) ≡ unless roomy TooLarge (Ok whole)
    go true true e = refl
    go true false e = refl
    go false roomy e = cc

-- ---- answers

pub body-unchanged : (theory : Theory) (t : NamedTerm) (name : List ℕ) (ty : HolType) (body : NamedTerm) (part result : Result Converted Fault) → part ≡ Ok Same → t ≡ abstraction name ty body
    → is_known theory t ≡ true → answered theory t result ≡ refl_outcome theory t → Joins (of_body theory name ty (answered theory body part)) (answered theory t result)
body-unchanged theory t name ty body part result same is known outcome =
    let known : is_known theory (abstraction name ty body) ≡ true = subst (λ (u : NamedTerm). is_known theory u ≡ true) is known in
    inl (outcome ∙ ap (refl_outcome theory) is ∙ sym (same-body theory name ty body known)
    ∙ ap (λ (part : Result Converted Fault). of_body theory name ty (answered theory body part)) (sym same))

pub then-unchanged : (theory : Theory) (t right : NamedTerm) (first : Converted) (next : Result Converted Fault) → first ≡ Same → next ≡ Ok Same → IsRightSide (theorem_of theory t first) right
    → is_within_limits (equation t t) ≡ true → Joins (onto theory (theorem_of theory t first) (answered theory right next)) (Ok (same_theorem theory t))
then-unchanged theory t right first next same next_same side fits =
    let side : IsRightSide (same_theorem theory t) right = subst (λ (first : Converted). IsRightSide (theorem_of theory t first) right) same side in
    inl (sym (ap (λ (first : Converted). onto theory (theorem_of theory t first) (answered theory right next)) same
    ∙ ap (λ (next : Result Converted Fault). onto theory (same_theorem theory t) (answered theory right next)) next_same
    ∙ ap (λ (u : NamedTerm). trans_outcome theory (same_theorem theory t) (same_theorem theory u)) (side-same theory t right side)
    ∙ same-joined theory t fits))

pub only-made : (made : Recorded) (stands : Bool) (answer : Converted) (found : Result Recorded Fault) (result : Result Converted Fault) → result ≡ changed_by stands found
    → IfOk found (λ same. same ≡ made) → answer ≡ Changed made stands → IfOk result (λ same. same ≡ answer)
only-made made stands answer (Ok same) result is found changed =
    subst (λ (result : Result Converted Fault). IfOk result (λ same. same ≡ answer)) (sym is) (ap (λ (made : Recorded). Changed made stands) found ∙ sym changed)
only-made made stands answer (Err fault) result is found changed = subst (λ (result : Result Converted Fault). IfOk result (λ same. same ≡ answer)) (sym is) tt
