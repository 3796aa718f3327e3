-- Outcomes that depend on a test.
use Rattle.std.proofs.Common.{◌≡◌, ◌≤◌, ◌+◌, ◌&&◌, ℕ, max, nat_le, arith, [], Bool, true, false, refl, sym, ◌∙◌, ap, subst, inl, inr}
use Rattle.std.proofs.Common.{if◌then◌else◌, Option, Some, None, Result, Ok, Err}
use Rattle.std.specs.Str.{bytes_eq}
use Rattle.hol_model.specs.declared.limits.TheConstants.{TERM_NODES_LIMIT, TERM_HEIGHT_LIMIT}
use Rattle.hol_model.specs.declared.fault.Fault.{Fault}
use Rattle.hol_model.specs.declared.fault.Fault.TheVariants.{TooLarge}
use Rattle.hol_model.specs.Terms.HolType.{HolType, bool_type, function_type, type_eq}
use Rattle.hol_model.specs.Terms.NamedTerm.{NamedTerm, variable, constant, combination, abstraction, type_of, is_within_limits}
use Rattle.hol_model.specs.Terms.Nameless.{Nameless, const, app, HasType, image}
use Rattle.hol_model.specs.Terms.Measures.{nameless_height, nameless_nodes, nameless_types_fit, nameless_within_limits}
use Rattle.hol_model.specs.Logic.Logic.{binary, unary, implies_name}
use Rattle.hol_model.specs.Logic.NamedLogic.{implication}
use Rattle.hol_model.specs.Logic.Theory.{equality_name}
use Rattle.hol_model.specs.Kernel.Rules.{dest_equation}
use Rattle.hol_model.specs.Kernel.Outcome.{unless, Answers}
use Rattle.hol_model.specs.Kernel.Constructors.{combination_outcome, typed_outcome}
use Rattle.hol_model.proofs.Terms.Measures.{past_limits-image}
use Rattle.hol_model.proofs.Tests.{first_of_both, second_of_both, both}
use Rattle.hol_model.proofs.Terms.HolTypeEq.{type_eq-Decides}
use Rattle.hol_model.proofs.Terms.Images.{image-typed, image-type}
use Rattle.hol_model.proofs.Terms.WithinLimits.{within_limits-image}
use Rattle.hol_kernel.proofs.LimitLemmas.{applied}
use Rattle.hol_model.specs.Goals.ValidSteps.{Step}
use Rattle.hol_model.specs.Goals.Replays.{IsWant}
use Rattle.hol_model.specs.Goals.Goals.{Goal}
use Rattle.hol_model.specs.Refining.Refiners.{StatedStep, leaves}
use Rattle.hol_refine.specs.TableAnswers.{AnswersStep, AnswersImplication}
use Rattle.hol_refine.specs.Rows.{two_targets, by_both_ways, both_ways}

-- what is made is within the limits
pub fitting : (within : Bool) (stated : StatedStep) (result : Result Step Fault) → within ≡ true → AnswersStep (Ok stated) result → AnswersStep (unless within TooLarge (Ok stated)) result
fitting true stated result is answers = answers
fitting false stated result is answers = cc

-- what is made is past the limits, or there is no memory
pub unfitting : (within : Bool) (stated : StatedStep) (fault : Fault) → IsWant fault within → AnswersStep (unless within TooLarge (Ok stated)) (Err fault)
unfitting true stated fault (inl memory) = memory
unfitting true stated fault (inr large) = let differ = large.1 in cc
unfitting false stated fault (inl memory) = inl memory
unfitting false stated fault (inr large) = inr large.0

half-typed : (p : NamedTerm) → type_of p ≡ Some bool_type → type_of (combination (constant implies_name binary) p) ≡ Some unary
half-typed p typed = rw typed refl

whole-typed : (p q : NamedTerm) → type_of p ≡ Some bool_type → type_of q ≡ Some bool_type → type_of (implication p q) ≡ Some bool_type
whole-typed p q p_typed q_typed = rw (p_typed, q_typed) refl

-- a call that makes a combination is refused where that is past the limits
combination-past : (fault : Fault) (f x : NamedTerm) (ty : HolType) → type_of (combination f x) ≡ Some ty → Answers {A = NamedTerm} (Err fault) (combination_outcome f x)
    → IsWant fault (nameless_within_limits (image (combination f x)))
combination-past fault f x ty typed (inl memory) = inl memory
combination-past fault f x ty typed (inr refusal) = go (is_within_limits (combination f x)) refl (rw typed at refusal)
  where
    go : (test : Bool) → is_within_limits (combination f x) ≡ test → unless test TooLarge (Ok (combination f x)) ≡ Err fault → IsWant fault (nameless_within_limits (image (combination f x)))
    go true is refusal = cc
    go false is refusal = let large : TooLarge ≡ fault = cc in inr (sym large, past_limits-image (combination f x) ty typed is)

lower : (a b limit : ℕ) → a ≤ b → nat_le b limit ≡ true → nat_le a limit ≡ true
lower a b limit less fits = grind arith

-- the function of a combination that is within the limits is within them
within-function : (f x : Nameless) → nameless_within_limits (app f x) ≡ true → nameless_within_limits f ≡ true
within-function f x within =
    let high = nat_le (max (nameless_height f) (nameless_height x) + 1) TERM_HEIGHT_LIMIT in
    let many = nat_le (nameless_nodes f + nameless_nodes x + 1) TERM_NODES_LIMIT in
    let fit = nameless_types_fit [] f in
    let others = nameless_types_fit [] x in
    let two : (high && many) ≡ true = first_of_both (high && many) (fit && others) within in
    both (nat_le (nameless_height f) TERM_HEIGHT_LIMIT && nat_le (nameless_nodes f) TERM_NODES_LIMIT) fit
    (both (nat_le (nameless_height f) TERM_HEIGHT_LIMIT) (nat_le (nameless_nodes f) TERM_NODES_LIMIT)
    (lower (nameless_height f) (max (nameless_height f) (nameless_height x) + 1) TERM_HEIGHT_LIMIT (omega arith) (first_of_both high many two))
    (lower (nameless_nodes f) (nameless_nodes f + nameless_nodes x + 1) TERM_NODES_LIMIT (omega arith) (second_of_both high many two)))
    (first_of_both fit others (second_of_both (high && many) (fit && others) within))

past-function : (f x : Nameless) → nameless_within_limits f ≡ false → nameless_within_limits (app f x) ≡ false
past-function f x past = go (nameless_within_limits (app f x)) (within-function f x)
  where
    go : (test : Bool) → (test ≡ true → nameless_within_limits f ≡ true) → test ≡ false
    go true step = sym (step refl) ∙ past
    go false step = refl

past-whole : (fault : Fault) (f x : Nameless) → IsWant fault (nameless_within_limits f) → IsWant fault (nameless_within_limits (app f x))
past-whole fault f x (inl memory) = inl memory
past-whole fault f x (inr large) = inr (large.0, past-function f x large.1)

pub half_refused : (fault : Fault) (connective p q : NamedTerm) → connective ≡ constant implies_name binary → type_of p ≡ Some bool_type
    → Answers {A = NamedTerm} (Err fault) (combination_outcome connective p) → AnswersImplication (Err fault) p q
half_refused fault connective p q is p_typed answers =
    past-whole fault (image (combination (constant implies_name binary) p)) (image q)
    (combination-past fault (constant implies_name binary) p unary (half-typed p p_typed)
    (subst (λ (t : NamedTerm). Answers {A = NamedTerm} (Err fault) (combination_outcome t p)) is answers))

-- what is made is within the limits
made-within : (term made : NamedTerm) (ty : HolType) → type_of term ≡ Some ty → typed_outcome term ≡ Ok made → is_within_limits term ≡ true
made-within term made ty typed answered = go (is_within_limits term) refl (rw typed at answered)
  where
    go : (test : Bool) → is_within_limits term ≡ test → unless test TooLarge (Ok term) ≡ Ok made → is_within_limits term ≡ true
    go true is answered = is
    go false is answered = cc

pub whole_answered : (result : Result NamedTerm Fault) (connective half p q : NamedTerm) → connective ≡ constant implies_name binary
    → type_of p ≡ Some bool_type → type_of q ≡ Some bool_type → Answers (Ok half) (combination_outcome connective p) → Answers result (combination_outcome half q)
    → AnswersImplication result p q
whole_answered result connective half p q is p_typed q_typed half_answers answers =
    go result (subst (λ (t : NamedTerm). Answers result (combination_outcome t q)) ((applied connective p half half_answers).is ∙ ap (λ (t : NamedTerm). combination t p) is) answers)
  where
    go : (r : Result NamedTerm Fault) → Answers r (combination_outcome (combination (constant implies_name binary) p) q) → AnswersImplication r p q
    go (Err fault) answers = combination-past fault (combination (constant implies_name binary) p) q bool_type (whole-typed p q p_typed q_typed) answers
    go (Ok made) answers = (
      within_limits-image (implication p q) bool_type (whole-typed p q p_typed q_typed) (made-within (implication p q) made bool_type (whole-typed p q p_typed q_typed) answers),
      (applied (combination (constant implies_name binary) p) q made answers).is,
    )

-- the first of two terms that are made is within the limits
pub fitting_first : (second first : Bool) (stated : StatedStep) (result : Result Step Fault) → first ≡ true → AnswersStep (unless second TooLarge (unless first TooLarge (Ok stated))) result
    → AnswersStep (unless second TooLarge (Ok stated)) result
fitting_first second true stated result is answers = answers
fitting_first second false stated result is answers = cc

pub unfitting_first : (second first : Bool) (stated : StatedStep) (fault : Fault) → IsWant fault first → AnswersStep (unless second TooLarge (unless first TooLarge (Ok stated))) (Err fault)
unfitting_first true first stated fault want = unfitting first stated fault want
unfitting_first false first stated fault (inl memory) = inl memory
unfitting_first false first stated fault (inr large) = inr large.0

-- ---- both ways

module _ (goal : Goal) (p q : NamedTerm) where
  abbrev the_step : StatedStep
  the_step = record { goals = two_targets goal (implication p q) (implication q p); justification = by_both_ways }

  pub both_ways-first : (fault : Fault) → nameless_within_limits (image (implication p q)) ≡ true → IsWant fault (nameless_within_limits (image (implication p q)))
      → AnswersStep (both_ways goal p q) (Err fault)
  both_ways-first fault fits want =
      let first = nameless_within_limits (image (implication p q)) in
      let second = nameless_within_limits (image (implication q p)) in
      fitting_first second first the_step (Err fault) fits (unfitting_first second first the_step fault want)

  pub both_ways-second : (fault : Fault) → IsWant fault (nameless_within_limits (image (implication q p))) → AnswersStep (both_ways goal p q) (Err fault)
  both_ways-second fault want = unfitting (nameless_within_limits (image (implication q p))) the_step fault want

  pub both_ways-made : (there back : NamedTerm) (result : Result Step Fault) → nameless_within_limits (image (implication q p)) ≡ true
      → there ≡ implication p q → back ≡ implication q p → AnswersStep (leaves (two_targets goal there back) by_both_ways) result → AnswersStep (both_ways goal p q) result
  both_ways-made there back result fits there_is back_is answers =
      fitting (nameless_within_limits (image (implication q p))) the_step result fits
      (subst (λ (t : NamedTerm). AnswersStep (leaves (two_targets goal (implication p q) t) by_both_ways) result) back_is
      (subst (λ (t : NamedTerm). AnswersStep (leaves (two_targets goal t back) by_both_ways) result) there_is answers))

-- an implication has the measures of the equation of its sides
pub implication-fits : (p q term : NamedTerm) → dest_equation term ≡ Some (p, q) → type_of term ≡ Some bool_type → type_of p ≡ Some bool_type → type_of q ≡ Some bool_type
    → is_within_limits term ≡ true → nameless_within_limits (image (implication p q)) ≡ true
implication-fits p q (combination (combination (constant name ty) a) b) dest typed p_typed q_typed within =
    subst (λ (s : NamedTerm × NamedTerm). nameless_within_limits (image (implication s.0 s.1)) ≡ true) same fits
  where
    found : (test : Bool) → if◌then◌else◌ {A = Option (NamedTerm × NamedTerm)} test (Some (a, b)) None ≡ Some (p, q) → ◌≡◌ {A = NamedTerm × NamedTerm} (a, b) (p, q)
    found true is = cc
    found false is = cc

    same : ◌≡◌ {A = NamedTerm × NamedTerm} (a, b) (p, q)
    same = found (bytes_eq name equality_name) dest

    whole : HasType [] (app (app (const name ty) (image a)) (image b)) bool_type
    whole = image-typed (combination (combination (constant name ty) a) b) bool_type typed

    some-same : (s t : HolType) → Some s ≡ Some t → s ≡ t
    some-same s t is = cc

    left_is : whole.1.0 ≡ bool_type
    left_is = some-same whole.1.0 bool_type (sym (image-type a whole.1.0 whole.1.2) ∙ ap (λ (s : NamedTerm × NamedTerm). type_of s.0) same ∙ p_typed)

    right_is : whole.0 ≡ bool_type
    right_is = some-same whole.0 bool_type (sym (image-type b whole.0 whole.2) ∙ ap (λ (s : NamedTerm × NamedTerm). type_of s.1) same ∙ q_typed)

    ty_is : ty ≡ binary
    ty_is = whole.1.1 ∙ (λ i. function_type (left_is i) (function_type (right_is i) bool_type))

    fits : nameless_within_limits (image (implication a b)) ≡ true
    fits = subst (λ (s : HolType). nameless_within_limits (app (app (const name s) (image a)) (image b)) ≡ true) ty_is
        (within_limits-image (combination (combination (constant name ty) a) b) bool_type typed within)
implication-fits p q (combination (combination (variable name ty) a) b) dest typed p_typed q_typed within = cc
implication-fits p q (combination (combination (combination f x) a) b) dest typed p_typed q_typed within = cc
implication-fits p q (combination (combination (abstraction name ty x) a) b) dest typed p_typed q_typed within = cc
implication-fits p q (combination (variable name ty) b) dest typed p_typed q_typed within = cc
implication-fits p q (combination (constant name ty) b) dest typed p_typed q_typed within = cc
implication-fits p q (combination (abstraction name ty x) b) dest typed p_typed q_typed within = cc
implication-fits p q (variable name ty) dest typed p_typed q_typed within = cc
implication-fits p q (constant name ty) dest typed p_typed q_typed within = cc
implication-fits p q (abstraction name ty x) dest typed p_typed q_typed within = cc

-- a term whose type is tested
pub of_type : (term : NamedTerm) (ty tested : HolType) → type_of term ≡ Some ty → type_eq ty tested ≡ true → type_of term ≡ Some tested
of_type term ty tested typed is = typed ∙ ap Some ((type_eq-Decides ty tested).0 is)

pub bool-typed : (term : NamedTerm) (ty : HolType) → type_of term ≡ Some ty → type_eq ty bool_type ≡ true → type_of term ≡ Some bool_type
bool-typed term ty typed is = of_type term ty bool_type typed is
