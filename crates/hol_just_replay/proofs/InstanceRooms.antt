-- INST and INST_TYPE find room.
use Rattle.std.proofs.Common.{◌≡◌, List, [], ◌∷◌, map, Bool, true, false, not, if◌then◌else◌, refl, ◌∙◌, ap, subst, inl, inr, Option, Some, None, Result, Ok, Err, arith, Vec, Global}
use Rattle.std.specs.List.{list_all}
use Rattle.std.proofs.lemmas.List.{append-nil}
use Rattle.hol_model.specs.declared.fault.Fault.{Fault}
use Rattle.hol_model.specs.declared.fault.Fault.TheVariants.{TooLarge, NotVariable, TypeMismatch, UnknownType, UnknownConst, NotInstance}
use Rattle.hol_model.specs.Terms.HolType.{HolType, replaces_type_variables}
use Rattle.hol_model.specs.Terms.NamedTerm.{NamedTerm}
use Rattle.hol_model.specs.Terms.Nameless.{Nameless, image}
use Rattle.hol_model.specs.Terms.Measures.{nameless_within_limits}
use Rattle.hol_model.specs.Terms.Substitution.{put_all, replaces_variables, keeps_types}
use Rattle.hol_model.specs.Logic.Theory.{Theory}
use Rattle.hol_model.specs.Logic.KnownTerm.{knows_type, knows_types, knows_constants, has_instances}
use Rattle.hol_model.specs.Logic.NamedLogic.{true_term}
use Rattle.hol_model.specs.Kernel.Outcome.{AnswersSuch}
use Rattle.hol_model.specs.Kernel.Theorem.{Theorem}
use Rattle.hol_model.specs.Kernel.Instantiation.{IsChanged, or_too_large, all_fit, replacements_refusal, inst_refusal, IsInst, instantiate_all}
use Rattle.hol_model.specs.Kernel.Instantiation.{type_replacements_refusal, inst_type_refusal, IsInstType}
use Rattle.hol_model.specs.Goals.Replays.{terms_of_sequent}
use Rattle.hol_model.specs.Derived.DerivedRules.{is_roomy, images}
use Rattle.hol_model.specs.declared.rule.Rule.TheVariants as rules
use Rattle.hol_model.specs.Derived.Inference.{given, require, conclude, all_changed, drawn, may_replace, may_replace_types}
use Rattle.hol_model.proofs.Tests.{first_of_both, second_of_both, both}
use Rattle.hol_equal.specs.Inferred.{IsDrawn}
use Rattle.hol_equal.proofs.Sizes.{leaves_room, sized-within}
use Rattle.hol_bool.proofs.DrawnPrimitives.{inst-drawn, inst_type-drawn}
use Rattle.hol_just_replay.specs.Room.{IsNotLarge, are_roomy, FindsRoom}

-- a theorem that no replacement changes: where the rule takes it, it takes its replacements
abbrev plain : Theory → Theorem
plain theory = record { theory = theory; hypotheses = []; conclusion = true_term }

plain-changed : (theory : Theory) (change : Nameless → Nameless) → image true_term ≡ change (image true_term) → IsChanged theory change (plain theory) (plain theory)
plain-changed theory change same = record { stands_on = refl; instances = []; images = refl; hypotheses = refl; conclusion = same }

required : (theory : Theory) (change : Nameless → Nameless) (c : Nameless) (may : Bool)
    → IsDrawn (given (require may (conclude (all_changed change ∷ []) c)) (λ inference. drawn inference ([] ∷ []))) (Ok (plain theory)) → may ≡ true
required theory change c true is = refl
required theory change c false is = absurd is

all-within : (change : Nameless → Nameless) (terms : List NamedTerm) → are_roomy (map change (map image terms)) ≡ true → all_fit change terms ≡ true
all-within change [] roomy = refl
all-within change (t ∷ terms) roomy =
    let one = leaves_room (change (image t)) (first_of_both (is_roomy (change (image t))) (are_roomy (map change (map image terms))) roomy) in
    both (nameless_within_limits (change (image t))) (all_fit change terms) (sized-within 1000 5000 (change (image t)) one.sized (omega arith) (omega arith))
    (all-within change terms (second_of_both (is_roomy (change (image t))) (are_roomy (map change (map image terms))) roomy))

-- a rule that changes each part of a theorem
changed-room : (theory : Theory) (change : Nameless → Nameless) (a : Theorem) (may : Bool) (refusal : Option Fault) → (refusal ≡ Some TooLarge → ⊥)
    → (refusal ≡ None → may ≡ true) → (result : Result Theorem Fault)
    → AnswersSuch result (or_too_large refusal (all_fit change (a.conclusion ∷ a.hypotheses))) (IsChanged theory change a)
    → are_roomy (terms_of_sequent (given (require may (conclude (all_changed change ∷ []) (change (image a.conclusion)))) (λ inference. drawn inference (images a ∷ [])))) ≡ true → IsNotLarge result
changed-room theory change a may refusal other passes (Ok answer) answers roomy = tt
changed-room theory change a may refusal other passes (Err fault) (inl memory) roomy = λ large. cc
changed-room theory change a may (Some first) other passes (Err fault) (inr is) roomy = λ large. other (is ∙ ap Some large)
changed-room theory change a may None other passes (Err fault) (inr is) roomy = λ large. fits (all_fit change (a.conclusion ∷ a.hypotheses)) inside is
  where
    changed : List Nameless
    changed = map change (images a)

    all_roomy : are_roomy (change (image a.conclusion) ∷ changed) ≡ true
    all_roomy =
        subst (λ (h : List Nameless). are_roomy (change (image a.conclusion) ∷ h) ≡ true) (append-nil changed)
        (subst (λ (b : Bool). are_roomy
        (terms_of_sequent (given (require b (conclude (all_changed change ∷ []) (change (image a.conclusion))))
        (λ inference. drawn inference (images a ∷ [])))) ≡ true) (passes refl) roomy)

    inside : all_fit change (a.conclusion ∷ a.hypotheses) ≡ true
    inside = all-within change (a.conclusion ∷ a.hypotheses) all_roomy

    fits : (test : Bool) → test ≡ true → (if test then None else Some TooLarge) ≡ Some fault → ⊥
    fits true within some = cc
    fits false within some = cc

replacements-other : (theory : Theory) (theta : List (NamedTerm × NamedTerm)) → replacements_refusal theory theta ≡ Some TooLarge → ⊥
replacements-other theory theta =
    go (replaces_variables theta) (keeps_types theta) (list_all (λ pair. knows_types theory pair.0) theta)
    (list_all (λ pair. knows_constants theory pair.0) theta) (list_all (λ pair. has_instances theory pair.0) theta)
  where
    go : (variables keep types constants instances : Bool)
        → (if not variables then Some NotVariable else
        (if not keep then Some TypeMismatch else
        (if not types then Some UnknownType else
        (if not constants then Some UnknownConst else (if not instances then Some NotInstance else None))))) ≡ Some TooLarge
        → ⊥
    go true true true true true is = cc
    go true true true true false is = cc
    go true true true false instances is = cc
    go true true false constants instances is = cc
    go true false types constants instances is = cc
    go false keep types constants instances is = cc

type-replacements-other : (theory : Theory) (theta : List (HolType × HolType)) → type_replacements_refusal theory theta ≡ Some TooLarge → ⊥
type-replacements-other theory theta = go (replaces_type_variables theta) (list_all (λ pair. knows_type theory pair.0) theta)
  where
    go : (variables types : Bool) → (if not variables then Some NotVariable else (if not types then Some UnknownType else None)) ≡ Some TooLarge → ⊥
    go true true is = cc
    go true false is = cc
    go false types is = cc

pub room-inst : {theory : Theory} {theta : Vec (NamedTerm × NamedTerm) Global} {a : Theorem} {result : Result Theorem Fault}
    → AnswersSuch result (inst_refusal theory theta.items a) (IsInst theory theta.items a) → FindsRoom theory (rules.Inst theta) (a ∷ []) result
room-inst {theory} {theta} {a} {result} answers =
    record {
      finds = λ room. changed-room theory (put_all theta.items) a (may_replace theory theta.items) (replacements_refusal theory theta.items)
          (replacements-other theory theta.items) passes result answers room.drawn;
    }
  where
    passes : replacements_refusal theory theta.items ≡ None → may_replace theory theta.items ≡ true
    passes none =
        required theory (put_all theta.items) (put_all theta.items (image true_term)) (may_replace theory theta.items)
        (inst-drawn theory theta (plain theory) (Ok (plain theory)) (ap (λ (o : Option Fault). or_too_large o true) none, plain-changed theory (put_all theta.items) refl)).drawn

pub room-inst_type : {theory : Theory} {theta : Vec (HolType × HolType) Global} {a : Theorem} {result : Result Theorem Fault}
    → AnswersSuch result (inst_type_refusal theory theta.items a) (IsInstType theory theta.items a)
    → FindsRoom theory (rules.InstType theta) (a ∷ []) result
room-inst_type {theory} {theta} {a} {result} answers =
    record {
      finds = λ room. changed-room theory (instantiate_all theta.items) a (may_replace_types theory theta.items) (type_replacements_refusal theory theta.items)
          (type-replacements-other theory theta.items) passes result answers room.drawn;
    }
  where
    passes : type_replacements_refusal theory theta.items ≡ None → may_replace_types theory theta.items ≡ true
    passes none =
        required theory (instantiate_all theta.items) (instantiate_all theta.items (image true_term)) (may_replace_types theory theta.items)
        (inst_type-drawn theory theta (plain theory) (Ok (plain theory)) (ap (λ (o : Option Fault). or_too_large o true) none, plain-changed theory (instantiate_all theta.items) refl)).drawn
