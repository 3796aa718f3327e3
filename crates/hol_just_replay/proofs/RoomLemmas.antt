-- A call that answers TooLarge only where an outcome states it finds room.
use Rattle.std.proofs.Common.{◌≡◌, List, ◌++◌, map, Bool, true, false, not, if◌then◌else◌, sym, ◌∙◌, subst, inl, inr, Option, Some, None, Result, Ok, Err}
use Rattle.std.specs.List.{list_all}
use Rattle.std.proofs.lemmas.List.Folds.{list_all-append}
use Rattle.hol_model.specs.declared.fault.Fault.{Fault}
use Rattle.hol_model.specs.declared.fault.Fault.TheVariants.{TooLarge, NotBool, UnknownType, UnknownConst, NotInstance}
use Rattle.hol_model.specs.Terms.NamedTerm.{NamedTerm}
use Rattle.hol_model.specs.Terms.Nameless.{Nameless}
use Rattle.hol_model.specs.Logic.Theory.{Theory}
use Rattle.hol_model.specs.Logic.KnownTerm.{knows_types, knows_constants, has_instances}
use Rattle.hol_model.specs.Kernel.Outcome.{Answers, unless, given, refused}
use Rattle.hol_model.specs.Kernel.Rules.{first_unknown, is_formula}
use Rattle.hol_model.specs.Kernel.Theorem.{Theorem}
use Rattle.hol_model.specs.Goals.Goals.{Sequent}
use Rattle.hol_model.specs.Goals.Replays.{sequent_of_theorem, terms_of_sequent}
use Rattle.hol_model.specs.Derived.DerivedRules.{Stated, is_roomy, AnswersStated, terms_of_stated}
use Rattle.hol_model.specs.Derived.InferenceRules.{InferenceRule}
use Rattle.hol_model.specs.Derived.Inference.{rule_sequent}
use Rattle.hol_model.proofs.Tests.{both}
use Rattle.hol_laws_steps.proofs.Members.{list_all-fewer}
use Rattle.hol_equal.proofs.DrawnTerms.{StatesDrawn, Draws}
use Rattle.hol_just_replay.specs.Room.{IsNotLarge, are_roomy, HasRoom, FindsRoom}

-- ---- outcomes that refuse nothing for its size

pub fits-unless : {A : Type 0} (test : Bool) (fault : Fault) (next : Result A Fault) → (fault ≡ TooLarge → ⊥) → IsNotLarge next → IsNotLarge (unless test fault next)
fits-unless true fault next other fits = fits
fits-unless false fault next other fits = other

pub fits-given : {A B : Type 0} (found : Option A) (fault : Fault) (next : A → Result B Fault) → (fault ≡ TooLarge → ⊥) → ((x : A) → IsNotLarge (next x)) → IsNotLarge (given found fault next)
fits-given None fault next other fits = other
fits-given (Some x) fault next other fits = fits x

pub fits-refused : {A : Type 0} (theory : Theory) (term : NamedTerm) (next : Result A Fault) → IsNotLarge next → IsNotLarge (refused (first_unknown theory term) next)
fits-refused theory term next fits = go (knows_types theory term) (knows_constants theory term) (has_instances theory term)
  where
    go : (types constants instances : Bool)
        → IsNotLarge (refused (if not types then Some UnknownType else
        (if not constants then Some UnknownConst else (if not instances then Some NotInstance else None))) next)
    go true true true = fits
    go true true false = λ is. cc
    go true false instances = λ is. cc
    go false constants instances = λ is. cc

-- ---- calls that answer an outcome

pub answers-fit : (outcome result : Result Theorem Fault) → Answers result outcome → IsNotLarge outcome → IsNotLarge result
answers-fit outcome (Ok theorem) is fits = tt
answers-fit outcome (Err fault) (inl memory) fits = λ large. cc
answers-fit outcome (Err fault) (inr is) fits = subst (λ (o : Result Theorem Fault). IsNotLarge o) is fits

pub kernel-room : (theory : Theory) (rule : InferenceRule) (premises : List Theorem) (outcome result : Result Theorem Fault)
    → (HasRoom theory rule premises → IsNotLarge outcome) → Answers result outcome
    → FindsRoom theory rule premises result
kernel-room theory rule premises outcome result fits answers = record { finds = λ room. answers-fit outcome result answers (fits room) }

-- an outcome that refuses, and one that states

pub fails-fit : (result : Result Theorem Fault) (arguments : List Nameless) (refusal : Fault) → (refusal ≡ TooLarge → ⊥) → AnswersStated result arguments (Err refusal) → IsNotLarge result
fails-fit (Ok theorem) arguments refusal other answers = tt
fails-fit (Err fault) arguments refusal other (inl memory) = λ large. cc
fails-fit (Err fault) arguments refusal other (inr is) = λ large. other (sym is ∙ large)

pub states-fit : (result : Result Theorem Fault) (arguments : List Nameless) (stated : Stated)
    → list_all is_roomy (arguments ++ terms_of_stated stated) ≡ true → AnswersStated result arguments (Ok stated) → IsNotLarge result
states-fit (Ok theorem) arguments stated roomy answers = tt
states-fit (Err fault) arguments stated roomy (inl memory) = λ large. cc
states-fit (Err fault) arguments stated roomy (inr past) = λ large. let some : list_all is_roomy (arguments ++ terms_of_stated stated) ≡ false = past.1 in cc

-- an outcome that walks a formula and then states
pub walked-states : (theory : Theory) (p : NamedTerm) (result : Result Theorem Fault) (arguments : List Nameless) (stated : Stated) → list_all is_roomy (arguments ++ terms_of_stated stated) ≡ true
    → AnswersStated result arguments (unless (is_formula p) NotBool (refused (first_unknown theory p) (Ok stated))) → IsNotLarge result
walked-states theory p result arguments stated roomy = go (is_formula p) (knows_types theory p) (knows_constants theory p) (has_instances theory p)
  where
    go : (one types constants instances : Bool)
        → AnswersStated result arguments
        (unless one NotBool (refused (if not types then Some UnknownType else
        (if not constants then Some UnknownConst else (if not instances then Some NotInstance else None))) (Ok stated)))
        → IsNotLarge result
    go true true true true = states-fit result arguments stated roomy
    go true true true false = fails-fit result arguments NotInstance (λ is. cc)
    go true true false instances = fails-fit result arguments UnknownConst (λ is. cc)
    go true false constants instances = fails-fit result arguments UnknownType (λ is. cc)
    go false types constants instances = fails-fit result arguments NotBool (λ is. cc)

both-roomy : (arguments : List Nameless) (stated : Stated) (sequent : Sequent) → StatesDrawn (Ok stated) (Some sequent) → are_roomy arguments ≡ true
    → are_roomy (terms_of_sequent (Some sequent)) ≡ true
    → list_all is_roomy (arguments ++ terms_of_stated stated) ≡ true
both-roomy arguments stated sequent is first second =
    list_all-append is_roomy arguments (terms_of_stated stated)
    ∙ both (are_roomy arguments) (are_roomy (terms_of_stated stated)) first
    (list_all-fewer is_roomy (terms_of_stated stated) (terms_of_sequent (Some sequent))
    (λ x m. elim m [ inl same ↦ inl (same ∙ is.conclusion) | inr member ↦ inr (is.hypotheses.to x member) ]) second)

pub stated-room : (theory : Theory) (rule : InferenceRule) (premises : List Theorem) (arguments : List Nameless) (outcome : Result Stated Fault) (result : Result Theorem Fault)
    → Draws theory rule premises outcome → IsNotLarge outcome → (HasRoom theory rule premises → are_roomy arguments ≡ true)
    → AnswersStated result arguments outcome → FindsRoom theory rule premises result
stated-room theory rule premises arguments outcome result draws fits roomy answers = record {
  finds = λ room. go outcome (rule_sequent theory rule (map sequent_of_theorem premises)) result draws fits (roomy room) room.drawn answers;
}
  where
    go : (outcome : Result Stated Fault) (found : Option Sequent) (result : Result Theorem Fault) → StatesDrawn outcome found → IsNotLarge outcome
        → are_roomy arguments ≡ true → are_roomy (terms_of_sequent found) ≡ true
        → AnswersStated result arguments outcome → IsNotLarge result
    go outcome found (Ok theorem) is fit first second states = tt
    go (Ok stated) None (Err fault) is fit first second past = absurd is
    go (Ok stated) (Some sequent) (Err fault) is fit first second (inl memory) = λ large. cc
    go (Ok stated) (Some sequent) (Err fault) is fit first second (inr past) = λ large.
        let all : list_all is_roomy (arguments ++ terms_of_stated stated) ≡ true = both-roomy arguments stated sequent is first second in
        let some : list_all is_roomy (arguments ++ terms_of_stated stated) ≡ false = past.1 in
        cc
    go (Err refusal) found (Err fault) is fit first second (inl memory) = λ large. cc
    go (Err refusal) found (Err fault) is fit first second (inr same) = λ large. fit (sym same ∙ large)
