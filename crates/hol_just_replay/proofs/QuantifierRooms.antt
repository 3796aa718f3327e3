-- The rules of the quantifiers find room.
use Rattle.std.proofs.Common.{◌≡◌, ℕ, List, [], ◌∷◌, ◌++◌, Bool, true, false, ◌&&◌, not, Option, Some, None, Result}
use Rattle.hol_model.specs.declared.fault.Fault.{Fault}
use Rattle.hol_model.specs.declared.fault.Fault.TheVariants.{NotAlpha, NotVariable, BadShape, TypeMismatch, UnknownType, FreeInHypothesis}
use Rattle.hol_model.specs.Terms.HolType.{HolType, type_eq}
use Rattle.hol_model.specs.Terms.NamedTerm.{NamedTerm, type_of, dest_variable}
use Rattle.hol_model.specs.Terms.Nameless.{Nameless, image, same_term}
use Rattle.hol_model.specs.Logic.Theory.{Theory, IsLegal}
use Rattle.hol_model.specs.Logic.KnownTerm.{knows_type}
use Rattle.hol_model.specs.Logic.Derivable.{without}
use Rattle.hol_model.specs.Logic.NamedLogic.{Abstracted, forall_term, dest_forall, dest_exists}
use Rattle.hol_model.specs.Kernel.Outcome.{unless, given, refused}
use Rattle.hol_model.specs.Kernel.Rules.{first_unknown}
use Rattle.hol_model.specs.Kernel.Theorem.{Theorem}
use Rattle.hol_model.specs.Derived.DerivedRules.{Stated, is_roomy, images, stated, stated_up_to_names, body_with, is_of_type, is_free_in_some}
use Rattle.hol_model.specs.Derived.DerivedRules.{AnswersStated, terms_of_theorem, spec_outcome, gen_outcome, exists_outcome, choose_outcome}
use Rattle.hol_model.specs.declared.rule.Rule.TheVariants as rules
use Rattle.hol_model.proofs.Tests.{first_of_both, second_of_both, both}
use Rattle.hol_journal.specs.Journal.{Journal}
use Rattle.hol_prelude.specs.HasLogic.{HasLogic}
use Rattle.hol_prelude.specs.declared.stored.Bool.{Bool as Logic}
use Rattle.hol_equal.proofs.DrawnTerms.{IsPremise}
use Rattle.hol_quant.proofs.DrawnQuantifiers.{drawn-spec, drawn-gen, drawn-exists, drawn-choose}
use Rattle.hol_just_replay.specs.Room.{IsNotLarge, are_roomy, HasRoom, FindsRoom}
use Rattle.hol_just_replay.proofs.RoomLemmas.{fits-unless, fits-refused, stated-room}
use Rattle.hol_just_replay.proofs.DerivedRooms.{one-roomy, two-roomy, taken-roomy}

pub room-spec : {journal : Journal} {logic : Logic} {t : NamedTerm} {ty : HolType} {a : Theorem} {result : Result Theorem Fault}
    → HasLogic journal logic → IsLegal journal.theory → type_of t ≡ Some ty → IsPremise journal.theory a
    → AnswersStated result (image t ∷ terms_of_theorem a) (spec_outcome journal.theory t a) → FindsRoom journal.theory (rules.Spec t) (a ∷ []) result
room-spec {journal} {logic} {t} {ty} {a} {result} has legal typed premise answers =
    stated-room journal.theory (rules.Spec t) (a ∷ []) (image t ∷ terms_of_theorem a) (spec_outcome journal.theory t a) result
    (drawn-spec journal logic has legal t ty a typed premise) (go (dest_forall a.conclusion))
    (λ room. taken-roomy t (terms_of_theorem a) room.taken (one-roomy room)) answers
  where
    go : (found : Option Abstracted)
        → IsNotLarge (given found BadShape
        (λ quantified. unless (is_of_type quantified.ty t) TypeMismatch
        (refused (first_unknown journal.theory t) (stated_up_to_names (images a) (body_with quantified t)))))
    go None = λ is. cc
    go (Some quantified) =
        fits-unless (is_of_type quantified.ty t) TypeMismatch (refused (first_unknown journal.theory t) (stated_up_to_names (images a) (body_with quantified t))) (λ is. cc)
        (fits-refused journal.theory t (stated_up_to_names (images a) (body_with quantified t)) tt)

pub room-gen : {theory : Theory} {x : NamedTerm} {a : Theorem} {result : Result Theorem Fault}
    → AnswersStated result (terms_of_theorem a) (gen_outcome theory x a) → FindsRoom theory (rules.Gen x) (a ∷ []) result
room-gen {theory} {x} {a} {result} answers =
    stated-room theory (rules.Gen x) (a ∷ []) (terms_of_theorem a) (gen_outcome theory x a) result (drawn-gen theory x a) (go (dest_variable x)) (λ room. one-roomy room) answers
  where
    meet : (known fresh : Bool) (next : Result Stated Fault) → IsNotLarge next → IsNotLarge (unless known UnknownType (unless fresh FreeInHypothesis next))
    meet true true next fits = fits
    meet true false next fits = λ is. cc
    meet false fresh next fits = λ is. cc

    go : (found : Option (List ℕ × HolType))
        → IsNotLarge (given found NotVariable (λ binder. unless (knows_type theory binder.1) UnknownType (unless (not (is_free_in_some binder.0 binder.1 (images a))) FreeInHypothesis
        (stated (images a) (forall_term binder.0 binder.1 a.conclusion)))))
    go None = λ is. cc
    go (Some (name, ty)) = meet (knows_type theory ty) (not (is_free_in_some name ty (images a))) (stated (images a) (forall_term name ty a.conclusion)) tt

pub room-exists : {journal : Journal} {logic : Logic} {e w : NamedTerm} {ty s : HolType} {a : Theorem} {result : Result Theorem Fault}
    → HasLogic journal logic → IsLegal journal.theory → type_of e ≡ Some ty → type_of w ≡ Some s
    → AnswersStated result (image e ∷ image w ∷ terms_of_theorem a) (exists_outcome journal.theory e w a) → FindsRoom journal.theory (rules.Exists e w) (a ∷ []) result
room-exists {journal} {logic} {e} {w} {ty} {s} {a} {result} has legal typed witness_typed answers =
    stated-room journal.theory (rules.Exists e w) (a ∷ []) (image e ∷ image w ∷ terms_of_theorem a) (exists_outcome journal.theory e w a) result
    (drawn-exists journal logic has legal e w ty s a typed witness_typed) (go (dest_exists e))
    (λ room. both-taken room) answers
  where
    both-taken : HasRoom journal.theory (rules.Exists e w) (a ∷ []) → are_roomy (image e ∷ image w ∷ terms_of_theorem a) ≡ true
    both-taken room =
        let two : (is_roomy (image w) && true) ≡ true = second_of_both (is_roomy (image e)) (is_roomy (image w) && true) room.taken in
        both (is_roomy (image e)) (are_roomy (image w ∷ terms_of_theorem a)) (first_of_both (is_roomy (image e)) (is_roomy (image w) && true) room.taken)
        (taken-roomy w (terms_of_theorem a) two (one-roomy room))

    next : Abstracted → Result Stated Fault
    next quantified = unless (same_term (body_with quantified w) (image a.conclusion)) NotAlpha (stated (images a) e)

    go : (found : Option Abstracted)
        → IsNotLarge (given found BadShape (λ quantified. unless (is_of_type quantified.ty w) TypeMismatch (refused (first_unknown journal.theory e) (refused (first_unknown journal.theory w)
        (unless (same_term (body_with quantified w) (image a.conclusion)) NotAlpha (stated (images a) e))))))
    go None = λ is. cc
    go (Some quantified) =
        fits-unless (is_of_type quantified.ty w) TypeMismatch (refused (first_unknown journal.theory e) (refused (first_unknown journal.theory w) (next quantified))) (λ is. cc)
        (fits-refused journal.theory e (refused (first_unknown journal.theory w) (next quantified)) (fits-refused journal.theory w (next quantified)
        (fits-unless (same_term (body_with quantified w) (image a.conclusion)) NotAlpha (stated (images a) e) (λ is. cc) tt)))

-- the hypotheses that CHOOSE keeps
abbrev others : NamedTerm → Theorem → Abstracted → List Nameless
others v b quantified = without (body_with quantified v) (images b)

pub room-choose : {journal : Journal} {logic : Logic} {v : NamedTerm} {a b : Theorem} {result : Result Theorem Fault} → HasLogic journal logic → IsLegal journal.theory → IsPremise journal.theory a
    → AnswersStated result (image v ∷ terms_of_theorem a ++ terms_of_theorem b) (choose_outcome journal.theory v a b) → FindsRoom journal.theory (rules.Choose v) (a ∷ b ∷ []) result
room-choose {journal} {logic} {v} {a} {b} {result} has legal premise answers =
    stated-room journal.theory (rules.Choose v) (a ∷ b ∷ []) (image v ∷ terms_of_theorem a ++ terms_of_theorem b)
    (choose_outcome journal.theory v a b) result (drawn-choose journal logic has legal v a b premise)
    (go (dest_variable v)) (λ room. taken-roomy v (terms_of_theorem a ++ terms_of_theorem b) room.taken (two-roomy room)) answers
  where
    tests : (same known fresh : Bool) (next : Result Stated Fault) → IsNotLarge next → IsNotLarge (unless same TypeMismatch (unless known UnknownType (unless fresh FreeInHypothesis next)))
    tests true true true next fits = fits
    tests true true false next fits = λ is. cc
    tests true false fresh next fits = λ is. cc
    tests false known fresh next fits = λ is. cc

    meet : (name : List ℕ) (ty : HolType) (found : Option Abstracted)
        → IsNotLarge (given found BadShape (λ quantified. unless (type_eq quantified.ty ty) TypeMismatch (unless (knows_type journal.theory ty) UnknownType
        (unless (not (is_free_in_some name ty (image a.conclusion ∷ image b.conclusion ∷ others v b quantified))) FreeInHypothesis (stated (images a ++ others v b quantified) b.conclusion)))))
    meet name ty None = λ is. cc
    meet name ty (Some quantified) =
        tests (type_eq quantified.ty ty) (knows_type journal.theory ty)
        (not (is_free_in_some name ty (image a.conclusion ∷ image b.conclusion ∷ others v b quantified)))
        (stated (images a ++ others v b quantified) b.conclusion) tt

    go : (found : Option (List ℕ × HolType))
        → IsNotLarge (given found NotVariable
        (λ binder. given (dest_exists a.conclusion) BadShape
        (λ quantified. unless (type_eq quantified.ty binder.1) TypeMismatch (unless (knows_type journal.theory binder.1) UnknownType
        (unless (not (is_free_in_some binder.0 binder.1 (image a.conclusion ∷ image b.conclusion ∷ others v b quantified))) FreeInHypothesis
        (stated (images a ++ others v b quantified) b.conclusion))))))
    go None = λ is. cc
    go (Some (name, ty)) = meet name ty (dest_exists a.conclusion)
