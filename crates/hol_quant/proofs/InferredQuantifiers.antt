-- A rule of the quantifiers that answers what its outcome states answers what the table of rules draws.
use Rattle.std.proofs.Common.{◌≡◌, [], ◌∷◌, ◌++◌, Some, Result}
use Rattle.hol_model.specs.declared.fault.Fault.{Fault}
use Rattle.hol_model.specs.Terms.HolType.{HolType}
use Rattle.hol_model.specs.Terms.NamedTerm.{NamedTerm, type_of}
use Rattle.hol_model.specs.Terms.Nameless.{image}
use Rattle.hol_model.specs.Logic.Theory.{Theory, IsLegal}
use Rattle.hol_model.specs.Kernel.Theorem.{Theorem}
use Rattle.hol_model.specs.Derived.DerivedRules.{AnswersStated, terms_of_theorem, spec_outcome, gen_outcome, exists_outcome, choose_outcome}
use Rattle.hol_model.specs.declared.rule.Rule.TheVariants as rules
use Rattle.hol_journal.specs.Journal.{Journal}
use Rattle.hol_prelude.specs.HasLogic.{HasLogic}
use Rattle.hol_equal.specs.Inferred.{Infers}
use Rattle.hol_prelude.specs.declared.stored.Bool.{Bool as Stored}
use Rattle.hol_equal.proofs.DrawnTerms.{IsPremise}
use Rattle.hol_equal.proofs.InferredEquality.{infers}
use Rattle.hol_quant.proofs.DrawnQuantifiers.{drawn-spec, drawn-gen, drawn-exists, drawn-choose}

pub infers_spec : {journal : Journal} {logic : Stored} {t : NamedTerm} {ty : HolType} {a : Theorem} {result : Result Theorem Fault}
    → HasLogic journal logic → IsLegal journal.theory → type_of t ≡ Some ty → IsPremise journal.theory a
    → AnswersStated result (image t ∷ terms_of_theorem a) (spec_outcome journal.theory t a) → Infers journal.theory (rules.Spec t) (a ∷ []) result
infers_spec {journal} {logic} {t} {ty} {a} {result} has legal typed premise answers =
    infers journal.theory (rules.Spec t) (a ∷ []) (image t ∷ terms_of_theorem a) (spec_outcome journal.theory t a) result (drawn-spec journal logic has legal t ty a typed premise) answers

pub infers_gen : {theory : Theory} {x : NamedTerm} {a : Theorem} {result : Result Theorem Fault}
    → AnswersStated result (terms_of_theorem a) (gen_outcome theory x a) → Infers theory (rules.Gen x) (a ∷ []) result
infers_gen {theory} {x} {a} {result} answers =
    infers theory (rules.Gen x) (a ∷ []) (terms_of_theorem a) (gen_outcome theory x a) result (drawn-gen theory x a) answers

pub infers_exists : {journal : Journal} {logic : Stored} {e w : NamedTerm} {ty s : HolType} {a : Theorem} {result : Result Theorem Fault}
    → HasLogic journal logic → IsLegal journal.theory → type_of e ≡ Some ty → type_of w ≡ Some s
    → AnswersStated result (image e ∷ image w ∷ terms_of_theorem a) (exists_outcome journal.theory e w a) → Infers journal.theory (rules.Exists e w) (a ∷ []) result
infers_exists {journal} {logic} {e} {w} {ty} {s} {a} {result} has legal typed witness_typed answers =
    infers journal.theory (rules.Exists e w) (a ∷ []) (image e ∷ image w ∷ terms_of_theorem a) (exists_outcome journal.theory e w a) result
    (drawn-exists journal logic has legal e w ty s a typed witness_typed) answers

pub infers_choose : {journal : Journal} {logic : Stored} {v : NamedTerm} {a b : Theorem} {result : Result Theorem Fault} → HasLogic journal logic → IsLegal journal.theory → IsPremise journal.theory a
    → AnswersStated result (image v ∷ terms_of_theorem a ++ terms_of_theorem b) (choose_outcome journal.theory v a b) → Infers journal.theory (rules.Choose v) (a ∷ b ∷ []) result
infers_choose {journal} {logic} {v} {a} {b} {result} has legal premise answers =
    infers journal.theory (rules.Choose v) (a ∷ b ∷ []) (image v ∷ terms_of_theorem a ++ terms_of_theorem b)
    (choose_outcome journal.theory v a b) result (drawn-choose journal logic has legal v a b premise) answers
