-- What is valid stays so while the theory and the store grow.
use Rattle.std.proofs.Common.{◌≡◌, List, [], ◌∷◌, ◌++◌, Bool, true, false, ◌&&◌, refl, Option, Some, None}
use Rattle.std.specs.Prelude.{slice_get}
use Rattle.std.specs.List.{list_all}
use Rattle.hol_model.specs.Terms.HolType.{HolType}
use Rattle.hol_model.specs.Terms.Nameless.{Nameless}
use Rattle.hol_model.specs.Logic.Theory.{Theory, IsEarlier, IsLegal, IsKnown, IsKnownType}
use Rattle.hol_model.specs.Logic.KnownTerm.{knows_type}
use Rattle.hol_model.specs.Logic.Checks.{knows_nameless}
use Rattle.hol_model.specs.Goals.Goals.{Sequent}
use Rattle.hol_model.specs.Derived.InferenceRules.{InferenceRule}
use Rattle.hol_model.specs.declared.rule.Rule.TheVariants as rules
use Rattle.hol_model.specs.Derived.Inference.{Inference, infer, require, given, drawn, conclusions_of, hypotheses_of, rule_sequent}
use Rattle.hol_model.proofs.Logic.Later.{head_is_new, rest_is_legal, IsKnownType-later, IsKnown-later}
use Rattle.hol_model.proofs.Terms.TypeTests.{knows_type-Decides}
use Rattle.hol_model.proofs.Logic.Checks.{knows_nameless-Decides}
use Rattle.hol_model.proofs.Tests.{first_of_both, second_of_both, both}
use Rattle.hol_model.specs.Goals.Strength.{AnswersAsStrong}
use Rattle.hol_model.specs.Goals.Justifications.{Justification, sub, named, lemma, by_rule, Parts, no_parts, part, NamedSequents, Subgoals, sequent_over, sequents_over, sequent_of}
use Rattle.hol_model.specs.Goals.JustificationLaws.{IsLaterStore, StaysValid}
use Rattle.hol_laws_steps.proofs.FewerHypotheses.{IsAsStrong-self, rules-monotone, AnswerStronger, joined-stronger}
use Rattle.hol_laws_steps.proofs.Validity.{as_strong-achieves}

-- what the earlier theory knows, the later one knows
record KnowsMore (earlier now : Theory) : Type 0 where
  types : (ty : HolType) → knows_type earlier ty ≡ true → knows_type now ty ≡ true
  terms : (term : Nameless) (ty : HolType) → knows_nameless earlier term ty ≡ true → knows_nameless now term ty ≡ true

added-types : (added earlier : Theory) (ty : HolType) → IsKnownType earlier ty → IsKnownType (added ++ earlier) ty
added-types [] earlier ty known = known
added-types (entry ∷ added) earlier ty known = IsKnownType-later entry (added ++ earlier) ty (added-types added earlier ty known)

added-terms : (added earlier : Theory) → IsLegal (added ++ earlier) → (term : Nameless) (ty : HolType) → IsKnown earlier term ty → IsKnown (added ++ earlier) term ty
added-terms [] earlier legal term ty known = known
added-terms (entry ∷ added) earlier legal term ty known =
    IsKnown-later entry (added ++ earlier) (head_is_new entry (added ++ earlier) legal) term ty (added-terms added earlier (rest_is_legal entry (added ++ earlier) legal) term ty known)

knows-more : (earlier now : Theory) → IsEarlier earlier now → IsLegal now → KnowsMore earlier now
knows-more earlier now is_earlier legal = rw is_earlier.is_added (record {
  types = λ ty known. (knows_type-Decides (is_earlier.added ++ earlier) ty).1 (added-types is_earlier.added earlier ty ((knows_type-Decides earlier ty).0 known));
  terms = λ term ty known. (knows_nameless-Decides (is_earlier.added ++ earlier) term ty).1
      (added-terms is_earlier.added earlier (rw is_earlier.is_added at legal) term ty ((knows_nameless-Decides earlier term ty).0 known));
})

-- what is answered is answered again
abbrev IsKept : {A : Type 0} → Option A → Option A → Type 0
IsKept None again = Unit {0}
IsKept (Some x) again = again ≡ Some x

-- what passes the first test passes the second
record IsPassed (first second : Bool) : Type 0 where
  passed : first ≡ true → second ≡ true

kept-self : {A : Type 0} (answer : Option A) → IsKept answer answer
kept-self None = tt
kept-self (Some x) = refl

kept-required : {A : Type 0} (first second : Bool) (answer : Option A) → IsPassed first second → IsKept (require first answer) (require second answer)
kept-required false second answer more = tt
kept-required true second answer more = rw (more.passed refl) (kept-self answer)

kept-given : {A B : Type 0} (found : Option A) (first second : A → Option B) → ((x : A) → IsKept (first x) (second x)) → IsKept (given found first) (given found second)
kept-given None first second each = tt
kept-given (Some x) first second each = each x

passed-self : (test : Bool) → IsPassed test test
passed-self test = record { passed = λ is. is }

passed-both : (a b c d : Bool) → IsPassed a c → IsPassed b d → IsPassed (a && b) (c && d)
passed-both a b c d first second = record { passed = λ is. both c d (first.passed (first_of_both a b is)) (second.passed (second_of_both a b is)) }

passed-all : {A : Type 0} (first second : A → Bool) (xs : List A) → ((x : A) → IsPassed (first x) (second x)) → IsPassed (list_all first xs) (list_all second xs)
passed-all first second [] more = record { passed = λ is. refl }
passed-all first second (x ∷ xs) more = passed-both (first x) (list_all first xs) (second x) (list_all second xs) (more x) (passed-all first second xs more)

-- what a rule makes of its premises' conclusions, it makes over the later theory
module _ (earlier now : Theory) (later : KnowsMore earlier now) where
  passed-type : (ty : HolType) → IsPassed (knows_type earlier ty) (knows_type now ty)
  passed-type ty = record { passed = later.types ty }

  passed-term : (term : Nameless) (ty : HolType) → IsPassed (knows_nameless earlier term ty) (knows_nameless now term ty)
  passed-term term ty = record { passed = later.terms term ty }

  ruleset keeps = (kept-self, kept-given, kept-required, passed-self, passed-both, passed-all, passed-type, passed-term)

  -- a clause for one rule lets the search go through the others one by one
  kept-by_none : (rule : InferenceRule) → IsKept (infer earlier rule []) (infer now rule [])
  kept-by_none rules.EtaAxiom = search keeps
  kept-by_none rule = search keeps

  kept-by_one : (rule : InferenceRule) (a : Nameless) → IsKept (infer earlier rule (a ∷ [])) (infer now rule (a ∷ []))
  kept-by_one rules.EtaAxiom a = search keeps
  kept-by_one rule a = search keeps

  kept-by_two : (rule : InferenceRule) (a b : Nameless) → IsKept (infer earlier rule (a ∷ b ∷ [])) (infer now rule (a ∷ b ∷ []))
  kept-by_two rules.EtaAxiom a b = search keeps
  kept-by_two rule a b = search keeps

  kept-by_three : (rule : InferenceRule) (a b c : Nameless) → IsKept (infer earlier rule (a ∷ b ∷ c ∷ [])) (infer now rule (a ∷ b ∷ c ∷ []))
  kept-by_three rules.EtaAxiom a b c = search keeps
  kept-by_three rule a b c = search keeps

  kept-by_more : (rule : InferenceRule) (a b c d : Nameless) (more : List Nameless) → IsKept (infer earlier rule (a ∷ b ∷ c ∷ d ∷ more)) (infer now rule (a ∷ b ∷ c ∷ d ∷ more))
  kept-by_more rules.EtaAxiom a b c d more = search keeps
  kept-by_more rule a b c d more = search keeps

infer-later : (earlier now : Theory) → KnowsMore earlier now → (rule : InferenceRule) (conclusions : List Nameless) → IsKept (infer earlier rule conclusions) (infer now rule conclusions)
infer-later earlier now later rule [] = kept-by_none earlier now later rule
infer-later earlier now later rule (a ∷ []) = kept-by_one earlier now later rule a
infer-later earlier now later rule (a ∷ b ∷ []) = kept-by_two earlier now later rule a b
infer-later earlier now later rule (a ∷ b ∷ c ∷ []) = kept-by_three earlier now later rule a b c
infer-later earlier now later rule (a ∷ b ∷ c ∷ d ∷ more) = kept-by_more earlier now later rule a b c d more

rule-later : (earlier now : Theory) → KnowsMore earlier now → (rule : InferenceRule) (premises : List Sequent) → AnswersAsStrong (rule_sequent now rule premises) (rule_sequent earlier rule premises)
rule-later earlier now later rule premises =
    go (infer earlier rule (conclusions_of premises)) (infer now rule (conclusions_of premises)) (infer-later earlier now later rule (conclusions_of premises))
  where
    self : (answer : Option Sequent) → AnswersAsStrong answer answer
    self None = tt
    self (Some sequent) = IsAsStrong-self sequent

    go : (first second : Option Inference) → IsKept first second
        → AnswersAsStrong (given second (λ inference. drawn inference (hypotheses_of premises))) (given first (λ inference. drawn inference (hypotheses_of premises)))
    go None second kept = tt
    go (Some inference) second kept = rw kept (self (drawn inference (hypotheses_of premises)))

as_strong-twice : (first second third : Option Sequent) → AnswersAsStrong first second → AnswersAsStrong second third → AnswersAsStrong first third
as_strong-twice first second None one two = tt
as_strong-twice first None (Some c) one two = absurd two
as_strong-twice None (Some b) (Some c) one two = absurd one
as_strong-twice (Some a) (Some b) (Some c) one two =
    record { same_conclusion = λ i. go i; no_more_hypotheses = λ x member. two.no_more_hypotheses x (one.no_more_hypotheses x member) }
  where
    go : a.conclusion ≡ c.conclusion
    go = cc (one.same_conclusion, two.same_conclusion)

by_rule-later : (earlier now : Theory) → KnowsMore earlier now → (rule : InferenceRule) (strongs weaks : Option (List Sequent)) → AnswerStronger strongs weaks
    → AnswersAsStrong (given strongs (rule_sequent now rule)) (given weaks (rule_sequent earlier rule))
by_rule-later earlier now later rule strongs None stronger = tt
by_rule-later earlier now later rule None (Some weaks) stronger = absurd stronger
by_rule-later earlier now later rule (Some strongs) (Some weaks) stronger =
    as_strong-twice (rule_sequent now rule strongs) (rule_sequent now rule weaks) (rule_sequent earlier rule weaks) (rules-monotone now rule strongs weaks stronger)
    (rule-later earlier now later rule weaks)

mutual
  sequent_over-later : (earlier now : Theory) (old new : NamedSequents) → KnowsMore earlier now → IsLaterStore old new → (subgoals : Subgoals) (justification : Justification)
      → AnswersAsStrong (sequent_over now new subgoals justification) (sequent_over earlier old subgoals justification)
  sequent_over-later earlier now old new later stored subgoals (sub i) = self (subgoals i)
    where
      self : (answer : Option Sequent) → AnswersAsStrong answer answer
      self None = tt
      self (Some sequent) = IsAsStrong-self sequent
  sequent_over-later earlier now old new later stored subgoals (named name) = stored.named name
  sequent_over-later earlier now old new later stored subgoals (lemma k) = stored.lemmas k
  sequent_over-later earlier now old new later stored subgoals (by_rule rule parts) =
      by_rule-later earlier now later rule (sequents_over now new subgoals parts) (sequents_over earlier old subgoals parts) (sequents_over-later earlier now old new later stored subgoals parts)

  sequents_over-later : (earlier now : Theory) (old new : NamedSequents) → KnowsMore earlier now → IsLaterStore old new → (subgoals : Subgoals) (parts : Parts)
      → AnswerStronger (sequents_over now new subgoals parts) (sequents_over earlier old subgoals parts)
  sequents_over-later earlier now old new later stored subgoals no_parts = tt
  sequents_over-later earlier now old new later stored subgoals (part first rest) =
      joined-stronger (sequent_over now new subgoals first) (sequent_over earlier old subgoals first) (sequents_over now new subgoals rest) (sequents_over earlier old subgoals rest)
      (sequent_over-later earlier now old new later stored subgoals first) (sequents_over-later earlier now old new later stored subgoals rest)

pub stays-valid : StaysValid
stays-valid earlier now old new is_earlier legal stored goal step valid sequents each =
    as_strong-achieves goal (sequent_of now new sequents step.justification) (sequent_of earlier old sequents step.justification)
    (sequent_over-later earlier now old new (knows-more earlier now is_earlier legal) stored (slice_get sequents) step.justification)
    (valid sequents each)
