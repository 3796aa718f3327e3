-- Fewer hypotheses of the premises, no more of the conclusion: of each rule, and of justifications.
use Rattle.std.proofs.Common.{◌≡◌, ℕ, zero, suc, List, [], ◌∷◌, ◌++◌, map, Bool, true, false, not, refl, sym, subst, Option, Some, None, if◌then◌else◌}
use Rattle.std.specs.Prelude.{slice_get}
use Rattle.std.specs.Option.{option_map}
use Rattle.hol_model.specs.Terms.NamedTerm.{Binder}
use Rattle.hol_model.specs.Terms.Nameless.{Nameless}
use Rattle.hol_model.specs.Terms.Substitution.{occurs_free}
use Rattle.hol_model.specs.Logic.Theory.{Theory}
use Rattle.hol_model.specs.Goals.Goals.{Sequent}
use Rattle.hol_model.specs.Goals.Strength.{Includes, IsAsStrong, AreAsStrong, AnswersAsStrong}
use Rattle.hol_model.specs.Derived.InferenceRules.{InferenceRule}
use Rattle.hol_model.specs.Derived.Inference.{Passing, Inference, infer, drawn, given, passed, passed_of_one, is_wanted, without_some, is_free_in_none, conclusions_of, hypotheses_of, rule_sequent}
use Rattle.hol_model.specs.Goals.Justifications.{Justification, sub, named, lemma, by_rule, Parts, no_parts, part, NamedSequents, Subgoals, joined, sequent_over, sequents_over}
use Rattle.hol_model.specs.Goals.JustificationLaws.{RulesAreMonotone, IsMonotone}
use Rattle.hol_laws_steps.proofs.Members.{Includes-append, Includes-map, Includes-without, list_all-fewer, is_among-more}

pub IsAsStrong-self : (sequent : Sequent) → IsAsStrong sequent sequent
IsAsStrong-self sequent = record { same_conclusion = refl; no_more_hypotheses = λ x member. member }

-- what passes of a premise

without_some-fewer : (term : Option Nameless) (a b : List Nameless) → Includes a b → Includes (without_some term a) (without_some term b)
without_some-fewer None a b included = included
without_some-fewer (Some term) a b included = Includes-without term a b included

is_free_in_none-fewer : (binder : Option Binder) (a b : List Nameless) → Includes a b → is_free_in_none binder b ≡ true → is_free_in_none binder a ≡ true
is_free_in_none-fewer None a b included passed = refl
is_free_in_none-fewer (Some binder) a b included passed = list_all-fewer (λ term. not (occurs_free binder.0 binder.1 term)) a b included passed

-- one by one included
abbrev pub IncludeEach : List (List Nameless) → List (List Nameless) → Type 0
IncludeEach [] [] = Unit {0}
IncludeEach (a ∷ as_rest) (b ∷ bs_rest) = Includes a b × IncludeEach as_rest bs_rest
IncludeEach _ _ = ⊥

is_wanted-more : (term : Option Nameless) (fewer more : List (List Nameless)) → IncludeEach fewer more → is_wanted term fewer ≡ true → is_wanted term more ≡ true
is_wanted-more None fewer more included wanted = refl
is_wanted-more (Some term) [] more included wanted = cc
is_wanted-more (Some term) (a ∷ fewer) [] included wanted = absurd included
is_wanted-more (Some term) (a ∷ fewer) (b ∷ more) included wanted = is_among-more term a b included.0 wanted

passed_of_one-fewer : (passing : Passing) (a b : List Nameless) (fewer more : List (List Nameless)) → Includes a b → IncludeEach fewer more
    → Includes (passed_of_one passing a fewer) (passed_of_one passing b more)
passed_of_one-fewer passing a b fewer more included each =
    go (is_wanted passing.wanted fewer) (is_wanted passing.wanted more) (is_wanted-more passing.wanted fewer more each)
  where
    go : (first second : Bool) → (first ≡ true → second ≡ true)
        → Includes (if first then map passing.change (without_some passing.dropped a) else []) (if second then map passing.change (without_some passing.dropped b) else [])
    go true true wanted = Includes-map passing.change (without_some passing.dropped a) (without_some passing.dropped b) (without_some-fewer passing.dropped a b included)
    go true false wanted = let wrong : false ≡ true = wanted refl in cc
    go false second wanted = λ x member. absurd member

-- the first list is there wherever the second is, and included in it
abbrev IncludedAnswer : Option (List Nameless) → Option (List Nameless) → Type 0
IncludedAnswer fewer None = Unit {0}
IncludedAnswer None (Some more) = ⊥
IncludedAnswer (Some fewer) (Some more) = Includes fewer more

passed-fewer : (passing : List Passing) (fewer more : List (List Nameless)) → IncludeEach fewer more → IncludedAnswer (passed passing fewer) (passed passing more)
passed-fewer [] [] [] included = λ x member. member
passed-fewer [] [] (b ∷ more) included = absurd included
passed-fewer [] (a ∷ fewer) [] included = absurd included
passed-fewer [] (a ∷ fewer) (b ∷ more) included = tt
passed-fewer (passing ∷ rest) [] [] included = tt
passed-fewer (passing ∷ rest) [] (b ∷ more) included = absurd included
passed-fewer (passing ∷ rest) (a ∷ fewer) [] included = absurd included
passed-fewer (passing ∷ rest) (a ∷ fewer) (b ∷ more) included =
    go (is_free_in_none passing.fresh (without_some passing.dropped a)) (is_free_in_none passing.fresh (without_some passing.dropped b))
    (is_free_in_none-fewer passing.fresh (without_some passing.dropped a) (without_some passing.dropped b) (without_some-fewer passing.dropped a b included.0))
    (passed rest fewer) (passed rest more) (passed-fewer rest fewer more included.1)
  where
    go : (first second : Bool) → (second ≡ true → first ≡ true) → (others_fewer others_more : Option (List Nameless)) → IncludedAnswer others_fewer others_more
        → IncludedAnswer (if first then option_map (λ others. passed_of_one passing a fewer ++ others) others_fewer else None)
        (if second then option_map (λ others. passed_of_one passing b more ++ others) others_more else None)
    go first false fresh others_fewer others_more deeper = tt
    go false true fresh others_fewer others_more deeper = let wrong : false ≡ true = fresh refl in cc
    go true true fresh others_fewer None deeper = tt
    go true true fresh None (Some d) deeper = absurd deeper
    go true true fresh (Some c) (Some d) deeper =
        Includes-append (passed_of_one passing a fewer) (passed_of_one passing b more) c d (passed_of_one-fewer passing a b fewer more included.0 included.1) deeper

-- the rules

hypotheses-include : (strongs weaks : List Sequent) → AreAsStrong strongs weaks → IncludeEach (hypotheses_of strongs) (hypotheses_of weaks)
hypotheses-include [] [] stronger = tt
hypotheses-include [] (weak ∷ weaks) stronger = absurd stronger
hypotheses-include (strong ∷ strongs) [] stronger = absurd stronger
hypotheses-include (strong ∷ strongs) (weak ∷ weaks) stronger = (stronger.0.no_more_hypotheses, hypotheses-include strongs weaks stronger.1)

conclusions-same : (strongs weaks : List Sequent) → AreAsStrong strongs weaks → conclusions_of strongs ≡ conclusions_of weaks
conclusions-same [] [] stronger = refl
conclusions-same [] (weak ∷ weaks) stronger = absurd stronger
conclusions-same (strong ∷ strongs) [] stronger = absurd stronger
conclusions-same (strong ∷ strongs) (weak ∷ weaks) stronger = cc (stronger.0.same_conclusion, conclusions-same strongs weaks stronger.1)

drawn-stronger : (inference : Inference) (strongs weaks : List Sequent) → AreAsStrong strongs weaks
    → AnswersAsStrong (drawn inference (hypotheses_of strongs)) (drawn inference (hypotheses_of weaks))
drawn-stronger inference strongs weaks stronger =
    go (passed inference.passing (hypotheses_of strongs)) (passed inference.passing (hypotheses_of weaks))
    (passed-fewer inference.passing (hypotheses_of strongs) (hypotheses_of weaks) (hypotheses-include strongs weaks stronger))
  where
    go : (fewer more : Option (List Nameless)) → IncludedAnswer fewer more
        → AnswersAsStrong (option_map (λ others. record { hypotheses = inference.supposed ++ others; conclusion = inference.conclusion }) fewer)
        (option_map (λ others. record { hypotheses = inference.supposed ++ others; conclusion = inference.conclusion }) more)
    go fewer None included = tt
    go None (Some b) included = absurd included
    go (Some a) (Some b) included = record { same_conclusion = refl; no_more_hypotheses = Includes-append inference.supposed inference.supposed a b (λ x member. member) included }

pub rules-monotone : RulesAreMonotone
rules-monotone theory rule strongs weaks stronger =
    subst (λ (conclusions : List Nameless). AnswersAsStrong (given (infer theory rule conclusions) (λ inference. drawn inference (hypotheses_of strongs))) (rule_sequent theory rule weaks))
    (sym (conclusions-same strongs weaks stronger))
    (go (infer theory rule (conclusions_of weaks)))
  where
    go : (found : Option Inference) → AnswersAsStrong (given found (λ inference. drawn inference (hypotheses_of strongs))) (given found (λ inference. drawn inference (hypotheses_of weaks)))
    go None = tt
    go (Some inference) = drawn-stronger inference strongs weaks stronger

-- justifications

-- the premises are there wherever others are, and one by one as strong
abbrev pub AnswerStronger : Option (List Sequent) → Option (List Sequent) → Type 0
AnswerStronger strongs None = Unit {0}
AnswerStronger None (Some weaks) = ⊥
AnswerStronger (Some strongs) (Some weaks) = AreAsStrong strongs weaks

pub joined-stronger : (strong weak : Option Sequent) (strongs weaks : Option (List Sequent)) → AnswersAsStrong strong weak → AnswerStronger strongs weaks
    → AnswerStronger (joined strong strongs) (joined weak weaks)
joined-stronger strong None strongs weaks first rest = tt
joined-stronger None (Some w) strongs None first rest = tt
joined-stronger None (Some w) strongs (Some ws) first rest = absurd first
joined-stronger (Some s) (Some w) strongs None first rest = tt
joined-stronger (Some s) (Some w) None (Some ws) first rest = absurd rest
joined-stronger (Some s) (Some w) (Some ss) (Some ws) first rest = (first, rest)

by_rule-stronger : (theory : Theory) (rule : InferenceRule) (strongs weaks : Option (List Sequent)) → AnswerStronger strongs weaks
    → AnswersAsStrong (given strongs (rule_sequent theory rule)) (given weaks (rule_sequent theory rule))
by_rule-stronger theory rule strongs None stronger = tt
by_rule-stronger theory rule None (Some weaks) stronger = absurd stronger
by_rule-stronger theory rule (Some strongs) (Some weaks) stronger = rules-monotone theory rule strongs weaks stronger

AnswersAsStrong-self : (answer : Option Sequent) → AnswersAsStrong answer answer
AnswersAsStrong-self None = tt
AnswersAsStrong-self (Some sequent) = IsAsStrong-self sequent

-- each subgoal's sequent is there wherever the other's is, and as strong
abbrev pub SubgoalsStronger : Subgoals → Subgoals → Type 0
SubgoalsStronger strongs weaks = (i : ℕ) → AnswersAsStrong (strongs i) (weaks i)

mutual
  pub sequent_over-stronger : (theory : Theory) (store : NamedSequents) (strongs weaks : Subgoals) → SubgoalsStronger strongs weaks
      → (justification : Justification) → AnswersAsStrong (sequent_over theory store strongs justification) (sequent_over theory store weaks justification)
  sequent_over-stronger theory store strongs weaks stronger (sub i) = stronger i
  sequent_over-stronger theory store strongs weaks stronger (named name) = AnswersAsStrong-self (store.named name)
  sequent_over-stronger theory store strongs weaks stronger (lemma k) = AnswersAsStrong-self (slice_get store.lemmas k)
  sequent_over-stronger theory store strongs weaks stronger (by_rule rule parts) =
      by_rule-stronger theory rule (sequents_over theory store strongs parts) (sequents_over theory store weaks parts) (sequents_over-stronger theory store strongs weaks stronger parts)

  sequents_over-stronger : (theory : Theory) (store : NamedSequents) (strongs weaks : Subgoals) → SubgoalsStronger strongs weaks
      → (parts : Parts) → AnswerStronger (sequents_over theory store strongs parts) (sequents_over theory store weaks parts)
  sequents_over-stronger theory store strongs weaks stronger no_parts = tt
  sequents_over-stronger theory store strongs weaks stronger (part first rest) =
      joined-stronger (sequent_over theory store strongs first) (sequent_over theory store weaks first) (sequents_over theory store strongs rest) (sequents_over theory store weaks rest)
      (sequent_over-stronger theory store strongs weaks stronger first) (sequents_over-stronger theory store strongs weaks stronger rest)

slice_get-stronger : (strongs weaks : List Sequent) → AreAsStrong strongs weaks → SubgoalsStronger (slice_get strongs) (slice_get weaks)
slice_get-stronger [] [] stronger i = tt
slice_get-stronger [] (weak ∷ weaks) stronger i = absurd stronger
slice_get-stronger (strong ∷ strongs) [] stronger i = absurd stronger
slice_get-stronger (strong ∷ strongs) (weak ∷ weaks) stronger zero = stronger.0
slice_get-stronger (strong ∷ strongs) (weak ∷ weaks) stronger (suc i) = slice_get-stronger strongs weaks stronger.1 i

pub justifications-monotone : IsMonotone
justifications-monotone theory store strongs weaks stronger justification =
    sequent_over-stronger theory store (slice_get strongs) (slice_get weaks) (slice_get-stronger strongs weaks stronger) justification
