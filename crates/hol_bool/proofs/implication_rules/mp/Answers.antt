use Rattle.std.proofs.Common.{◌≡◌, ◌∙◌, ◌∷◌, ◌++◌, true, Option, sym, subst, ap}
use Rattle.hol_model.specs.declared.fault.Fault.TheVariants.{BadShape, NotAlpha}
use Rattle.hol_model.specs.Terms.NamedTerm.{NamedTerm}
use Rattle.hol_model.specs.Terms.Nameless.{Nameless, image, same_term}
use Rattle.hol_model.specs.Logic.Logic as nameless
use Rattle.hol_model.specs.Kernel.Outcome.{given, unless}
use Rattle.hol_model.specs.Kernel.Theorem.{are_alpha_equivalent}
use Rattle.hol_model.specs.Derived.DerivedRules.{images, stated, terms_of_theorem, mp_outcome}
use Rattle.hol_model.proofs.Tests.{same_term-Decides}
use Rattle.hol_equal.specs.Room.{IsSized}
use Rattle.hol_equal.specs.Sequents.{Shows}
use Rattle.hol_equal.proofs.CutLemmas.{shows-itself}
use Rattle.hol_bool.proofs.RuleAnswers.{answered}
use Rattle.hol_bool.proofs.ConjunctionAnswers.{mp-equation-fits, first-roomy, stated-roomy, swapped-set}
use Rattle.hol_bool.proofs.InferredRules.{infers_mp}
use Rattle.hol_bool.proofs.implication_rules.mp.Goals as goal

pub returns-clause-outcome : goal.returns-clause-outcome
returns-clause-outcome c =
    let first = c.args.first.now.theorem in
    let second = c.args.second.now.theorem in
    let a = c.in-Some.sides.left.now in
    let b = c.in-Some.sides.right.now in
    let parts = c.in-Some.ensures.parts in
    let wanted = images first ++ images second in
    let meet : are_alpha_equivalent a second.conclusion ≡ true =
    subst (λ (t : NamedTerm). same_term (image a) (image t) ≡ true) c.conclusion_of.ensures.value (sym c.aconv.ensures.value ∙ c.if-not-aconv.false) in
    let same : image a ≡ image second.conclusion = (same_term-Decides (image a) (image second.conclusion)).0 meet in
    answered c.mp_known.result (terms_of_theorem first ++ terms_of_theorem second) (images second ++ images first) wanted b (mp_outcome first second)
    (ap (λ (o : Option (NamedTerm × NamedTerm)). given o BadShape (λ sides. unless (are_alpha_equivalent sides.0 second.conclusion) NotAlpha (stated wanted sides.1))) (sym c.in-Some.ensures.sides)
    ∙ ap (λ test. unless test NotAlpha (stated wanted b)) meet)
    (swapped-set (images first) (images second))
    (λ room roomy. c.mp_known.ensures.derives (images first) (images second) (image a) room
    (subst (λ (t : Nameless). Shows first (images first) t) (ap image parts.is) (shows-itself first))
    (subst (λ (t : Nameless). Shows second (images second) t) (sym same) (shows-itself second))
    (mp-equation-fits room (image a) (image b) (subst (λ (t : Nameless). room ≡ true → IsSized 1000 5000 t) (ap image parts.is) (first-roomy room first second (image b ∷ wanted) roomy))
    (stated-roomy room (terms_of_theorem first ++ terms_of_theorem second) wanted (image b) roomy)))
    c.mp_known.ensures.names

pub returns-clause-inferred : goal.returns-clause-inferred
returns-clause-inferred c = infers_mp c.requires.logic c.in-Some.ensures.legal c.in-Some.ensures.formula (returns-clause-outcome c)

pub mp_known-requires-clause-fits : goal.mp_known-requires-clause-fits
mp_known-requires-clause-fits c =
    let second = c.args.second.now.theorem.conclusion in
    let a = c.in-Some.sides.left.now in
    let b = c.in-Some.sides.right.now in
    let meet : same_term (image a) (image second) ≡ true =
    subst (λ (t : NamedTerm). same_term (image a) (image t) ≡ true) c.conclusion_of.ensures.value (sym c.aconv.ensures.value ∙ c.if-not-aconv.false) in
    ap image c.in-Some.ensures.parts.is ∙ ap (λ (u : Nameless). nameless.implication u (image b)) ((same_term-Decides (image a) (image second)).0 meet)
