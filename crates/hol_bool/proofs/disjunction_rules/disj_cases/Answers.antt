use Rattle.std.proofs.Common.{◌≡◌, ◌∙◌, List, ◌++◌, true, Option, sym, subst, ap, inl, refl}
use Rattle.hol_model.specs.declared.fault.Fault.TheVariants.{BadShape, NotAlpha}
use Rattle.hol_model.specs.Terms.NamedTerm.{NamedTerm}
use Rattle.hol_model.specs.Terms.Nameless.{Nameless, image, same_term}
use Rattle.hol_model.specs.Logic.Derivable.{without}
use Rattle.hol_model.specs.Logic.Logic.{or_name}
use Rattle.hol_model.specs.Logic.NamedLogic.{disjunction}
use Rattle.hol_model.specs.Kernel.Outcome.{given, unless}
use Rattle.hol_model.specs.Kernel.Theorem.{are_alpha_equivalent}
use Rattle.hol_model.specs.Derived.DerivedRules.{images, stated, terms_of_theorem, disj_cases_outcome}
use Rattle.hol_model.proofs.Tests.{same_term-Decides}
use Rattle.hol_equal.specs.Sequents.{Shows}
use Rattle.hol_bool.specs.Disjunctions.{LeavesRoomIf}
use Rattle.hol_equal.proofs.CutLemmas.{shows-itself}
use Rattle.hol_bool.proofs.RuleAnswers.{answered}
use Rattle.hol_bool.proofs.ConjunctionAnswers.{stated-roomy}
use Rattle.hol_bool.proofs.DisjunctionAnswers.{left-leaves, right-leaves, cases-set}
use Rattle.hol_bool.proofs.InferredRules.{infers_disj_cases}
use Rattle.hol_bool.proofs.disjunction_rules.disj_cases.Goals as goal

pub returns-clause-outcome : goal.returns-clause-outcome
returns-clause-outcome c =
    let theorem = c.args.theorem.now.theorem in
    let first = c.args.first.now.theorem in
    let second = c.args.second.now.theorem in
    let p = c.in-Some.sides.left.now in
    let q = c.in-Some.sides.right.now in
    let r = first.conclusion in
    let parts = c.in-Some.ensures.parts in
    let of_first : List Nameless = without (image p) (images first) in
    let of_second : List Nameless = without (image q) (images second) in
    let wanted = images theorem ++ of_first ++ of_second in
    let arguments = terms_of_theorem theorem ++ (terms_of_theorem first ++ terms_of_theorem second) in
    let meet : are_alpha_equivalent r second.conclusion ≡ true =
    (λ i. same_term (image (sym c.conclusion_of.ensures.value i)) (image (sym c.conclusion_of-2.ensures.value i))) ∙ sym c.aconv.ensures.value ∙ c.if-not-aconv.false in
    let same : image r ≡ image second.conclusion = (same_term-Decides (image r) (image second.conclusion)).0 meet in
    answered c.by_cases.result arguments (of_second ++ (of_first ++ images theorem)) wanted r (disj_cases_outcome theorem first second)
    (ap (λ (o : Option (NamedTerm × NamedTerm)).
    given o BadShape (λ sides. unless (are_alpha_equivalent r second.conclusion) NotAlpha
    (stated (images theorem ++ without (image sides.0) (images first) ++ without (image sides.1) (images second)) r)))
    (sym c.in-Some.ensures.sides)
    ∙ ap (λ test. unless test NotAlpha (stated wanted r)) meet)
    (cases-set (images theorem) of_first of_second)
    (λ room roomy.
    let whole : LeavesRoomIf room (image (disjunction p q)) = subst (λ (t : Nameless). LeavesRoomIf room t) (ap image parts.is) (roomy (image theorem.conclusion) (inl refl)) in
    c.by_cases.ensures.derives (images theorem) (images first) (images second) (image r) room
    (subst (λ (t : Nameless). Shows theorem (images theorem) t) (ap image parts.is) (shows-itself theorem))
    (shows-itself first)
    (subst (λ (t : Nameless). Shows second (images second) t) (sym same) (shows-itself second))
    (left-leaves room or_name (image p) (image q) whole) (right-leaves room or_name (image p) (image q) whole)
    (stated-roomy room arguments wanted (image r) roomy))
    c.by_cases.ensures.names

pub returns-clause-inferred : goal.returns-clause-inferred
returns-clause-inferred c = infers_disj_cases c.requires.logic c.in-Some.ensures.legal c.in-Some.ensures.formula (returns-clause-outcome c)

pub by_cases-requires-clause-meet : goal.by_cases-requires-clause-meet
by_cases-requires-clause-meet c =
    let r = c.args.first.now.theorem.conclusion in
    let s = c.args.second.now.theorem.conclusion in
    let meet : are_alpha_equivalent r s ≡ true =
    (λ i. same_term (image (sym c.conclusion_of.ensures.value i)) (image (sym c.conclusion_of-2.ensures.value i))) ∙ sym c.aconv.ensures.value ∙ c.if-not-aconv.false in
    (same_term-Decides (image r) (image s)).0 meet
