use Rattle.std.proofs.Common.{◌∷◌, ◌∙◌, sym, ap}
use Rattle.hol_model.specs.Terms.HolType.{bool_type}
use Rattle.hol_model.specs.Terms.NamedTerm.{is_variable}
use Rattle.hol_model.specs.Terms.Nameless.{image}
use Rattle.hol_model.specs.Terms.Measures.{nameless_within_limits}
use Rattle.hol_model.specs.Logic.Derivable.{nameless_equation}
use Rattle.hol_model.specs.Derived.DerivedRules.{images, terms_of_theorem}
use Rattle.hol_rewrite.proofs.Fresh.{started, instance-past, instance-states, is-renamed, captured-instance, shows-renamed, renamed-room, named-instance}
use Rattle.hol_rewrite.specs.Rules.{are_small}
use Rattle.hol_rewrite.proofs.RoomSteps.{derives-past}
use Rattle.hol_equal.proofs.StepLemmas.{passed_on}
use Rattle.hol_equal.specs.Sequents.{Shows}
use Rattle.hol_bool.proofs.Passing.{unchanged}
use Rattle.hol_quant.proofs.GenAnswers.{formula-shown}
use Rattle.hol_rewrite.proofs.instances.at_fresh_variable.Goals as goal

pub returns-in_err-avoid-clause-continues : goal.returns-in_err-avoid-clause-continues
returns-in_err-avoid-clause-continues c = unchanged c.args.recorder.now c.from_residual.result c.from_residual.ensures.0

pub returns-in_err-fresh-clause-continues : goal.returns-in_err-fresh-clause-continues
returns-in_err-fresh-clause-continues c = unchanged c.args.recorder.now c.from_residual-in_err-fresh.result c.from_residual-in_err-fresh.ensures.0

pub returns-in_err-instance-clause-err : goal.returns-in_err-instance-clause-err
returns-in_err-instance-clause-err c =
    let theory = c.args.recorder.now.theory in
    let premise = c.args.premise.now.theorem in
    let hypotheses = c.args.hypotheses.now in
    let binder = c.in-Some.parts.binder.now in
    let body = c.in-Some.parts.body.now in
    let term = c.in_ok-fresh.fresh in
    let at =
    started theory hypotheses c.deref.result.now premise c.conclusion_of-conclusion.result.now c.in-Some.parts.quantifier.now c.in-Some.parts.predicate.now binder body term c.ty-type.result.now
    c.conclusion_of-conclusion.ensures.value c.in-Some.ensures.whole c.in-Some.ensures.named c.in-Some.ensures.abstraction c.conclusion_of-conclusion.ensures.formula.known c.ty-type.ensures
    (c.deref.ensures.value ∙ c.in_ok-avoid.ensures.ok) c.in_ok-fresh.ensures.outcome.1 in
    rw (passed_on c.from_residual-in_err-instance.result c.in_err-instance.field-0.0 c.from_residual-in_err-instance.ensures.1)
    (instance-past theory hypotheses premise binder body term at c.in_err-instance.field-0.0 c.in_err-instance.ensures.outcome)

pub with_variable_renamed-requires-clause-old : goal.with_variable_renamed-requires-clause-old
with_variable_renamed-requires-clause-old c =
    let theory = c.args.recorder.now.theory in
    let premise = c.args.premise.now.theorem in
    let hypotheses = c.args.hypotheses.now in
    let binder = c.in-Some.parts.binder.now in
    let body = c.in-Some.parts.body.now in
    let term = c.in_ok-fresh.fresh in
    let at =
    started theory hypotheses c.deref.result.now premise c.conclusion_of-conclusion.result.now c.in-Some.parts.quantifier.now c.in-Some.parts.predicate.now binder body term c.ty-type.result.now
    c.conclusion_of-conclusion.ensures.value c.in-Some.ensures.whole c.in-Some.ensures.named c.in-Some.ensures.abstraction c.conclusion_of-conclusion.ensures.formula.known c.ty-type.ensures
    (c.deref.ensures.value ∙ c.in_ok-avoid.ensures.ok) c.in_ok-fresh.ensures.outcome.1 in
    ap is_variable at.binder_is

pub with_variable_renamed-requires-clause-new : goal.with_variable_renamed-requires-clause-new
with_variable_renamed-requires-clause-new c =
    let theory = c.args.recorder.now.theory in
    let premise = c.args.premise.now.theorem in
    let hypotheses = c.args.hypotheses.now in
    let binder = c.in-Some.parts.binder.now in
    let body = c.in-Some.parts.body.now in
    let term = c.in_ok-fresh.fresh in
    let at =
    started theory hypotheses c.deref.result.now premise c.conclusion_of-conclusion.result.now c.in-Some.parts.quantifier.now c.in-Some.parts.predicate.now binder body term c.ty-type.result.now
    c.conclusion_of-conclusion.ensures.value c.in-Some.ensures.whole c.in-Some.ensures.named c.in-Some.ensures.abstraction c.conclusion_of-conclusion.ensures.formula.known c.ty-type.ensures
    (c.deref.ensures.value ∙ c.in_ok-avoid.ensures.ok) c.in_ok-fresh.ensures.outcome.1 in
    ap is_variable at.term_is

pub renamed-requires-clause-same : goal.renamed-requires-clause-same
renamed-requires-clause-same c = sym (c.aconv.ensures.same.0 c.if-aconv.true ∙ ap image c.conclusion_of.ensures.value)

pub renamed-requires-clause-formula : goal.renamed-requires-clause-formula
renamed-requires-clause-formula c =
    let made = c.in_ok-stated.stated in
    let instance = c.in_ok-instance.instance.theorem in
    let same = c.aconv.ensures.same.0 c.if-aconv.true ∙ ap image c.conclusion_of.ensures.value in
    let shown : Shows instance (images instance) (image made) = record { same_set = record { to = λ x m. m; back = λ x m. m }; concludes = sym same } in
    formula-shown c.spec.new.recorder.theory instance (images instance) made shown c.conclusion_of.ensures.formula

pub returns-then-aconv-clause-ok : goal.returns-then-aconv-clause-ok
returns-then-aconv-clause-ok c =
    let theory = c.args.recorder.now.theory in
    let premise = c.args.premise.now.theorem in
    let hypotheses = c.args.hypotheses.now in
    let binder = c.in-Some.parts.binder.now in
    let body = c.in-Some.parts.body.now in
    let term = c.in_ok-fresh.fresh in
    let at =
    started theory hypotheses c.deref.result.now premise c.conclusion_of-conclusion.result.now c.in-Some.parts.quantifier.now c.in-Some.parts.predicate.now binder body term c.ty-type.result.now
    c.conclusion_of-conclusion.ensures.value c.in-Some.ensures.whole c.in-Some.ensures.named c.in-Some.ensures.abstraction c.conclusion_of-conclusion.ensures.formula.known c.ty-type.ensures
    (c.deref.ensures.value ∙ c.in_ok-avoid.ensures.ok) c.in_ok-fresh.ensures.outcome.1 in
    let instance = c.in_ok-instance.instance.theorem in
    let states = instance-states theory hypotheses premise binder body term at instance (image term ∷ terms_of_theorem premise) c.in_ok-instance.ensures.outcome in
    let made = c.in_ok-stated.stated in
    let made_is = is-renamed theory hypotheses premise binder body term at made c.in_ok-stated.ensures.ok in
    let same = c.aconv.ensures.same.0 c.if-aconv.true ∙ ap image c.conclusion_of.ensures.value in
    let fits = nameless_within_limits (nameless_equation bool_type (image made) (image made)) in
    let derives = c.renamed.ensures.derives (images premise) (shows-renamed theory hypotheses premise binder body term at instance made states same) in
    named-instance theory hypotheses premise binder body term at c.renamed.result fits instance made states made_is same c.renamed.ensures.names derives

pub returns-then-aconv-clause-err : goal.returns-then-aconv-clause-err
returns-then-aconv-clause-err c =
    let theory = c.args.recorder.now.theory in
    let premise = c.args.premise.now.theorem in
    let hypotheses = c.args.hypotheses.now in
    let binder = c.in-Some.parts.binder.now in
    let body = c.in-Some.parts.body.now in
    let term = c.in_ok-fresh.fresh in
    let at =
    started theory hypotheses c.deref.result.now premise c.conclusion_of-conclusion.result.now c.in-Some.parts.quantifier.now c.in-Some.parts.predicate.now binder body term c.ty-type.result.now
    c.conclusion_of-conclusion.ensures.value c.in-Some.ensures.whole c.in-Some.ensures.named c.in-Some.ensures.abstraction c.conclusion_of-conclusion.ensures.formula.known c.ty-type.ensures
    (c.deref.ensures.value ∙ c.in_ok-avoid.ensures.ok) c.in_ok-fresh.ensures.outcome.1 in
    let instance = c.in_ok-instance.instance.theorem in
    let states = instance-states theory hypotheses premise binder body term at instance (image term ∷ terms_of_theorem premise) c.in_ok-instance.ensures.outcome in
    let made = c.in_ok-stated.stated in
    let same = c.aconv.ensures.same.0 c.if-aconv.true ∙ ap image c.conclusion_of.ensures.value in
    let fits = nameless_within_limits (nameless_equation bool_type (image made) (image made)) in
    let derives = c.renamed.ensures.derives (images premise) (shows-renamed theory hypotheses premise binder body term at instance made states same) in
    derives-past c.renamed.result fits (are_small premise) (images premise) (image made) (renamed-room theory hypotheses premise binder body term at instance made states same) derives

pub returns-clause-ok : goal.returns-clause-ok
returns-clause-ok c =
    let theory = c.args.recorder.now.theory in
    let premise = c.args.premise.now.theorem in
    let hypotheses = c.args.hypotheses.now in
    let binder = c.in-Some.parts.binder.now in
    let body = c.in-Some.parts.body.now in
    let term = c.in_ok-fresh.fresh in
    let at =
    started theory hypotheses c.deref.result.now premise c.conclusion_of-conclusion.result.now c.in-Some.parts.quantifier.now c.in-Some.parts.predicate.now binder body term c.ty-type.result.now
    c.conclusion_of-conclusion.ensures.value c.in-Some.ensures.whole c.in-Some.ensures.named c.in-Some.ensures.abstraction c.conclusion_of-conclusion.ensures.formula.known c.ty-type.ensures
    (c.deref.ensures.value ∙ c.in_ok-avoid.ensures.ok) c.in_ok-fresh.ensures.outcome.1 in
    let instance = c.in_ok-instance.instance.theorem in
    let states = instance-states theory hypotheses premise binder body term at instance (image term ∷ terms_of_theorem premise) c.in_ok-instance.ensures.outcome in
    let made = c.in_ok-stated.stated in
    let made_is = is-renamed theory hypotheses premise binder body term at made c.in_ok-stated.ensures.ok in
    captured-instance theory hypotheses premise binder body term at instance made states made_is c.aconv.result
    (λ same. c.aconv.ensures.same.1 (same ∙ sym (ap image c.conclusion_of.ensures.value))) c.if-aconv.false
