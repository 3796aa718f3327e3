use Rattle.std.proofs.Common.{◌≡◌, ◌∙◌, List, None, false, refl, subst, sym}
use Rattle.hol_model.specs.Terms.NamedTerm.{NamedTerm}
use Rattle.hol_model.specs.Terms.Nameless.{image}
use Rattle.hol_model.specs.Kernel.Instantiation.{replacements_refusal}
use Rattle.hol_model.specs.Derived.DerivedRules.{images}
use Rattle.hol_bool.specs.PreludeInstances.{at_p_q}
use Rattle.hol_bool.proofs.Passing.{unchanged}
use Rattle.hol_taut.specs.LawSteps.{LeadsTo}
use Rattle.hol_taut.proofs.LawLemmas.{leads-fits, leads-derives}
use Rattle.hol_taut.proofs.ProvedLemmas.{proves-shows, derives-proves}
use Rattle.hol_taut.proofs.steps.by_one.Goals as goal

pub by_fitting_lemma-requires-clause-types : goal.by_fitting_lemma-requires-clause-types
by_fitting_lemma-requires-clause-types c = refl

pub by_fitting_lemma-requires-clause-known : goal.by_fitting_lemma-requires-clause-known
by_fitting_lemma-requires-clause-known c =
    let terms_are : c.deref.result.now ≡ at_p_q c.args.p.now c.args.q.now = c.deref.ensures.value ∙ c.in_ok-terms.ensures.ok in
    subst (λ (l : List (NamedTerm × NamedTerm)). replacements_refusal c.args.recorder.now.theory l ≡ None) (sym terms_are) c.requires.leads.leads.may_replace

pub by_fitting_lemma-requires-clause-fits : goal.by_fitting_lemma-requires-clause-fits
by_fitting_lemma-requires-clause-fits c =
    let theory = c.args.recorder.now.theory in
    let premise = c.args.premise.now.theorem in
    let from = image premise.conclusion in
    let to = c.requires.leads.to in
    let terms_are : c.deref.result.now ≡ at_p_q c.args.p.now c.args.q.now = c.deref.ensures.value ∙ c.in_ok-terms.ensures.ok in
    leads-fits theory c.args.law c.deref.result.now false from to (subst (λ (l : List (NamedTerm × NamedTerm)). LeadsTo theory c.args.law l false from to) (sym terms_are) c.requires.leads.leads)
    c.law_theorem-lemma.result.now.theorem premise c.law_theorem-lemma.ensures.theorem refl

pub returns-clause-proves : goal.returns-clause-proves
returns-clause-proves c allowed from to room leads proves =
    let theory = c.args.recorder.now.theory in
    let premise = c.args.premise.now.theorem in
    let terms = c.deref.result.now in
    let terms_are : terms ≡ at_p_q c.args.p.now c.args.q.now = c.deref.ensures.value ∙ c.in_ok-terms.ensures.ok in
    let at_terms : LeadsTo theory c.args.law terms room from to = subst (λ (l : List (NamedTerm × NamedTerm)). LeadsTo theory c.args.law l room from to) (sym terms_are) leads in
    derives-proves room c.by_fitting_lemma.result (images premise) allowed to proves.within
    (leads-derives theory c.args.law terms room from to at_terms c.law_theorem-lemma.result.now.theorem premise c.by_fitting_lemma.result (images premise) c.law_theorem-lemma.ensures.theorem
    (proves-shows premise allowed from proves) (c.by_fitting_lemma.ensures.derives refl at_terms.may_replace))

pub returns-in_err-terms-clause-continues : goal.returns-in_err-terms-clause-continues
returns-in_err-terms-clause-continues c = unchanged c.args.recorder.now c.from_residual.result c.from_residual.ensures.0
