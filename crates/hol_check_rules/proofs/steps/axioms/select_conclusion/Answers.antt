use Rattle.std.proofs.Common.{◌∙◌, subst, Err}
use Rattle.std.proofs.lemmas.Result.{err_from_is_err_and}
use Rattle.hol_model.specs.Terms.Nameless.{app}
use Rattle.hol_check_changes.specs.Forming.{IsFormed}
use Rattle.hol_check_terms.proofs.GrowthLemmas.{term-there, IsGrown-trans}
use Rattle.hol_check_terms.proofs.TableLemmas.{is_within}
use Rattle.hol_check_rules.proofs.StepLemmas.{refused-made}
use Rattle.hol_check_rules.proofs.AxiomLemmas.{term-kept, grown-twice}
use Rattle.hol_check_rules.proofs.steps.axioms.select_conclusion.Goals as goal

pub returns-clause-formed : goal.returns-clause-formed
returns-clause-formed c =
    let t1 = c.choice_application.new.terms in
    let t2 = c.select_predicate.new.terms in
    let t3 = c.application.new.terms in
    let chosen = term-kept t1 t2 c.in_ok-chosen.chosen _ c.select_predicate.ensures.grows c.in_ok-chosen.ensures.named.number in
    let predicate = term-there t2.terms c.in_ok-predicate.predicate _ c.in_ok-predicate.ensures.named.number in
    rw (term-there t3.terms c.in_ok-number.number _ c.in_ok-number.ensures.made.number ∙ (λ i. app (predicate i) (chosen i))) at c.within_limits.ensures.formed

pub returns-in_err-number-clause-formed : goal.returns-in_err-number-clause-formed
returns-in_err-number-clause-formed c =
    let t1 = c.choice_application.new.terms in
    let t2 = c.select_predicate.new.terms in
    let t3 = c.application.new.terms in
    let chosen = term-kept t1 t2 c.in_ok-chosen.chosen _ c.select_predicate.ensures.grows c.in_ok-chosen.ensures.named.number in
    let predicate = term-there t2.terms c.in_ok-predicate.predicate _ c.in_ok-predicate.ensures.named.number in
    let fault = c.in_err-number.field-0.0 in
    let p = err_from_is_err_and c.from_residual-in_err-number.result c.from_residual-in_err-number.ensures.1 in
    rw (p.1, p.2) (subst (λ t. IsFormed t (Err fault) t3.terms) (λ i. app (predicate i) (chosen i)) (refused-made _ fault t3.terms c.in_err-number.ensures.made))

pub returns-clause-grows : goal.returns-clause-grows
returns-clause-grows c =
    let earlier = grown-twice c.args.terms.now c.choice_application.new.terms c.select_predicate.new.terms c.application.new.terms c.choice_application.ensures.grows c.select_predicate.ensures.grows
    c.application.ensures.grows in
    IsGrown-trans c.args.terms.now c.application.new.terms c.within_limits.new.terms earlier c.within_limits.ensures.grows

pub returns-in_err-number-clause-grows : goal.returns-in_err-number-clause-grows
returns-in_err-number-clause-grows c = grown-twice c.args.terms.now c.choice_application.new.terms c.select_predicate.new.terms c.application.new.terms
    c.choice_application.ensures.grows c.select_predicate.ensures.grows c.application.ensures.grows

pub within_limits-requires : goal.within_limits-requires
within_limits-requires c = is_within c.application.new.terms.terms c.in_ok-number.number _ c.in_ok-number.ensures.made.number
