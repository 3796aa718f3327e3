use Rattle.std.proofs.lemmas.Result.{err_from_is_err_and}
use Rattle.hol_check_terms.specs.Terms.{term_at}
use Rattle.hol_check_terms.proofs.TableLemmas.{is_within}
use Rattle.hol_check_changes.proofs.FormingLemmas.{made-abstraction, refused-abstraction}
use Rattle.hol_check_changes.proofs.forming.abstraction_over.Goals as goal

pub abstraction-requires-clause-body : goal.abstraction-requires-clause-body
abstraction-requires-clause-body c =
    let v = c.requires.variable in
    is_within _ c.in_ok-body.body _ (c.in_ok-body.ensures.closed v.name v.ty v.is_free).number

pub returns-clause-made : goal.returns-clause-made
returns-clause-made c =
    let v = c.requires.variable in
    made-abstraction c.args.terms.now c.close.new.terms c.args.variable c.variable_type-ty.result c.in_ok-body.body (term_at c.args.terms.now.terms c.args.number) v.name v.ty c.abstraction.result
    c.abstraction.new.self.terms
    v.is_free c.variable_type-ty.ensures.ty c.variable_type-ty.ensures.within c.in_ok-body.ensures.grows (c.in_ok-body.ensures.closed v.name v.ty v.is_free) c.abstraction.ensures.number
    c.abstraction.ensures.refused

pub returns-in_err-body-clause-made : goal.returns-in_err-body-clause-made
returns-in_err-body-clause-made c =
    let v = c.requires.variable in
    let p = err_from_is_err_and c.from_residual.result c.from_residual.ensures.1 in
    rw (p.1, p.2)
    (refused-abstraction c.args.terms.now.terms c.close.new.terms.terms c.args.variable (term_at c.args.terms.now.terms c.args.number) v.name v.ty c.in_err-body.field-0.0 v.is_free
    (c.in_err-body.ensures.closed v.name v.ty v.is_free))
