use Rattle.std.proofs.lemmas.Result.{err_from_is_err_and}
use Rattle.hol_model.specs.Logs.LogSequents.{abstraction_over}
use Rattle.hol_check_terms.specs.Terms.{term_at}
use Rattle.hol_check_terms.proofs.TableLemmas.{is_within}
use Rattle.hol_check_changes.proofs.forming.equation_of_abstractions.Goals as goal
use Rattle.hol_check_terms.proofs.GrowthLemmas.{term-grown}
use Rattle.hol_check_changes.proofs.FormingLemmas.{right-refused}

pub returns-in_err-right-clause-formed : goal.returns-in_err-right-clause-formed
returns-in_err-right-clause-formed c =
    let t0 = c.args.terms.now in
    let t1 = c.abstraction_over.new.terms in
    let variable = is_within t0.terms c.args.variable _ c.requires.variable.is_free in
    let made = rw (term-grown t0 t1 c.args.variable c.abstraction_over.ensures.grows variable, term-grown t0 t1 c.args.right c.abstraction_over.ensures.grows c.requires.right)
    at c.in_err-right.ensures.made in
    let p = err_from_is_err_and c.from_residual-in_err-right.result c.from_residual-in_err-right.ensures.1 in
    rw (p.1, p.2)
    (right-refused (abstraction_over (term_at t0.terms c.args.variable) (term_at t0.terms c.args.left)) _ c.in_err-right.field-0.0 c.abstraction_over-2.new.terms.terms made)
