use Rattle.std.proofs.lemmas.Result.{err_from_is_err_and}
use Rattle.hol_check_terms.specs.Terms.{term_at}
use Rattle.hol_check_changes.specs.Change.{changed}
use Rattle.hol_check_rules.proofs.StepLemmas.{refused-made}
use Rattle.hol_check_changes.proofs.LimitLemmas.{is-made}
use Rattle.hol_check_rules.proofs.steps.instances.change_within.Goals as goal

pub returns-in_err-new-clause-changed : goal.returns-in_err-new-clause-changed
returns-in_err-new-clause-changed c = λ meaning meant.
    let p = err_from_is_err_and c.from_residual.result c.from_residual.ensures.1 in
    rw (p.1, p.2)
    (refused-made _ c.in_err-new.field-0.0 c.change_whole.new.terms.terms (is-made (changed meaning 0 (term_at c.args.terms.now.terms c.args.number)) _ c.change_whole.new.terms.terms
    (c.in_err-new.ensures.changed meaning meant)))
