use Rattle.std.specs.List.{list_all}
use Rattle.hol_model.specs.Terms.NamedTerm.{is_within_limits}
use Rattle.hol_model.proofs.Tests.{first_of_both, second_of_both}
use Rattle.hol_journal_log.proofs.PrunedLemmas.{formulas_within}
use Rattle.hol_journal_log.proofs.fitting.formulas_fit.Goals as goal

pub returns : goal.returns
returns c =
    let theorem = c.args.theorem.now in
    let within = c.well_formed-2.ensures.within_limits in
    formulas_within theorem theorem.theory c.well_formed-2.ensures.is_theorem (rw c.concl-conclusion.ensures.value at c.concl-conclusion.ensures.known)
    (first_of_both (is_within_limits theorem.conclusion) (list_all is_within_limits theorem.hypotheses) within)
    (rw c.hyps-hypotheses.ensures.value at c.hyps-hypotheses.ensures.known)
    (second_of_both (is_within_limits theorem.conclusion) (list_all is_within_limits theorem.hypotheses) within)
