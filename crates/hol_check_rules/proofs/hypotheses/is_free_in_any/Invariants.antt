use Rattle.std.proofs.Common.{◌≡◌, drop}
use Rattle.hol_model.specs.Logs.LogFaults.{is_free_in_any}
use Rattle.hol_check_terms.specs.Terms.{term_at}
use Rattle.hol_check_rules.specs.Hypotheses.{terms_in}
use Rattle.hol_check_rules.proofs.hypotheses.is_free_in_any.Given as goal

abbrev pub invariant-loop-number : goal.invariant-loop-number
invariant-loop-number l = is_free_in_any (term_at l.terms.terms l.variable) (terms_in l.terms.terms l.list) ≡ is_free_in_any (term_at l.terms.terms l.variable)
    (terms_in l.terms.terms (drop l.number-index l.list))
