use Rattle.hol_check_terms.proofs.TermLemmas.{same_term-same_number}
use Rattle.std.proofs.Common.{sym, subst, ◌<◌, length}
use Rattle.hol_check_terms.specs.Terms.{TermTable}
use Rattle.hol_check_terms.proofs.terms.Terms.is_same.Goals as goal

pub returns : goal.returns
returns c =
    rw (← c.self.view_is)
    (same_term-same_number _ c.args.first c.args.second c.self.invariant.nodes_are.distinct
    (subst (λ (t : TermTable). c.args.first < length t.terms) (sym c.self.view_is) c.requires.first) (subst (λ (t : TermTable). c.args.second < length t.terms) (sym c.self.view_is) c.requires.second))
