use Rattle.hol_check_terms.proofs.TermLemmas.{no_node}
use Rattle.std.proofs.Common.{sym, subst, ◌<◌, length}
use Rattle.hol_check_terms.specs.Terms.{TermTable}
use Rattle.hol_check_terms.proofs.terms.Terms.binders_needed.Goals as goal

pub returns-in-None : goal.returns-in-None
returns-in-None c =
    absurd
    (no_node c.self.inside.types c.self.inside.nodes.keys c.args.number
    (subst (λ (t : TermTable). c.args.number < length t.terms) (sym c.self.view_is) c.requires) (sym c.in-None.ensures.key))
