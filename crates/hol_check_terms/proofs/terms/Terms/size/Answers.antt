use Rattle.hol_check_terms.proofs.TermLemmas.{no_node}
use Rattle.std.proofs.Common.{sym, subst, ◌<◌, length}
use Rattle.hol_check_terms.specs.Terms.{TermTable}
use Rattle.hol_check_terms.proofs.terms.Terms.size.Goals as goal

pub returns-in-None-clause-height : goal.returns-in-None-clause-height
returns-in-None-clause-height c =
    absurd
    (no_node c.self.inside.types c.self.inside.nodes.keys c.args.number
    (subst (λ (t : TermTable). c.args.number < length t.terms) (sym c.self.view_is) c.requires) (sym c.in-None.ensures.key))

pub returns-in-None-clause-nodes : goal.returns-in-None-clause-nodes
returns-in-None-clause-nodes c =
    absurd
    (no_node c.self.inside.types c.self.inside.nodes.keys c.args.number
    (subst (λ (t : TermTable). c.args.number < length t.terms) (sym c.self.view_is) c.requires) (sym c.in-None.ensures.key))
