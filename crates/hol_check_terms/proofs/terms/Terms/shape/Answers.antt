use Rattle.hol_check_terms.proofs.TermLemmas.{no_node, term-at}
use Rattle.std.proofs.Common.{sym, subst, ◌<◌, length}
use Rattle.hol_check_terms.specs.Terms.{TermTable}
use Rattle.hol_check_terms.proofs.terms.Terms.shape.Goals as goal

pub returns-in-None-clause-shape : goal.returns-in-None-clause-shape
returns-in-None-clause-shape c =
    absurd
    (no_node c.self.inside.types c.self.inside.nodes.keys c.args.number
    (subst (λ (t : TermTable). c.args.number < length t.terms) (sym c.self.view_is) c.requires) (sym c.in-None.ensures.key))

pub returns-in-Some-clause-shape : goal.returns-in-Some-clause-shape
returns-in-Some-clause-shape c = rw (← c.self.view_is) (term-at c.self.inside.types c.self.inside.nodes.keys c.self.invariant.nodes_are c.args.number c.in-Some.node.now (sym c.in-Some.ensures.key))
