use Rattle.hol_check_terms.proofs.TypeLemmas.{no_node, type-at}
use Rattle.std.proofs.Common.{sym, subst, ◌<◌, length}
use Rattle.hol_check_terms.specs.Types.{TypeTable}
use Rattle.hol_check_terms.proofs.types.Types.shape.Goals as goal

pub returns-in-None-clause-shape : goal.returns-in-None-clause-shape
returns-in-None-clause-shape c =
    absurd
    (no_node c.self.inside.names c.self.inside.nodes.keys c.args.number
    (subst (λ (t : TypeTable). c.args.number < length t.types) (sym c.self.view_is) c.requires) (sym c.in-None.ensures.key))

pub returns-in-Some-clause-shape : goal.returns-in-Some-clause-shape
returns-in-Some-clause-shape c = rw (← c.self.view_is) (type-at c.self.inside.names c.self.inside.nodes.keys c.self.invariant c.args.number c.in-Some.node.now (sym c.in-Some.ensures.key))
