use Rattle.hol_check_terms.proofs.TypeLemmas.{no_node}
use Rattle.std.proofs.Common.{sym, subst, ◌<◌, length}
use Rattle.hol_check_terms.specs.Types.{TypeTable}
use Rattle.hol_check_terms.proofs.types.Types.count.Goals as goal

pub returns-in-None-clause-count : goal.returns-in-None-clause-count
returns-in-None-clause-count c =
    absurd
    (no_node c.self.inside.names c.self.inside.nodes.keys c.args.number
    (subst (λ (t : TypeTable). c.args.number < length t.types) (sym c.self.view_is) c.requires) (sym c.in-None.ensures.key))
