use Rattle.std.proofs.Common.{sym, ap, ◌∙◌}
use Rattle.hol_check_terms.specs.Types.{TypeTable}
use Rattle.hol_check_terms.proofs.TypeLemmas.{AreTypeNodes-later, types_of-later}
use Rattle.hol_check_terms.proofs.types.Types.name.Goals as goal

pub invariant_of-self : goal.invariant_of-self
invariant_of-self c = AreTypeNodes-later c.self.inside.names _ c.self.inside.nodes.keys c.number_of.ensures.grows c.self.invariant

pub returns-clause-types : goal.returns-clause-types
returns-clause-types c = sym (types_of-later c.self.inside.names _ c.self.inside.nodes.keys c.number_of.ensures.grows c.self.invariant) ∙ ap (λ (t : TypeTable). t.types) c.self.view_is
