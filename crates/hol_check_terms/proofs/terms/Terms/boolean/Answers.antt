use Rattle.std.proofs.Common.{subst, sym}
use Rattle.hol_check_terms.specs.Growth.{IsLonger}
use Rattle.hol_check_terms.proofs.TableLemmas.{IsLonger-same}
use Rattle.hol_check_terms.proofs.TermLemmas.{AreTerms-later, grown-later}
use Rattle.hol_check_terms.proofs.terms.Terms.boolean.Goals as goal

pub invariant_of-self : goal.invariant_of-self
invariant_of-self c = AreTerms-later c.self.inside.types _ c.self.inside.nodes.keys c.self.inside.typed.entries
    (record { names = subst (IsLonger c.self.inside.types.names) (sym c.boolean.ensures.names) (IsLonger-same c.self.inside.types.names); types = c.boolean.ensures.grows }) c.self.invariant

pub returns-clause-grows : goal.returns-clause-grows
returns-clause-grows c = rw (← c.self.view_is) (grown-later c.self.inside.types _ c.self.inside.nodes.keys
    (record { names = subst (IsLonger c.self.inside.types.names) (sym c.boolean.ensures.names) (IsLonger-same c.self.inside.types.names); types = c.boolean.ensures.grows }) c.self.invariant.nodes_are)
