use Rattle.std.proofs.Common.{subst, sym}
use Rattle.hol_check_terms.specs.Growth.{IsLonger}
use Rattle.hol_check_terms.proofs.TableLemmas.{IsLonger-same}
use Rattle.hol_check_terms.proofs.TermLemmas.{AreTerms-later, grown-later}
use Rattle.hol_check_terms.proofs.terms.Terms.name.Goals as goal

pub invariant_of-self : goal.invariant_of-self
invariant_of-self c = AreTerms-later c.self.inside.types _ c.self.inside.nodes.keys c.self.inside.typed.entries
    (record { names = c.name.ensures.names; types = subst (IsLonger c.self.inside.types.types) (sym c.name.ensures.types) (IsLonger-same c.self.inside.types.types) }) c.self.invariant

pub returns-clause-grows : goal.returns-clause-grows
returns-clause-grows c = rw (← c.self.view_is) (grown-later c.self.inside.types _ c.self.inside.nodes.keys
    (record { names = c.name.ensures.names; types = subst (IsLonger c.self.inside.types.types) (sym c.name.ensures.types) (IsLonger-same c.self.inside.types.types) }) c.self.invariant.nodes_are)
