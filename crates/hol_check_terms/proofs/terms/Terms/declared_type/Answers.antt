use Rattle.hol_check_terms.proofs.TermLemmas.{AreTerms-later, grown-later}
use Rattle.hol_check_terms.proofs.terms.Terms.declared_type.Goals as goal

pub invariant_of-self : goal.invariant_of-self
invariant_of-self c = AreTerms-later c.self.inside.types _ c.self.inside.nodes.keys c.self.inside.typed.entries
    (record { names = c.declared.ensures.names; types = c.declared.ensures.grows }) c.self.invariant

pub returns-clause-grows : goal.returns-clause-grows
returns-clause-grows c = rw (← c.self.view_is) (grown-later c.self.inside.types _ c.self.inside.nodes.keys (record { names = c.declared.ensures.names; types = c.declared.ensures.grows })
    c.self.invariant.nodes_are)
