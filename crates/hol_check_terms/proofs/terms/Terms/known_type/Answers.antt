use Rattle.hol_check_terms.proofs.TypedLemmas.{known-type}
use Rattle.hol_check_terms.proofs.terms.Terms.known_type.Goals as goal

pub returns : goal.returns
returns c = rw (← c.self.view_is) (known-type _ _ c.self.inside.typed.entries c.args.number c.recall_type.result c.self.invariant.typed_are c.recall_type.ensures)
