use Rattle.hol_model.specs.Terms.Measures.{nameless_nodes}
use Rattle.hol_check_review.proofs.terms.«+term_under».Given as goal

abbrev pub decreases-term_under : goal.decreases-term_under
decreases-term_under l = nameless_nodes l.view.now
