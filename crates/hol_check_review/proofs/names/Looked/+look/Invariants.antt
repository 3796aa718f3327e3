use Rattle.hol_model.specs.Terms.Measures.{nameless_nodes}
use Rattle.hol_check_review.proofs.names.Looked.«+look».Given as goal

abbrev pub decreases-look : goal.decreases-look
decreases-look l = nameless_nodes l.view.now
