use Rattle.hol_model.specs.Terms.HolType.{type_nodes}
use Rattle.hol_check_review.proofs.types.«+type_of».Given as goal

abbrev pub decreases-type_of : goal.decreases-type_of
decreases-type_of l = type_nodes l.view.now
