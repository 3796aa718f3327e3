use Rattle.hol_tactics_search.proofs.first_order.Terms.«+add_variables».Given as goal

abbrev pub decreases-add_variables : goal.decreases-add_variables
decreases-add_variables l = l.depth
