use Rattle.hol_tactics_search.proofs.first_order.Terms.«+is_same».Given as goal

abbrev pub decreases-is_same : goal.decreases-is_same
decreases-is_same l = l.depth
