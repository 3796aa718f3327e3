use Rattle.hol_tactics_search.proofs.first_order.Terms.«+renumbered».Given as goal

abbrev pub decreases-renumbered : goal.decreases-renumbered
decreases-renumbered l = l.depth
