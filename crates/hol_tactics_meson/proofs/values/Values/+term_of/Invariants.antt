use Rattle.hol_tactics_meson.proofs.values.Values.«+term_of».Given as goal

abbrev pub decreases-term_of : goal.decreases-term_of
decreases-term_of l = l.depth
