use Rattle.hol_tactics_meson.proofs.splitting.«+split_into».Given as goal

abbrev pub decreases-split_into : goal.decreases-split_into
decreases-split_into l = l.depth
