use Rattle.hol_tactics_meson.proofs.splitting.«+is_quantified».Given as goal

abbrev pub decreases-is_quantified : goal.decreases-is_quantified
decreases-is_quantified l = l.depth
