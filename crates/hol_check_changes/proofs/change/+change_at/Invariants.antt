use Rattle.hol_check_changes.proofs.change.«+change_at».Given as goal

abbrev pub decreases-change_at : goal.decreases-change_at
decreases-change_at l = l.number
