use Rattle.holp_goals.proofs.layout.Page.«+lay_out».Given as goal

abbrev pub decreases-lay_out : goal.decreases-lay_out
decreases-lay_out l = l.depth
