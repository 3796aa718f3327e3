use Rattle.hol_conv.proofs.Standing.{stands-later}
use Rattle.hol_conv.proofs.joins.ap_term.Goals as goal

pub returns-clause-stands : goal.returns-clause-stands
returns-clause-stands c = stands-later c.mk_comb.result c.in_ok-same.ensures.makes.continued c.mk_comb.ensures.stands
