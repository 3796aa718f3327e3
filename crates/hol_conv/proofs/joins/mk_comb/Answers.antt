use Rattle.hol_conv.proofs.Making.{continued-makes}
use Rattle.hol_conv.proofs.Standing.{continued-stands}
use Rattle.hol_conv.proofs.joins.mk_comb.Goals as goal

pub returns-clause-makes : goal.returns-clause-makes
returns-clause-makes c = continued-makes c.args.library.now c.infer.new.self c.infer.result c.requires.library c.infer.ensures.continues

pub returns-clause-stands : goal.returns-clause-stands
returns-clause-stands c = continued-stands c.infer.result c.infer.ensures.continues
