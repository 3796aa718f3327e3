use Rattle.hol_conv.proofs.Making.{continued-makes}
use Rattle.hol_conv.proofs.Standing.{continued-stands}
use Rattle.hol_conv.proofs.joins.refl_known.Goals as goal

pub returns-clause-makes : goal.returns-clause-makes
returns-clause-makes c = continued-makes c.args.library.now c.infer_known.new.self c.infer_known.result c.requires.library c.infer_known.ensures.continues

pub returns-clause-stands : goal.returns-clause-stands
returns-clause-stands c = continued-stands c.infer_known.result c.infer_known.ensures.continues
