use Rattle.std.proofs.Common.{Ok}
use Rattle.hol_conv.proofs.Making.{continued-makes}
use Rattle.hol_conv.proofs.Standing.{continued-stands}
use Rattle.hol_conv.proofs.joins.abs.Goals as goal

pub returns-in-Ok-clause-makes : goal.returns-in-Ok-clause-makes
returns-in-Ok-clause-makes c = continued-makes c.args.library.now c.infer.new.self (Ok c.in-Ok.made) c.requires.library c.in-Ok.ensures.continues

pub returns-in-Ok-clause-stands : goal.returns-in-Ok-clause-stands
returns-in-Ok-clause-stands c = continued-stands (Ok c.in-Ok.made) c.in-Ok.ensures.continues
