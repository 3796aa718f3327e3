use Rattle.hol_conv.proofs.Making.{continued-makes}
use Rattle.hol_conv.proofs.Standing.{continued-stands}
use Rattle.hol_conv.proofs.conversions.beta_conv.Goals as goal

pub returns-clause-makes : goal.returns-clause-makes
returns-clause-makes c = continued-makes c.args.library.now c.beta_conv.new.recorder c.beta_conv.result c.requires.library c.beta_conv.ensures.continues

pub returns-clause-stands : goal.returns-clause-stands
returns-clause-stands c = continued-stands c.beta_conv.result c.beta_conv.ensures.continues
