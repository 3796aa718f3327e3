use Rattle.hol_conv.proofs.Making.{continued-makes}
use Rattle.hol_conv.proofs.Standing.{continued-stands}
use Rattle.hol_conv.proofs.conversions.rules_conv.Goals as goal

pub returns-clause-makes : goal.returns-clause-makes
returns-clause-makes c = continued-makes c.args.library.now c.rewrite_at.new.recorder c.rewrite_at.result c.requires.library c.rewrite_at.ensures.continues

pub returns-clause-stands : goal.returns-clause-stands
returns-clause-stands c = continued-stands c.rewrite_at.result c.rewrite_at.ensures.continues
