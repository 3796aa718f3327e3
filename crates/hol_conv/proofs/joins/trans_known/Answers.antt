use Rattle.hol_conv.proofs.Making.{continued-makes}
use Rattle.hol_conv.proofs.Meeting.{meets-fits}
use Rattle.hol_conv.proofs.Standing.{continued-stands}
use Rattle.hol_conv.proofs.joins.trans_known.Goals as goal

pub infer_known-requires-clause-fits : goal.infer_known-requires-clause-fits
infer_known-requires-clause-fits c =
    meets-fits c.args.library.now.recorder.theory c.conclusion_of-first.ensures.legal c.args.first.now.theorem c.args.second.now.theorem
    c.conclusion_of-first.ensures.formula c.conclusion_of-second.ensures.formula c.requires.meets

pub returns-clause-makes : goal.returns-clause-makes
returns-clause-makes c = continued-makes c.args.library.now c.infer_known.new.self c.infer_known.result c.requires.library c.infer_known.ensures.continues

pub returns-clause-stands : goal.returns-clause-stands
returns-clause-stands c = continued-stands c.infer_known.result c.infer_known.ensures.continues
