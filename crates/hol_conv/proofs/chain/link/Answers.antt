use Rattle.hol_conv.proofs.chain.link.Goals as goal

pub returns-in-Ok-extended-clause-made : goal.returns-in-Ok-extended-clause-made
returns-in-Ok-extended-clause-made c = record { held = c.in-Ok-extended.ensures.chain; begun = c.in-Ok-extended.ensures.begun c.args.t.now c.requires.chain.begun }
