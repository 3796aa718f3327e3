use Rattle.hol_taut_chains.proofs.ChainLemmas.{still_negation_laws}
use Rattle.hol_taut_chains.proofs.negations.pulled_out.Goals as goal

pub rewritten_beneath-requires-clause-laws : goal.rewritten_beneath-requires-clause-laws
rewritten_beneath-requires-clause-laws c =
    still_negation_laws c.args.recorder.now c.rewritten.new.recorder c.rewritten.result c.args.laws.now c.rewritten.ensures.continues c.requires.laws

pub rewritten-requires-2-clause-laws : goal.rewritten-requires-2-clause-laws
rewritten-requires-2-clause-laws c =
    still_negation_laws c.rewritten.new.recorder c.rewritten_beneath.new.recorder c.rewritten_beneath.result c.args.laws.now c.rewritten_beneath.ensures.continues
    (still_negation_laws c.args.recorder.now c.rewritten.new.recorder c.rewritten.result c.args.laws.now c.rewritten.ensures.continues c.requires.laws)
