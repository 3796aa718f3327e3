use Rattle.hol_taut_chains.proofs.ChainLemmas.{still_negation_laws}
use Rattle.hol_taut_chains.proofs.negations.denied.Goals as goal

pub rewritten-requires-clause-laws : goal.rewritten-requires-clause-laws
rewritten-requires-clause-laws c =
    still_negation_laws c.args.recorder.now c.beneath.new.recorder c.beneath.result c.args.laws.now c.beneath.ensures.continues c.requires.laws
