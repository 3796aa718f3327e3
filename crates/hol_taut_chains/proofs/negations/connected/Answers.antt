use Rattle.hol_taut_chains.proofs.ChainLemmas.{still_negation_laws}
use Rattle.hol_taut_chains.proofs.negations.connected.Goals as goal

pub pulled_out-requires-clause-laws : goal.pulled_out-requires-clause-laws
pulled_out-requires-clause-laws c =
    still_negation_laws c.args.recorder.now c.joined.new.recorder c.joined.result c.args.laws.now c.joined.ensures.continues c.requires.laws
