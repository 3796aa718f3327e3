use Rattle.hol_taut_chains.proofs.ChainLemmas.{still_chain_laws}
use Rattle.hol_taut_chains.proofs.pairs.without_pair.Goals as goal

pub carried-requires-clause-law : goal.carried-requires-clause-law
carried-requires-clause-law c =
    (still_chain_laws c.pulled.new.recorder c.pulled_again.new.recorder c.pulled_again.result c.args.laws.now c.pulled_again.ensures.continues
    (still_chain_laws c.args.recorder.now c.pulled.new.recorder c.pulled.result c.args.laws.now c.pulled.ensures.continues c.requires.laws)).paired
