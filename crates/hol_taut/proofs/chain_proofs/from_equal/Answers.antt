use Rattle.hol_taut_chains.proofs.ChainLemmas.{unchanged}
use Rattle.hol_taut.proofs.chain_proofs.from_equal.Goals as goal

pub returns-in_err-made : goal.returns-in_err-made
returns-in_err-made c = record { continues = unchanged c.args.recorder.now c.from_residual.result c.from_residual.ensures.0 }
