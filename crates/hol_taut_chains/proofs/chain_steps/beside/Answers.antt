use Rattle.hol_taut_chains.proofs.ChainLemmas.{unchanged}
use Rattle.hol_taut_chains.proofs.chain_steps.beside.Goals as goal

pub returns-in_err-function : goal.returns-in_err-function
returns-in_err-function c = record { continues = unchanged c.args.recorder.now c.from_residual.result c.from_residual.ensures.0 }
