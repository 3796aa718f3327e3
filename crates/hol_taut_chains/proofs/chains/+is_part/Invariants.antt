use Rattle.hol_model.specs.Terms.NamedTerm.{height}
use Rattle.hol_taut_chains.proofs.chains.+is_part.Given as goal

abbrev pub decreases-is_part : goal.decreases-is_part
decreases-is_part l = height l.chain.now
