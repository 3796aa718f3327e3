use Rattle.hol_model.specs.Terms.NamedTerm.{height}
use Rattle.hol_taut_chains.proofs.chains.+is_part_twice.Given as goal

abbrev pub decreases-is_part_twice : goal.decreases-is_part_twice
decreases-is_part_twice l = height l.chain.now
