use Rattle.hol_check_rules.proofs.InstanceLemmas.{AreReplacedSoFar}
use Rattle.hol_check_rules.proofs.steps.instances.are_replacements.Given as goal

abbrev pub invariant-loop-pair : goal.invariant-loop-pair
invariant-loop-pair l = AreReplacedSoFar l.fn.terms l.terms l.pairs l.pair-index
