use Rattle.std.proofs.Common.{take}
use Rattle.hol_check_rules.proofs.HypothesesLemmas.{AreKept}
use Rattle.hol_check_rules.proofs.hypotheses.without.Given as goal

abbrev pub invariant-loop-other : goal.invariant-loop-other
invariant-loop-other l = AreKept l.terms.terms l.term (take l.other-index l.list) l.others.items
