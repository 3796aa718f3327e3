use Rattle.std.proofs.Common.{take}
use Rattle.hol_journal_log.specs.Claims.{claims_of}
use Rattle.hol_journal_log.specs.Pruning.{AreFitting}
use Rattle.hol_journal_log.proofs.pruning.claims_fit.Given as goal

abbrev pub invariant-loop-at : goal.invariant-loop-at
invariant-loop-at l = AreFitting (claims_of (take l.at l.claims))
