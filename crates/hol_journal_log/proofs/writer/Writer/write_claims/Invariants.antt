use Rattle.std.proofs.Common.{◌≡◌, take}
use Rattle.hol_journal_log.specs.LogWriting.{write_claims}
use Rattle.hol_journal_log.specs.Writing.{KeepsNames}
use Rattle.hol_journal_log.specs.Claims.{claims_of}
use Rattle.hol_journal_log.specs.Writer.{written}
use Rattle.hol_journal_log.proofs.writer.Writer.write_claims.Given as goal

abbrev pub invariant-loop-at : goal.invariant-loop-at
invariant-loop-at l =
    (written l.self ≡ write_claims (claims_of (take l.at l.claims)) (written l.initial.self)) × KeepsNames (written l.initial.self) (written l.self)
