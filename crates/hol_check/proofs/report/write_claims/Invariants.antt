use Rattle.std.proofs.Common.{◌≡◌, take, false}
use Rattle.std.specs.Io.KnownBytes.{Appends}
use Rattle.hol_check.specs.Report.{claim_lines}
use Rattle.hol_check.proofs.report.write_claims.Given as goal

abbrev pub invariant-loop-claim : goal.invariant-loop-claim
invariant-loop-claim g l =
    Appends (g.W.Sink.contents l.fn.writer) (g.W.Sink.contents l.writer) (claim_lines (take l.claim-index l.claims))
    × (g.W.Sink.has_failed l.writer ≡ false)
