use Rattle.std.proofs.Common.{◌≡◌, take, false}
use Rattle.std.specs.Io.KnownBytes.{Appends}
use Rattle.hol_check.specs.Report.{entry_lines}
use Rattle.hol_check.proofs.report.write_entries.Given as goal

abbrev pub invariant-loop-entry : goal.invariant-loop-entry
invariant-loop-entry g l =
    Appends (g.W.Sink.contents l.fn.writer) (g.W.Sink.contents l.writer) (entry_lines (take l.entry-index l.entries))
    × (g.W.Sink.has_failed l.writer ≡ false)
