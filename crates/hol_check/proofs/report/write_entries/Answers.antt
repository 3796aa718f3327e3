use Rattle.std.proofs.Common.{subst}
use Rattle.std.proofs.lemmas.Result.{err_from_is_err_and}
use Rattle.std.specs.Io.KnownBytes.{Appends}
use Rattle.hol_model.specs.Logic.Theory.{Entry}
use Rattle.hol_device_io.specs.Bytes.{AppendsFront}
use Rattle.hol_check.specs.Report.{entry_line}
use Rattle.hol_check.proofs.ReportLemmas.{line_written, line_broken}
use Rattle.hol_check.proofs.report.write_entries.Goals as goal

pub loop-entry-preserved : goal.loop-entry-preserved
loop-entry-preserved g c =
    let line = subst (λ (entry : Entry). Appends (g.W.Sink.contents c.loop-entry.writer) (g.W.Sink.contents c.write_line.new.writer) (entry_line entry)) c.entry-item.is
    (c.in_ok-write_line.ensures.ok _ c.text_of_entry.ensures.text) in
    (line_written entry_line _ _ _ c.args.entries.now c.loop-entry.entry-index c.entry-item.result c.loop-entry-test.true c.loop-entry.invariant.0 line, c.in_ok-write_line.ensures.unfailed)

pub returns-in_err-write_line-clause-err : goal.returns-in_err-write_line-clause-err
returns-in_err-write_line-clause-err g c =
    let p = err_from_is_err_and c.from_residual.result c.from_residual.ensures.1 in
    let line = subst (λ (entry : Entry). AppendsFront (g.W.Sink.contents c.loop-entry.writer) (g.W.Sink.contents c.write_line.new.writer) (entry_line entry)) c.entry-item.is
    (c.in_err-write_line.ensures.err _ c.text_of_entry.ensures.text) in
    rw p.1
    (line_broken entry_line _ _ _ c.args.entries.now c.loop-entry.entry-index c.entry-item.result c.loop-entry-test.true c.loop-entry.invariant.0 line)
