use Rattle.std.proofs.Common.{subst}
use Rattle.std.proofs.lemmas.Result.{err_from_is_err_and}
use Rattle.std.specs.Io.KnownBytes.{Appends}
use Rattle.hol_model.specs.Logs.LogState.{LogClaim}
use Rattle.hol_device_io.specs.Bytes.{AppendsFront}
use Rattle.hol_check.specs.Report.{claim_line}
use Rattle.hol_check.proofs.ReportLemmas.{line_written, line_broken}
use Rattle.hol_check.proofs.report.write_claims.Goals as goal

pub loop-claim-preserved : goal.loop-claim-preserved
loop-claim-preserved g c =
    let line = subst (λ (claim : LogClaim). Appends (g.W.Sink.contents c.loop-claim.writer) (g.W.Sink.contents c.write_line.new.writer) (claim_line claim)) c.claim-item.is
    (c.in_ok-write_line.ensures.ok _ c.text_of_claim.ensures.text) in
    (line_written claim_line _ _ _ c.args.claims.now c.loop-claim.claim-index c.claim-item.result c.loop-claim-test.true c.loop-claim.invariant.0 line, c.in_ok-write_line.ensures.unfailed)

pub returns-in_err-write_line-clause-err : goal.returns-in_err-write_line-clause-err
returns-in_err-write_line-clause-err g c =
    let p = err_from_is_err_and c.from_residual.result c.from_residual.ensures.1 in
    let line = subst (λ (claim : LogClaim). AppendsFront (g.W.Sink.contents c.loop-claim.writer) (g.W.Sink.contents c.write_line.new.writer) (claim_line claim)) c.claim-item.is
    (c.in_err-write_line.ensures.err _ c.text_of_claim.ensures.text) in
    rw p.1
    (line_broken claim_line _ _ _ c.args.claims.now c.loop-claim.claim-index c.claim-item.result c.loop-claim-test.true c.loop-claim.invariant.0 line)
