use Rattle.std.proofs.lemmas.Result.{err_from_is_err_and}
use Rattle.hol_check.proofs.ReportLemmas.{nothing_written}
use Rattle.hol_check.proofs.report.write_line.Goals as goal

pub returns-in_err-text-clause-err : goal.returns-in_err-text-clause-err
returns-in_err-text-clause-err g c = λ told is.
    let p = err_from_is_err_and c.from_residual.result c.from_residual.ensures.1 in
    rw p.1 (nothing_written _ _)

pub returns-in_err-push-clause-err : goal.returns-in_err-push-clause-err
returns-in_err-push-clause-err g c = λ told is.
    let p = err_from_is_err_and c.from_residual-in_err-push.result c.from_residual-in_err-push.ensures.1 in
    rw p.1 (nothing_written _ _)
