use Rattle.hol_check.proofs.LogAnswerLemmas.{unread_at_first, passed_on, failure_passed, input_passed}
use Rattle.hol_check.proofs.log_reader.read_log.Goals as goal

pub returns-in_err-log-clause-refused : goal.returns-in_err-log-clause-refused
returns-in_err-log-clause-refused g c =
    let first = unread_at_first (g.R.Source.remaining c.args.reader.now) c.new-reading.result c.new-reading.ensures.pending c.new-reading.ensures.given in
    input_passed c.from_residual.result c.in_err-log.field-0.0 _ _ c.from_residual.ensures.1 (c.in_err-log.ensures.refused _ first)

pub returns-clause-accepted : goal.returns-clause-accepted
returns-clause-accepted g c =
    let first = unread_at_first (g.R.Source.remaining c.args.reader.now) c.new-reading.result c.new-reading.ensures.pending c.new-reading.ensures.given in
    c.in_ok-read_lines.ensures.accepted _ (c.in_ok-log.ensures.begun _ first)

pub returns-in_err-read_lines-clause-refused : goal.returns-in_err-read_lines-clause-refused
returns-in_err-read_lines-clause-refused g c =
    let first = unread_at_first (g.R.Source.remaining c.args.reader.now) c.new-reading.result c.new-reading.ensures.pending c.new-reading.ensures.given in
    input_passed c.from_residual-in_err-read_lines.result c.in_err-read_lines.field-0.0 _ _ c.from_residual-in_err-read_lines.ensures.1
    (c.in_err-read_lines.ensures.refused _ (c.in_ok-log.ensures.begun _ first))

pub returns-in_err-read_lines-clause-failure : goal.returns-in_err-read_lines-clause-failure
returns-in_err-read_lines-clause-failure g c =
    failure_passed c.from_residual-in_err-read_lines.result c.in_err-read_lines.field-0.0 _ c.from_residual-in_err-read_lines.ensures.1 c.in_err-read_lines.ensures.failure

pub returns-in_err-read_lines-clause-refusals : goal.returns-in_err-read_lines-clause-refusals
returns-in_err-read_lines-clause-refusals g c =
    rw (passed_on c.from_residual-in_err-read_lines.result c.in_err-read_lines.field-0.0 c.from_residual-in_err-read_lines.ensures.1) c.in_err-read_lines.ensures.refusals
