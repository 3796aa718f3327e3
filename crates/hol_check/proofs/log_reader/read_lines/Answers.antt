use Rattle.hol_check.proofs.LogAnswerLemmas.{input_passed}
use Rattle.hol_check.proofs.log_reader.read_lines.Goals as goal

pub returns-in_err-more-clause-refused : goal.returns-in_err-more-clause-refused
returns-in_err-more-clause-refused g c = λ input underway.
    input_passed c.from_residual.result c.in_err-more.field-0.0 input (g.R.Source.remaining c.read_next.new.reader) c.from_residual.ensures.1
    (c.in_err-more.ensures.refused input (c.loop-line.invariant.0 input underway))
