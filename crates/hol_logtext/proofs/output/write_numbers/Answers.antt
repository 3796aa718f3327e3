use Rattle.hol_logtext.proofs.WriteLemmas.{left-one, number_left}
use Rattle.hol_logtext.proofs.output.write_numbers.Goals as goal

pub loop-number-preserved : goal.loop-number-preserved
loop-number-preserved c =
    left-one _ _ _ (number_left c.args.numbers.now c.loop-number.number-index 0 c.loop-number-test.true) c.loop-number.invariant c.in_ok-write_number.ensures
