use Rattle.hol_logtext.proofs.WriteLemmas.{left-two, pair_left}
use Rattle.hol_logtext.proofs.output.write_pairs.Goals as goal

pub loop-pair-preserved : goal.loop-pair-preserved
loop-pair-preserved c =
    left-two _ _ _ _ (pair_left c.args.pairs.now c.loop-pair.pair-index (0, 0) c.loop-pair-test.true) c.loop-pair.invariant c.in_ok-write_pair.ensures
