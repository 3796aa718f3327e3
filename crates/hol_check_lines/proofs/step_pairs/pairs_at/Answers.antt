use Rattle.hol_check_lines.proofs.StepPairLemmas.{pairs-more}
use Rattle.hol_check_lines.proofs.step_pairs.pairs_at.Goals as goal

pub loop-line-preserved : goal.loop-line-preserved
loop-line-preserved g c =
    pairs-more _ c.args.lines.now c.loop-line.line-index _ c.loop-line-test.true c.loop-line.pairs.items c.push.new.self.items (c.in-Some-Some.new, c.in-Some-Some.old)
    c.loop-line.invariant (record { new = c.in-Some-Some.ensures; old = c.in-Some-Some.ensures' }) c.in_ok-push.ensures.items
