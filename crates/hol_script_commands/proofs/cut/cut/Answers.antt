use Rattle.hol_script_commands.proofs.CutLemmas.{is_cut_at, no_mark_up_to}
use Rattle.hol_script_commands.proofs.cut.cut.Goals as goal

pub returns-then-bytes-at-eq59-2 : goal.returns-then-bytes-at-eq59-2
returns-then-bytes-at-eq59-2 c = is_cut_at c.args.bytes.now c.loop-at.at c.loop-at.invariant.1 c.if-bytes-at-eq59.true c.if-bytes-at-eq59-2.true

pub returns : goal.returns
returns c = no_mark_up_to c.args.bytes.now c.loop-at.at c.loop-at.invariant.1 c.loop-at-test.false
