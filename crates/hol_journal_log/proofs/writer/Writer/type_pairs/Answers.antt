use Rattle.std.proofs.Common.{rules, arith}
use Rattle.hol_journal_log.specs.Writer.{written}
use Rattle.hol_journal_log.proofs.StepLineLemmas.{type_pair_turn, next_item}
use Rattle.hol_journal_log.proofs.writer.Writer.type_pairs.Goals as goal

pub loop-pair-preserved : goal.loop-pair-preserved
loop-pair-preserved c = (
  type_pair_turn (written c.args.self.now) (written c.loop-pair.self) (written c.type_number.new.self)
      (written c.type_number-in-loop-pair.new.self) _ _ c.pair-item.result c.loop-pair.numbers.items c.push.new.self.items c.in_ok-new.new
      c.in_ok-old.old
      c.loop-pair.invariant.0 c.in_ok-new.ensures.ok c.in_ok-old.ensures.ok
      (next_item c.args.pairs.now c.loop-pair.pair-index c.pair-item.result (omega arith) c.pair-item.is) c.in_ok-push.ensures.items,
  search (rules, c.loop-pair.invariant.1, c.in_ok-new.ensures.named, c.in_ok-old.ensures.named),
)
