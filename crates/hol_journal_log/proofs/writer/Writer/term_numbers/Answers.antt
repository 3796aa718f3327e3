use Rattle.std.proofs.Common.{rules, arith}
use Rattle.hol_journal_log.specs.Writer.{written}
use Rattle.hol_journal_log.proofs.StepLineLemmas.{term_turn, next_item}
use Rattle.hol_journal_log.proofs.writer.Writer.term_numbers.Goals as goal

pub loop-term-preserved : goal.loop-term-preserved
loop-term-preserved c = (
  λ old before are. term_turn old (written c.loop-term.self) (written c.term_number_near.new.self) before _ _ c.term-item.result c.loop-term.numbers.items c.push.new.self.items c.in_ok-number.number
      (c.loop-term.invariant.0 old before are) c.in_ok-number.ensures.ok (next_item c.args.terms.now c.loop-term.term-index c.term-item.result (omega arith) c.term-item.is) c.in_ok-push.ensures.items,
  search (rules, c.loop-term.invariant.1, c.in_ok-number.ensures.named),
)
