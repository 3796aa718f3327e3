use Rattle.std.proofs.Common.{rules}
use Rattle.hol_journal_log.specs.Claims.{claim_of}
use Rattle.hol_journal_log.specs.Writer.{written}
use Rattle.hol_journal_log.proofs.StepLineLemmas.{next_item}
use Rattle.hol_journal_log.proofs.EntryLoopLemmas.{claims_turn}
use Rattle.hol_journal_log.proofs.writer.Writer.write_claims.Goals as goal

pub loop-at-preserved : goal.loop-at-preserved
loop-at-preserved c = (
  claims_turn claim_of _ _ c.index-claims-at.result (written c.args.self.now) (written c.loop-at.self) (written c.write_claim.new.self)
      (next_item c.args.claims.now c.loop-at.at c.index-claims-at.result c.loop-at-test.true c.index-claims-at.is) c.loop-at.invariant.0
      (rw (c.theorem.ensures, c.entry.ensures) at c.in_ok-write_claim.ensures.ok),
  search (rules, c.loop-at.invariant.1, c.in_ok-write_claim.ensures.named),
)
