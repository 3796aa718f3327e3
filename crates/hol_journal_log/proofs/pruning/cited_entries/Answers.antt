use Rattle.std.proofs.Common.{◌≡◌, ◌∙◌, ap, map, take, arith}
use Rattle.std.proofs.lemmas.List.{take_all}
use Rattle.hol_journal_log.specs.declared.claim.Claim.{Claim}
use Rattle.hol_journal_log.proofs.StepLineLemmas.{next_item}
use Rattle.hol_journal_log.proofs.EntryLoopLemmas.{numbers_turn, numbers_of_claims}
use Rattle.hol_journal_log.proofs.pruning.cited_entries.Goals as goal

pub loop-at-preserved : goal.loop-at-preserved
loop-at-preserved c =
    numbers_turn (λ (claim : Claim). claim.theorem.now.entry) _ _ c.index-claims-at.result c.loop-at.numbers.items c.push.new.self.items c.entry.result
    (next_item c.args.claims.now c.loop-at.at c.index-claims-at.result c.loop-at-test.true c.index-claims-at.is) c.loop-at.invariant c.in_ok-push.ensures.items c.entry.ensures

pub returns-clause-ok : goal.returns-clause-ok
returns-clause-ok c =
    let whole : take c.loop-at.at c.args.claims.now ≡ c.args.claims.now = take_all c.loop-at.at c.args.claims.now (omega arith) in
    c.loop-at.invariant ∙ (ap (map (λ (claim : Claim). claim.theorem.now.entry)) whole ∙ numbers_of_claims c.args.claims.now)
