use Rattle.std.proofs.Common.{◌≡◌, take, subst, arith}
use Rattle.std.proofs.lemmas.List.{take_all}
use Rattle.hol_journal_log.specs.Claims.{claims_of}
use Rattle.hol_journal_log.specs.Pruning.{AreFitting}
use Rattle.hol_journal_log.proofs.StepLineLemmas.{next_item}
use Rattle.hol_journal_log.proofs.PrunedLemmas.{fitting_turn}
use Rattle.hol_journal_log.proofs.pruning.claims_fit.Goals as goal

pub loop-at-preserved : goal.loop-at-preserved
loop-at-preserved c =
    fitting_turn _ _ c.index-claims-at.result
    (next_item c.args.claims.now c.loop-at.at c.index-claims-at.result c.loop-at-test.true c.index-claims-at.is) c.loop-at.invariant
    (rw c.theorem.ensures at c.formulas_fit.ensures)

pub returns : goal.returns
returns c =
    let whole : take c.loop-at.at c.args.claims.now ≡ c.args.claims.now = take_all c.loop-at.at c.args.claims.now (omega arith) in
    subst (λ claims. AreFitting (claims_of claims)) whole c.loop-at.invariant
