use Rattle.std.proofs.Common.{◌∙◌, refl}
use Rattle.hol_journal.proofs.NumberedLemmas.{kept_less}
use Rattle.hol_journal.proofs.kept.drop_rules.Goals as goal

pub loop-preserved : goal.loop-preserved
loop-preserved c = λ entries are.
    kept_less entries _ _ c.pop.result c.pop.ensures.items
    (λ front one is. c.if-not-ends_with_rule.ensures refl front one (c.deref.ensures.value ∙ is)) (c.loop.invariant entries are)
