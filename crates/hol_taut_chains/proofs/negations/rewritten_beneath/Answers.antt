use Rattle.hol_equal.proofs.StepLemmas.{still_made}
use Rattle.hol_taut_chains.proofs.negations.rewritten_beneath.Goals as goal

pub followed-requires-clause-first : goal.followed-requires-clause-first
followed-requires-clause-first c =
    still_made c.law_at-law.new.recorder c.beneath-next.new.recorder c.beneath-next.result c.args.equation c.beneath-next.ensures.continues
    (still_made c.args.recorder.now c.law_at-law.new.recorder c.law_at-law.result c.args.equation c.law_at-law.ensures.continues c.requires.equation.made)
