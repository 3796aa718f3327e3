use Rattle.hol_equal.proofs.StepLemmas.{still_made}
use Rattle.hol_taut_chains.proofs.ChainLemmas.{still_negation_laws}
use Rattle.hol_taut_chains.proofs.negations.+without_negations.Goals as goal

pub connected-requires-clause-laws : goal.connected-requires-clause-laws
connected-requires-clause-laws t c =
    still_negation_laws c.without_negations.new.recorder c.without_negations-right.new.recorder c.without_negations-right.result c.args.laws.now
    c.without_negations-right.ensures.continues
    (still_negation_laws c.args.recorder.now c.without_negations.new.recorder c.without_negations.result c.args.laws.now c.without_negations.ensures.continues c.requires.laws)

pub connected-requires-clause-left : goal.connected-requires-clause-left
connected-requires-clause-left t c =
    still_made c.without_negations.new.recorder c.without_negations-right.new.recorder c.without_negations-right.result c.in_ok-left-in-Connected.left
    c.without_negations-right.ensures.continues c.in_ok-left-in-Connected.ensures.continues.held.made
