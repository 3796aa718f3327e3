use Rattle.hol_journal.specs.Journal.{theorem_in}
use Rattle.hol_just_replay.proofs.SupposingLemmas.{conjunct-drawn, conjunct-fits}
use Rattle.hol_just_replay.proofs.DerivedRooms.{room-conjunct1}
use Rattle.hol_just_replay.proofs.supposing.falsity_twice.Goals as goal

pub returns-clause-drawn : goal.returns-clause-drawn
returns-clause-drawn c = conjunct-drawn c.conjunction_assumed.new.recorder.theory c.in_ok-assumed.assumed.theorem (theorem_in c.conjunct1.result) c.in_ok-assumed.ensures.drawn c.conjunct1.ensures.inferred

pub returns-clause-fits : goal.returns-clause-fits
returns-clause-fits c =
    conjunct-fits c.conjunction_assumed.new.recorder.theory c.in_ok-assumed.assumed.theorem (theorem_in c.conjunct1.result) c.in_ok-assumed.ensures.drawn
    (room-conjunct1 {journal = c.conjunction_assumed.new.recorder} {logic = c.args.logic.now}
    (c.logic_stays.ensures c.args.recorder.now c.conjunction_assumed.new.recorder c.args.logic.now c.in_ok-assumed.ensures.continues.grown c.requires.logic)
    c.conclusion_of-conclusion.ensures.legal c.conclusion_of-conclusion.ensures.formula c.conjunct1.ensures.outcome)
