use Rattle.hol_journal.specs.Journal.{theorem_in}
use Rattle.hol_just_replay.proofs.SupposingLemmas.{conjoined-drawn, conjoined-fits}
use Rattle.hol_just_replay.proofs.DerivedRooms.{room-conj}
use Rattle.hol_just_replay.proofs.supposing.conjoined.Goals as goal

pub returns-clause-drawn : goal.returns-clause-drawn
returns-clause-drawn c = conjoined-drawn c.falsity_once.new.recorder.theory c.in_ok-once.once.theorem (theorem_in c.conj.result) c.in_ok-once.ensures.drawn c.conj.ensures.inferred

pub returns-clause-fits : goal.returns-clause-fits
returns-clause-fits c =
    conjoined-fits c.falsity_once.new.recorder.theory c.in_ok-once.once.theorem (theorem_in c.conj.result) c.in_ok-once.ensures.drawn (room-conj c.conj.ensures.outcome)
