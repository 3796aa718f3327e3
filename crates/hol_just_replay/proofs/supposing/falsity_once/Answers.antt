use Rattle.hol_just_replay.proofs.SupposingLemmas.{once-drawn}
use Rattle.hol_model.specs.Kernel.Rules.{assume_outcome}
use Rattle.hol_journal.specs.Journal.{theorem_in}
use Rattle.hol_just_replay.proofs.RoomLemmas.{answers-fit}
use Rattle.hol_just_replay.proofs.KernelRooms.{assume-fits}
use Rattle.hol_just_replay.proofs.supposing.falsity_once.Goals as goal

pub returns-clause-drawn : goal.returns-clause-drawn
returns-clause-drawn c =
    once-drawn c.args.recorder.now c.args.logic.now c.requires.logic c.theory_is_legal.ensures c.in_ok-term.term c.in_ok-term.ensures.ok c.assume.result c.assume.ensures.gives

pub returns-clause-fits : goal.returns-clause-fits
returns-clause-fits c =
    answers-fit (assume_outcome c.args.recorder.now.theory c.in_ok-term.term) (theorem_in c.assume.result) c.assume.ensures.outcome (assume-fits c.args.recorder.now.theory c.in_ok-term.term)
