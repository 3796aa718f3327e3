use Rattle.std.proofs.Common.{drop}
use Rattle.hol_just.specs.Lines.{flat_lines}
use Rattle.hol_theorem_store.specs.Store.{stored_of}
use Rattle.hol_just_replay.specs.Lines.{expected_in, IsReplaying}
use Rattle.hol_just_replay.proofs.replays.line_answers.Given as goal

abbrev pub invariant-loop-line : goal.invariant-loop-line
invariant-loop-line l = IsReplaying l.fn.recorder l.recorder (expected_in l.fn.recorder.theory (stored_of l.store) l.subgoals)
    (flat_lines (drop l.line-index l.lines)) (flat_lines l.lines) l.answers.items
