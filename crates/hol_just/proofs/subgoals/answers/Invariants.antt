use Rattle.std.proofs.Common.{◌≡◌, [], drop}
use Rattle.hol_just.specs.Lines.{flat_lines}
use Rattle.hol_just.specs.Subgoals.{answers_after}
use Rattle.hol_just.proofs.subgoals.answers.Given as goal

abbrev pub invariant-loop-line : goal.invariant-loop-line
invariant-loop-line l = answers_after l.count l.answers.items (flat_lines (drop l.line-index l.lines)) ≡ answers_after l.count [] (flat_lines l.lines)
