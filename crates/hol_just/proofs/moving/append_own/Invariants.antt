use Rattle.std.proofs.Common.{◌≡◌, ◌++◌, map}
use Rattle.hol_just.specs.Flat.{moved_line}
use Rattle.hol_just.specs.Lines.{flat_lines}
use Rattle.hol_just.proofs.moving.append_own.Given as goal

abbrev pub invariant-loop-line : goal.invariant-loop-line
invariant-loop-line l =
    flat_lines l.all.items ++ map (moved_line l.places l.subgoals) (flat_lines l.line-iterator.rest.items)
    ≡ flat_lines l.fn.all.items ++ map (moved_line l.places l.subgoals) (flat_lines l.fn.lines.items)
