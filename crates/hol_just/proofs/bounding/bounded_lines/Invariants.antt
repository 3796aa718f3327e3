use Rattle.std.proofs.Common.{◌≡◌, map, take}
use Rattle.hol_just.specs.Lines.{flat_lines}
use Rattle.hol_just.specs.Bounds.{bounded_line}
use Rattle.hol_just.proofs.bounding.bounded_lines.Given as goal

abbrev pub invariant-loop-line : goal.invariant-loop-line
invariant-loop-line l = flat_lines l.bounded.items ≡ map (bounded_line l.limit) (flat_lines (take l.line-index l.lines))
