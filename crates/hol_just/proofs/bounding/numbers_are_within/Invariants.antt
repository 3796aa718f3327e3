use Rattle.std.proofs.Common.{◌≡◌, drop}
use Rattle.hol_just.specs.Lines.{flat_lines}
use Rattle.hol_just.specs.Bounds.{numbers_are_within}
use Rattle.hol_just.proofs.bounding.numbers_are_within.Given as goal

abbrev pub invariant-loop-line : goal.invariant-loop-line
invariant-loop-line l = numbers_are_within l.limit (flat_lines (drop l.line-index l.lines)) ≡ numbers_are_within l.limit (flat_lines l.lines)
