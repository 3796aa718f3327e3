use Rattle.std.proofs.Common.{◌≡◌, [], drop, length}
use Rattle.hol_just.specs.Lines.{flat_lines}
use Rattle.hol_just.specs.Depths.{AreWithin}
use Rattle.hol_just.specs.SubgoalDepths.{subgoal_depths_after}
use Rattle.hol_just.proofs.subgoal_depths.depths.Given as goal

abbrev pub invariant-loop-line : goal.invariant-loop-line
invariant-loop-line l =
    (subgoal_depths_after l.number l.depths.items (flat_lines (drop l.line-index l.lines)) ≡ subgoal_depths_after l.number [] (flat_lines l.lines))
    × AreWithin (length l.depths.items) l.depths.items
