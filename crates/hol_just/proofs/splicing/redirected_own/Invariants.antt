use Rattle.std.proofs.Common.{◌≡◌, []}
use Rattle.hol_just.specs.Flat.{redirected}
use Rattle.hol_just.specs.Lines.{flat_lines}
use Rattle.hol_just.specs.Joining.{redirected_of}
use Rattle.hol_just.proofs.splicing.redirected_own.Given as goal

abbrev pub invariant-loop-line : goal.invariant-loop-line
invariant-loop-line l =
    redirected l.roots.items l.subgoals (redirected_of l.spliced) (flat_lines l.line-iterator.rest.items)
    ≡ redirected l.fn.joined.roots.items l.subgoals (record { lines = flat_lines l.fn.joined.lines.items; new_places = [] }) (flat_lines l.fn.lines.items)
