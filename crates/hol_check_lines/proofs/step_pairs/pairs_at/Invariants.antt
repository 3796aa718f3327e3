use Rattle.std.proofs.Common.{take}
use Rattle.std.specs.List.{AllZip}
use Rattle.hol_check_lines.specs.LookedUp.{IsPair}
use Rattle.hol_check_lines.proofs.step_pairs.pairs_at.Given as goal

abbrev pub invariant-loop-line : goal.invariant-loop-line
invariant-loop-line g l = AllZip (IsPair (goal.F-post g l.at)) (take l.line-index l.lines) l.pairs.items
