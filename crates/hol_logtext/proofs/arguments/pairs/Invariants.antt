use Rattle.std.proofs.Common.{◌≡◌, ◌≤◌, ◌-◌, length, drop}
use Rattle.hol_logtext.specs.LineReading.{pairs_of}
use Rattle.hol_logtext.specs.Lines.{fields_in}
use Rattle.hol_logtext.proofs.ListLemmas.{behind_all}
use Rattle.hol_logtext.proofs.arguments.pairs.Given as goal

abbrev pub invariant-loop-at : goal.invariant-loop-at
invariant-loop-at l = (l.at ≤ length l.fields) × (behind_all l.pairs.items (pairs_of (fields_in (drop l.at l.fields))) ≡ pairs_of (fields_in l.fields))

abbrev pub decreases-loop-at : goal.decreases-loop-at
decreases-loop-at l = length l.fields - l.at
