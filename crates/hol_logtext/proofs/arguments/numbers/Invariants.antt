use Rattle.std.proofs.Common.{◌≡◌, ◌≤◌, ◌-◌, length, drop}
use Rattle.hol_logtext.specs.LineReading.{numbers_of}
use Rattle.hol_logtext.specs.Lines.{fields_in}
use Rattle.hol_logtext.proofs.ListLemmas.{behind_all}
use Rattle.hol_logtext.proofs.arguments.numbers.Given as goal

abbrev pub invariant-loop-at : goal.invariant-loop-at
invariant-loop-at l = (l.at ≤ length l.fields) × (behind_all l.numbers.items (numbers_of (fields_in (drop l.at l.fields))) ≡ numbers_of (fields_in l.fields))

abbrev pub decreases-loop-at : goal.decreases-loop-at
decreases-loop-at l = length l.fields - l.at
