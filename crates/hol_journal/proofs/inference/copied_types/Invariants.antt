use Rattle.std.proofs.Common.{◌≡◌, true, take}
use Rattle.std.specs.List.{list_all}
use Rattle.hol_journal.specs.Limits.{type_pair_fits}
use Rattle.hol_journal.proofs.inference.copied_types.Given as goal

abbrev pub invariant-loop-pair : goal.invariant-loop-pair
invariant-loop-pair l = (l.copies.items ≡ take l.pair-index l.pairs) × (list_all type_pair_fits (take l.pair-index l.pairs) ≡ true)
