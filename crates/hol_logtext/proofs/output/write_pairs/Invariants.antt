use Rattle.std.proofs.Common.{drop}
use Rattle.hol_logtext.specs.LineText.{pair_fields}
use Rattle.hol_logtext.proofs.WriteLemmas.{IsLeft}
use Rattle.hol_logtext.proofs.output.write_pairs.Given as goal

abbrev pub invariant-loop-pair : goal.invariant-loop-pair
invariant-loop-pair l = IsLeft l.fn.out.items l.out.items (pair_fields l.pairs) (pair_fields (drop l.pair-index l.pairs))
