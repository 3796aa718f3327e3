use Rattle.std.proofs.Common.{map, drop}
use Rattle.std.specs.Prelude.{decimal}
use Rattle.hol_logtext.proofs.WriteLemmas.{IsLeft}
use Rattle.hol_logtext.proofs.output.write_numbers.Given as goal

abbrev pub invariant-loop-number : goal.invariant-loop-number
invariant-loop-number l = IsLeft l.fn.out.items l.out.items (map decimal l.numbers) (map decimal (drop l.number-index l.numbers))
