use Rattle.hol_check_lines.proofs.NamedLemmas.{AreMadeSoFar}
use Rattle.hol_check_lines.specs.Named.{IsMadePair}
use Rattle.hol_check_lines.proofs.named.make_pairs.Given as goal

abbrev pub invariant-loop-pair : goal.invariant-loop-pair
invariant-loop-pair l = AreMadeSoFar (λ contents. IsMadePair contents) l.pairs l.pair-index l.fn.terms l.terms l.fn.contents l.contents
