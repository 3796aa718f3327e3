use Rattle.hol_check_lines.proofs.NamedLemmas.{AreMadeSoFar}
use Rattle.hol_check_rules.specs.Judged.{IsMadeLine}
use Rattle.hol_check_lines.proofs.named.make_lines.Given as goal

abbrev pub invariant-loop-line : goal.invariant-loop-line
invariant-loop-line l = AreMadeSoFar (λ contents. IsMadeLine contents) l.lines l.line-index l.fn.terms l.terms l.fn.contents l.contents
