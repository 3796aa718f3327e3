use Rattle.hol_check_rules.specs.State.{state_of}
use Rattle.hol_check_lines.proofs.ClaimLineLemmas.{AreNumbered}
use Rattle.hol_check_lines.proofs.claim_lines.terms_named.Given as goal

abbrev pub invariant-loop-line : goal.invariant-loop-line
invariant-loop-line l = AreNumbered (state_of l.terms l.contents) l.lines l.line-index l.terms.terms l.numbers.items
