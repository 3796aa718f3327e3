use Rattle.std.proofs.Common.{◌-◌, map, length}
use Rattle.std.specs.String.{string_bytes}
use Rattle.hol_tactic_grammar.specs.Tokens.{behind}
use Rattle.hol_tactic_grammar.specs.Conversions.{Reaches}
use Rattle.hol_tactic_grammar.proofs.LeafLemmas.{IsNamesFront}
use Rattle.hol_tactic_grammar.proofs.leaves.read_names.Given as goal

abbrev pub invariant-loop-alloc : goal.invariant-loop-alloc
invariant-loop-alloc l = Reaches l.at l.next l.tokens × IsNamesFront (behind l.at l.tokens) (behind l.next l.tokens) (map string_bytes l.names.items)

abbrev pub decreases-loop-alloc : goal.decreases-loop-alloc
decreases-loop-alloc l = length l.tokens - l.next
