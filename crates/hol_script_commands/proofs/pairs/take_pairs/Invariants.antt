use Rattle.std.proofs.Common.{◌-◌, ◌≤◌, length, drop, map}
use Rattle.hol_syntax_grammar.specs.Views.{tokens_of}
use Rattle.hol_script_commands.specs.Pairs.{parts_of}
use Rattle.hol_script_commands.proofs.PairLemmas.{IsListFront}
use Rattle.hol_script_commands.proofs.pairs.take_pairs.Given as goal

abbrev pub invariant-loop-pair : goal.invariant-loop-pair
invariant-loop-pair l = (l.at ≤ length l.tokens) × IsListFront (tokens_of l.tokens) (map parts_of l.pairs.items) (tokens_of (drop l.at l.tokens))

abbrev pub decreases-loop-pair : goal.decreases-loop-pair
decreases-loop-pair l = length l.tokens - l.at
