use Rattle.std.proofs.Common.{◌-◌, ◌≤◌, length}
use Rattle.hol_syntax_grammar.specs.Views.{tokens_of}
use Rattle.hol_syntax.proofs.SequentReading.{IsListed}
use Rattle.hol_syntax.proofs.sequents.parse_list.Given as goal

abbrev pub invariant-loop-count : goal.invariant-loop-count
invariant-loop-count l = record {
  listed : IsListed (tokens_of l.tokens) l.at l.parsed.items;
  within : l.at ≤ length l.tokens;
}

abbrev pub decreases-loop-count : goal.decreases-loop-count
decreases-loop-count l = length l.tokens - l.at
