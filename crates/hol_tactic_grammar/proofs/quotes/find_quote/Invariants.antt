use Rattle.std.proofs.Common.{◌-◌, length}
use Rattle.hol_tactic_grammar.specs.Quotes.{IsUnquoted}
use Rattle.hol_tactic_grammar.proofs.quotes.find_quote.Given as goal

abbrev pub invariant-loop-end : goal.invariant-loop-end
invariant-loop-end l = IsUnquoted l.at l.end l.tokens

abbrev pub decreases-loop-end : goal.decreases-loop-end
decreases-loop-end l = length l.tokens - l.end
