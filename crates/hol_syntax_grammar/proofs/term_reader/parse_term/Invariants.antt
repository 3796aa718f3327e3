use Rattle.std.proofs.Common.{◌-◌, ◌≤◌, List, Option, length, drop}
use Rattle.hol_model.specs.Texts.TermGrammar.{TermTree}
use Rattle.hol_syntax_grammar.specs.TermReader.{Pending}
use Rattle.hol_syntax_grammar.specs.Views.{tokens_of}
use Rattle.hol_syntax_grammar.specs.TermStates.{IsState}
use Rattle.hol_syntax_grammar.proofs.TermRuns.{IsReached}
use Rattle.hol_syntax_grammar.proofs.term_reader.parse_term.Given as goal

abbrev pub invariant-loop-at : goal.invariant-loop-at
invariant-loop-at l = (opens : List Pending) × (current : Option TermTree) × IsState l.reader opens current
    × IsReached (tokens_of l.tokens) (drop l.at (tokens_of l.tokens)) opens current × (l.at ≤ length l.tokens)

abbrev pub decreases-loop-at : goal.decreases-loop-at
decreases-loop-at l = length l.tokens - l.at
