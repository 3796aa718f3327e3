use Rattle.hol_tactic_grammar.specs.OpenTactics.{IsReading, turns_left}
use Rattle.hol_tactic_grammar.proofs.tactic_reader.tactic_of.Given as goal

abbrev pub invariant-loop-reading : goal.invariant-loop-reading
invariant-loop-reading l = IsReading l.reading l.reader l.tokens

abbrev pub decreases-loop-reading : goal.decreases-loop-reading
decreases-loop-reading l = turns_left l.reading l.reader l.tokens
