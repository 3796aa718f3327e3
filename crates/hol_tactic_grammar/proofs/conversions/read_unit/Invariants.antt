use Rattle.std.proofs.Common.{length, reverse}
use Rattle.hol_tactic_grammar.specs.OpenConversions.{Holds, work_of}
use Rattle.hol_tactic_grammar.proofs.conversions.read_unit.Given as goal

abbrev pub invariant-loop-step : goal.invariant-loop-step
invariant-loop-step l = Holds l.step (reverse l.places.items) l.fn.at l.fn.room l.tokens

abbrev pub decreases-loop-step : goal.decreases-loop-step
decreases-loop-step l = work_of l.step (length (reverse l.places.items)) l.tokens
