use Rattle.std.proofs.Common.{Ok, map, take}
use Rattle.hol_script_commands.specs.Pairs.{parts_of, ParsesTermPairs}
use Rattle.hol_script_commands.proofs.pairs.parse_term_pairs.Given as goal

-- the pairs so far are parsed
abbrev pub invariant-loop-pair : goal.invariant-loop-pair
invariant-loop-pair l = ParsesTermPairs (Ok l.parsed) (map parts_of (take l.pair-index l.pairs))
