use Rattle.std.proofs.Common.{◌≡◌, drop, map}
use Rattle.hol_tactic_grammar.specs.Words.{meaning_in}
use Rattle.hol_tactic_grammar.proofs.words.meaning_in.Given as goal

-- what is left of the table has what the whole has
abbrev pub invariant-loop-entry : goal.invariant-loop-entry
invariant-loop-entry g l =
    meaning_in (map (λ entry. (entry.0.now, entry.1)) (drop l.entry-index l.table)) l.word ≡ meaning_in (map (λ entry. (entry.0.now, entry.1)) l.table) l.word
