use Rattle.std.proofs.Common.{◌≡◌, ℕ, List, ◌++◌, drop}
use Rattle.hol_model.specs.Logs.LogClaims.{further_nameless}
use Rattle.hol_check.specs.PrintedClaims.{terms_at}
use Rattle.hol_check.proofs.print.print_further.Given as goal

-- what is left to print makes of the text what all the terms make of the text at the start
abbrev pub invariant-loop-number : goal.invariant-loop-number
invariant-loop-number l = record {
  whole : (rest : List ℕ) → l.out.items ++ further_nameless (terms_at l.table.terms (drop l.number-index l.numbers)) rest
      ≡ l.initial.out.items ++ further_nameless (terms_at l.table.terms l.numbers) rest;
}
