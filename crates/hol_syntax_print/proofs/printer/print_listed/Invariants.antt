use Rattle.std.proofs.Common.{◌≡◌, ℕ, List, [], ◌++◌, drop}
use Rattle.std.specs.String.{string_bytes}
use Rattle.hol_model.specs.Texts.Texts.{further_bytes}
use Rattle.hol_syntax.specs.Scope.{scope_of}
use Rattle.hol_syntax_print.specs.Innermost.{IsInnermost}
use Rattle.hol_syntax_print.proofs.printer.print_listed.Given as goal

-- what is left to print makes of the text what all the terms behind the first make of the text at the start
abbrev pub invariant-loop-term : goal.invariant-loop-term
invariant-loop-term l = record {
  whole : (rest : List ℕ) → string_bytes l.out ++ further_bytes (scope_of l.scope) (drop l.term-index l.rest) rest
      ≡ string_bytes l.initial.out ++ further_bytes (scope_of l.scope) l.rest rest;
  none : IsInnermost l.binders [];
}
