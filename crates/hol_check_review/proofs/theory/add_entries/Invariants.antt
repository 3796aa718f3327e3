use Rattle.std.proofs.Common.{[], take, reverse}
use Rattle.hol_syntax.specs.Scope.{scope_of}
use Rattle.hol_check_review.specs.Theories.{IsScopeOf}
use Rattle.hol_check_review.proofs.theory.add_entries.Given as goal

abbrev pub invariant-loop-entry : goal.invariant-loop-entry
invariant-loop-entry l = IsScopeOf (scope_of l.fn.scope) [] → IsScopeOf (scope_of l.scope) (reverse (take l.entry-index l.entries))
