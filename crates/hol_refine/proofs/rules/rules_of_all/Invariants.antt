use Rattle.std.proofs.Common.{drop}
use Rattle.hol_prelude_derivations.specs.Derivations.{theorems, AreMade}
use Rattle.hol_theorem_library.specs.Library.{IsLibrary, IsContinued}
use Rattle.hol_refine.proofs.Gathering.{RulesSoFar}
use Rattle.hol_refine.proofs.rules.rules_of_all.Given as goal

abbrev pub invariant-loop-theorem : goal.invariant-loop-theorem
invariant-loop-theorem l =
    RulesSoFar (theorems l.all) (theorems l.rules.items) (theorems (drop l.theorem-index l.all))
    × AreMade l.library.recorder l.rules.items
    × IsLibrary l.library
    × IsContinued l.fn.library l.library
    × AreMade l.library.recorder l.all
