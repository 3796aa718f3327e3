use Rattle.std.proofs.Common.{◌≡◌, length, Ok}
use Rattle.std.specs.List.{All}
use Rattle.hol_laws_refiners.proofs.Repeating.{joined_from}
use Rattle.hol_journal.specs.Journal.{IsMade}
use Rattle.hol_theorem_library.specs.Library.{IsLibrary, IsContinued}
use Rattle.hol_conv.specs.Makes.{StandsOn}
use Rattle.hol_conv.specs.Chains.{theorems, LeadUpTo}
use Rattle.hol_conv.proofs.chain.joined.Given as goal

abbrev pub invariant-loop-theorem : goal.invariant-loop-theorem
invariant-loop-theorem l =
    (joined_from l.fn.library.recorder.theory (theorems l.fn.theorems.items) (Ok l.fn.last.theorem) ≡ joined_from l.fn.library.recorder.theory (theorems l.theorems.items) (Ok l.last.theorem))
    × IsContinued l.fn.library l.library
    × IsLibrary l.library
    × All (IsMade l.library.recorder) l.theorems.items
    × IsMade l.library.recorder l.last
    × LeadUpTo l.theorems.items l.last.theorem
    × (StandsOn l.fn.library.recorder.theory l.fn.last → StandsOn l.fn.library.recorder.theory l.last)

abbrev pub decreases-loop-theorem : goal.decreases-loop-theorem
decreases-loop-theorem l = length l.theorems.items
