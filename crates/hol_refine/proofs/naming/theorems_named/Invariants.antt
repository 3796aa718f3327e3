use Rattle.std.proofs.Common.{map, drop, string_bytes}
use Rattle.hol_prelude_derivations.specs.Derivations.{theorems, AreMade}
use Rattle.hol_journal.specs.Journal.{Journal}
use Rattle.hol_theorem_store.specs.Stored.{IsStoreOf, theorems_in}
use Rattle.hol_theorem_store.specs.Store.{stored_of}
use Rattle.hol_refine.proofs.Gathering.{NamedSoFar}
use Rattle.hol_refine.proofs.naming.theorems_named.Given as goal

abbrev pub invariant-loop-name : goal.invariant-loop-name
invariant-loop-name l =
    NamedSoFar (theorems_in (stored_of l.store)) (map string_bytes l.names) (theorems l.all.items) (map string_bytes (drop l.name-index l.names))
    × ((journal : Journal) → IsStoreOf journal (stored_of l.store) → AreMade journal l.all.items)
