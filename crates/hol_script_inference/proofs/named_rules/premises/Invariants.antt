use Rattle.std.proofs.Common.{drop}
use Rattle.hol_journal.specs.Journal.{Journal}
use Rattle.hol_just_replay.specs.Outcomes.{AreLent}
use Rattle.hol_theorem_store.specs.Store.{stored_of}
use Rattle.hol_theorem_store.specs.Stored.{IsStoreOf}
use Rattle.hol_script_inference.proofs.NamedLemmas.{IsFoundTo}
use Rattle.hol_script_inference.proofs.named_rules.premises.Given as goal

-- the theorems of the names so far are found
abbrev pub invariant-loop-name : goal.invariant-loop-name
invariant-loop-name l = IsFoundTo (stored_of l.store) (drop l.name-index l.names) l.premises.items l.names
    × ((journal : Journal) → IsStoreOf journal (stored_of l.store) → AreLent journal l.premises.items)
