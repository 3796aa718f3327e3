-- What the fields of a store stand for.
use Rattle.std.specs.Prelude.{◌<◌}
use Rattle.indexmap.specs.IndexMap.{get_by_text, spare}
use Rattle.hol_theorem_store.specs.Stored.{Stored}
use Rattle.hol_theorem_store.specs.declared.store.Store.{Store}

abbrev pub stored_of : Store → Stored
stored_of store = record { theorems = get_by_text store.theorems; lemmas = store.lemmas.items }

-- one more theorem needs no memory
abbrev pub HasRoom : Store → Type 0
HasRoom store = 0 < spare store.theorems
