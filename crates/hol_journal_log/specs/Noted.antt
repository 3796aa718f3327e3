-- The names that are noted.
use Rattle.std.specs.Prelude.{ℕ, List}
use Rattle.hol_journal_log.specs.Marking.{held_names}
use Rattle.hol_journal_log.specs.declared.needed.Names.TheInside as names

abbrev pub noted_names : names.Inside → List (List ℕ)
noted_names inside = held_names inside.names.keys
