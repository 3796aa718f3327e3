-- What the entries of a recorder stand for.
use Rattle.std.specs.Prelude.{List, Bool}
use Rattle.hol_journal.specs.Steps.{JournalEntry}

-- all entries, and whether there is room for one more
pub record Held : Type 0 where
  pub entries : List JournalEntry
  pub has_room : Bool
