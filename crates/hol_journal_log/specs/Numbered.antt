-- The entries whose theorems have numbers.
use Rattle.std.specs.Prelude.{ℕ, List, nat_eq}
use Rattle.std.specs.List.{IsDistinct}
use Rattle.hol_journal_log.specs.declared.numbers.TheoremNumbers.TheInside as numbers

abbrev pub numbered_entries : numbers.Inside → List ℕ
numbered_entries inside = inside.entries.items

-- no entry stands twice
pub record IsNumbered (inside : numbers.Inside) : Type 0 where
  pub distinct : IsDistinct nat_eq inside.entries.items
