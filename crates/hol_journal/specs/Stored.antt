-- Which entries of a recorder are kept, and what is told of one.
use Rattle.std.specs.Prelude.{◌≡◌, ℕ, ◌+◌, ◌⊎◌, List, [], ◌∷◌, Option, Some, None, slice_get, ⊤}
use denote.Ref.{Bor}
use Rattle.hol_journal.specs.Steps.{JournalEntry}
use Rattle.hol_journal.specs.Journal.{added_by}
use Rattle.hol_journal.specs.Views.{entry_of}
use Rattle.hol_journal.specs.declared.entry.Entry.{Entry}
use Rattle.hol_journal.specs.declared.kept.Numbered.{Numbered}

-- it is the entry of this number
pub record IsEntryOf (number : ℕ) (entry : JournalEntry) (one : Numbered) : Type 0 where
  pub numbered : one.number ≡ number
  pub is : entry_of one.entry ≡ entry

-- These are kept, in their order, of the entries from a number on. An entry that is not adds nothing to the theory.
abbrev pub AreKept : ℕ → List JournalEntry → List Numbered → Type 0
AreKept number [] [] = ⊤
AreKept number [] (one ∷ kept) = ⊥
AreKept number (entry ∷ entries) [] = (added_by entry ≡ []) × AreKept (number + 1) entries []
AreKept number (entry ∷ entries) (one ∷ kept) = (IsEntryOf number entry one × AreKept (number + 1) entries kept) ⊎ ((added_by entry ≡ []) × AreKept (number + 1) entries (one ∷ kept))

-- what is told of the entry of a number: the entry, or nothing, where it adds nothing to the theory
abbrev pub IsStored : List JournalEntry → ℕ → Option (Bor Entry) → Type 0
IsStored entries number (Some entry) = slice_get entries number ≡ Some (entry_of entry.now)
IsStored entries number None = (entry : JournalEntry) → slice_get entries number ≡ Some entry → added_by entry ≡ []
