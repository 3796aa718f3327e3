-- How the needed entries are marked, from the newest back.
use Rattle.std.specs.Prelude.{[], ◌≡◌, ◌<◌, ◌≤◌, ◌⊎◌, ◌&&◌, not, if◌then◌else◌, ℕ, ◌∷◌, ◌++◌, List, map, Bool, true, false, Option, Some, None, length, slice_get}
use Rattle.std.specs.List.{list_any, slice_index_or}
use Rattle.std.specs.Str.{bytes_eq}
use Rattle.std.proofs.Common.{Bor}
use Rattle.hol_model.specs.Logic.Derivable.{IsMember}
use Rattle.hol_model.specs.Goals.Goals.{Sequent}
use Rattle.hol_journal.specs.Steps.{Step, JournalEntry, derived, entries_of}
use Rattle.hol_journal_log.specs.Needed.{names_in, introduced_by, IsNeeded}

abbrev pub IsMarkedAt : List Bool → ℕ → Type 0
IsMarkedAt marks number = slice_get marks number ≡ Some true

-- the entries of these numbers are marked, and no others
pub record AreMarked (marks : List Bool) (numbers : List ℕ) : Type 0 where
  pub all : (number : ℕ) → IsMember number numbers → IsMarkedAt marks number
  pub only : (number : ℕ) → IsMarkedAt marks number → IsMember number numbers

-- the entries of these numbers are marked besides
pub record Marks (old new : List Bool) (numbers : List ℕ) : Type 0 where
  pub one_each : length new ≡ length old
  pub kept : (number : ℕ) → IsMarkedAt old number → IsMarkedAt new number
  pub added : (number : ℕ) → IsMember number numbers → IsMarkedAt new number
  pub only : (number : ℕ) → IsMarkedAt new number → IsMarkedAt old number ⊎ IsMember number numbers

-- these names are noted besides
pub record Notes (old new : List (List ℕ)) (names : List (List ℕ)) : Type 0 where
  pub kept : (name : List ℕ) → IsMember name old → IsMember name new
  pub added : (name : List ℕ) → IsMember name names → IsMember name new
  pub only : (name : List ℕ) → IsMember name new → IsMember name old ⊎ IsMember name names

-- of these names alone, some are noted besides
pub record NotesAmong (old new : List (List ℕ)) (names : List (List ℕ)) : Type 0 where
  pub only : (name : List ℕ) → IsMember name new → IsMember name old ⊎ IsMember name names

-- the names that the code holds
abbrev pub held_names : List (Bor (List ℕ)) → List (List ℕ)
held_names names = map (λ name. name.now) names

-- the name is noted, where there is one
abbrev pub is_noted : List (List ℕ) → Option (List ℕ) → Bool
is_noted names None = false
is_noted names (Some name) = list_any (bytes_eq name) names

-- the entries that an entry cites
abbrev pub cited_by : JournalEntry → List ℕ
cited_by (derived step sequent) = entries_of step
cited_by _ = []

abbrev pub CitesWithin : JournalEntry → ℕ → Type 0
CitesWithin entry count = (number : ℕ) → IsMember number (cited_by entry) → number < count

-- what the entry at the place cites, if it is marked
abbrev pub cited_at : ℕ → JournalEntry → List Bool → List ℕ
cited_at place entry marks = if slice_index_or marks place false then cited_by entry else []

-- Each marked entry is needed. The claimed entries are marked, and what marked entries from a place on cite.
pub record AreCitedFrom (entries : List JournalEntry) (claimed : List ℕ) (place : ℕ) (marks : List Bool) : Type 0 where
  pub one_each : length marks ≡ length entries
  pub needed : (number : ℕ) → IsMarkedAt marks number → IsNeeded entries claimed number
  pub of_claims : (number : ℕ) → IsMember number claimed → IsMarkedAt marks number
  pub cited : (number user : ℕ) (step : Step) (sequent : Sequent) → place ≤ user → IsMarkedAt marks user
      → slice_get entries user ≡ Some (derived step sequent) → IsMember number (entries_of step) → IsMarkedAt marks number

-- the names that marked entries mention
abbrev pub names_of_marked : List JournalEntry → List Bool → List (List ℕ)
names_of_marked [] marks = []
names_of_marked (entry ∷ entries) [] = []
names_of_marked (entry ∷ entries) (true ∷ marks) = names_in entry ++ names_of_marked entries marks
names_of_marked (entry ∷ entries) (false ∷ marks) = names_of_marked entries marks

abbrev pub Introduces : JournalEntry → Type 0
Introduces entry = (name : List ℕ) × (introduced_by entry ≡ Some name)

-- the entry at the place introduces a noted name and is not marked
abbrev pub is_reached : ℕ → JournalEntry → List Bool → List (List ℕ) → Bool
is_reached place entry marks names = not (slice_index_or marks place false) && is_noted names (introduced_by entry)

-- Where the entry at the place is reached, it is marked, and the names that it mentions are noted; else all stays.
pub record IsEntryMarked (place : ℕ) (entry : JournalEntry) (old_marks : List Bool) (old_names : List (List ℕ)) (marks : List Bool) (names : List (List ℕ)) : Type 0 where
  pub marked : is_reached place entry old_marks old_names ≡ true → Marks old_marks marks (place ∷ [])
  pub noted : is_reached place entry old_marks old_names ≡ true → Notes old_names names (names_in entry)
  pub kept_marks : is_reached place entry old_marks old_names ≡ false → marks ≡ old_marks
  pub kept_names : is_reached place entry old_marks old_names ≡ false → names ≡ old_names

-- where it is told that nothing is marked besides, this is so
pub record IsSame (was_more is_more : Bool) (old new : List Bool) : Type 0 where
  pub before : is_more ≡ false → was_more ≡ false
  pub marks : is_more ≡ false → new ≡ old

-- a needed entry mentions the name
pub record IsMentioned (entries : List JournalEntry) (claimed : List ℕ) (name : List ℕ) : Type 0 where
  pub user : ℕ
  pub using : JournalEntry
  pub needed : IsNeeded entries claimed user
  pub there : slice_get entries user ≡ Some using
  pub member : IsMember name (names_in using)

-- each of the names is mentioned by a needed entry
abbrev pub AreMentioned : List JournalEntry → List ℕ → List (List ℕ) → Type 0
AreMentioned entries claimed names = (name : List ℕ) → IsMember name names → IsMentioned entries claimed name

-- Each marked entry is needed, and from a place on each needed one is marked. What marked entries cite is marked, and the
-- names that they mention are noted, and no others.
pub record IsMarkedFrom (entries : List JournalEntry) (claimed : List ℕ) (place : ℕ) (marks : List Bool) (names : List (List ℕ)) : Type 0 where
  pub one_each : length marks ≡ length entries
  pub needed : (number : ℕ) → IsMarkedAt marks number → IsNeeded entries claimed number
  pub mentioned : (name : List ℕ) → IsMember name names → IsMentioned entries claimed name
  pub of_claims : (number : ℕ) → IsMember number claimed → IsMarkedAt marks number
  pub complete : (number : ℕ) → place ≤ number → IsNeeded entries claimed number → IsMarkedAt marks number
  pub cited : (number user : ℕ) (step : Step) (sequent : Sequent) → IsMarkedAt marks user
      → slice_get entries user ≡ Some (derived step sequent) → IsMember number (entries_of step) → IsMarkedAt marks number
  pub noted : (user : ℕ) (using : JournalEntry) (name : List ℕ) → IsMarkedAt marks user
      → slice_get entries user ≡ Some using → IsMember name (names_in using) → IsMember name names
