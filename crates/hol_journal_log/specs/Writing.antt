-- What a call writes, and the numbers that it answers.
use Rattle.std.specs.Prelude.{◌≡◌, ◌<◌, ℕ, List, Bool, true, false, map}
use Rattle.std.specs.List.{list_all}
use Rattle.hol_model.specs.Terms.HolType.{HolType}
use Rattle.hol_model.specs.Terms.NamedTerm.{NamedTerm}
use Rattle.hol_model.specs.Logs.LogLine.{LogRule, LogLine}
use Rattle.hol_journal_log.specs.LogAccepted.{has_name}
use Rattle.hol_model.specs.Logic.Derivable.{IsMember}
use Rattle.hol_journal.specs.Steps.{Step, JournalEntry}
use Rattle.hol_journal.specs.Lines.{line_of}
use Rattle.hol_journal_log.specs.LogWriting.{write_parts, write_entry, numbering, Written, place_of, with_type_line, with_term_line, write_each, write_type, write_term, number_of_type, number_of_term}

-- where the names in the lines were of their kinds, they still are
pub record KeepsNames (old new : Written) : Type 0 where
  pub named : list_all has_name old.lines ≡ true → list_all has_name new.lines ≡ true

-- something was written, and this is its number
pub record IsWritten {A : Type 0} (write : A → Written → Written) (number_of : Written → A → ℕ) (old new : Written) (item : A) (number : ℕ) : Type 0 where
  pub written : new ≡ write item old
  pub numbered : number ≡ number_of new item

-- a list was written, and these are the numbers
pub record AreWritten {A : Type 0} (write : A → Written → Written) (number_of : Written → A → ℕ) (old new : Written) (items : List A) (numbers : List ℕ) : Type 0 where
  pub written : new ≡ write_each write items old
  pub numbered : numbers ≡ map (number_of new) items

abbrev pub IsTypeWritten : Written → Written → HolType → ℕ → Type 0
IsTypeWritten old new ty number = IsWritten write_type number_of_type old new ty number

abbrev pub IsTermWritten : Written → Written → NamedTerm → ℕ → Type 0
IsTermWritten old new term number = IsWritten write_term number_of_term old new term number

abbrev pub AreTypesWritten : Written → Written → List HolType → List ℕ → Type 0
AreTypesWritten old new types numbers = AreWritten write_type number_of_type old new types numbers

abbrev pub AreTermsWritten : Written → Written → List NamedTerm → List ℕ → Type 0
AreTermsWritten old new terms numbers = AreWritten write_term number_of_term old new terms numbers

abbrev pub IsTypeLineWritten : Written → Written → LogLine → ℕ → Type 0
IsTypeLineWritten old new line number = IsWritten with_type_line (λ written other. place_of other written.types) old new line number

abbrev pub IsTermLineWritten : Written → Written → LogLine → ℕ → Type 0
IsTermLineWritten old new line number = IsWritten with_term_line (λ written other. place_of other written.terms) old new line number

-- what a step names was written, and this is its line
pub record IsStepWritten (old new : Written) (step : Step) (line : LogRule) : Type 0 where
  pub written : new ≡ write_parts step old
  pub is_line : line ≡ line_of (numbering new) step

-- the entries whose theorems have lines stand below this place
pub record StandBelow (place : ℕ) (written : Written) : Type 0 where
  pub below : (number : ℕ) → IsMember number written.theorems → number < place

-- the entry if it is marked
abbrev pub write_marked : ℕ → Bool → JournalEntry → Written → Written
write_marked number true entry written = write_entry number entry written
write_marked number false entry written = written
