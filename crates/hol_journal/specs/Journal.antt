-- What a recorder stands for, and what its calls add.
use Rattle.std.specs.Prelude.{◌≡◌, ℕ, List, [], ◌∷◌, ◌++◌, true, Some, Result, Ok, Err, length, slice_get, nat_le}
use Rattle.hol_model.specs.declared.fault.Fault.{Fault}
use Rattle.hol_model.specs.declared.limits.TheConstants.{DEFINITIONS_LIMIT}
use Rattle.hol_model.specs.Terms.HolType.{HolType}
use Rattle.hol_model.specs.Terms.NamedTerm.{NamedTerm, type_of, type_fits, is_within_limits}
use Rattle.hol_model.specs.Logic.KnownTerm.{knows_type, is_known}
use Rattle.hol_model.specs.Terms.Nameless.{image}
use Rattle.hol_model.specs.Logic.Legality.{own_type}
use Rattle.hol_model.specs.Logic.Theory.{Theory, definition, declaration_of_type, declaration_of_constant, IsEarlier, IsLegal}
use Rattle.hol_model.specs.Kernel.Theorem.{Theorem}
use Rattle.hol_model.specs.Logic.Derivable.{IsMember}
use Rattle.hol_model.specs.Goals.Goals.{Sequent}
use Rattle.hol_journal.specs.Steps.{Step, by_definition, JournalEntry, derived, declared_type, declared_constant, sequent_of_theorem, terms_of, types_of, entries_of}
use Rattle.hol_journal.specs.Lines.{Gives}

-- a theory, and the entries of the journal with the oldest first
pub record Journal : Type 0 where
  pub theory : Theory
  pub entries : List JournalEntry

-- a theorem with the number of its entry
pub record Recorded : Type 0 where
  pub theorem : Theorem
  pub entry : ℕ

-- what an entry adds to the theory
abbrev pub added_by : JournalEntry → Theory
added_by (derived (by_definition name term) sequent) = definition name (own_type term) (image term) ∷ []
added_by (derived step sequent) = []
added_by (declared_type name) = declaration_of_type name ∷ []
added_by (declared_constant name ty) = declaration_of_constant name ty ∷ []

abbrev pub grown_by : Theory → List JournalEntry → Theory
grown_by theory [] = theory
grown_by theory (entry ∷ entries) = grown_by (added_by entry ++ theory) entries

-- the theory that entries make
abbrev pub theory_of : List JournalEntry → Theory
theory_of entries = grown_by [] entries

-- the entry of this number is a theorem's
pub record HasTheorem (entries : List JournalEntry) (number : ℕ) : Type 0 where
  pub step : Step
  pub sequent : Sequent
  pub there : slice_get entries number ≡ Some (derived step sequent)

-- the theory knows the term, which has a type and is within the limits
pub record IsKnownWithin (theory : Theory) (term : NamedTerm) : Type 0 where
  pub ty : HolType
  pub typed : type_of term ≡ Some ty
  pub known : is_known theory term ≡ true
  pub within_limits : is_within_limits term ≡ true

-- the theory knows the type, which is within the limit
pub record IsKnownTypeWithin (theory : Theory) (ty : HolType) : Type 0 where
  pub known : knows_type theory ty ≡ true
  pub fits : type_fits ty ≡ true

-- the theory knows the terms and the types that the step names
pub record KnowsParts (theory : Theory) (step : Step) : Type 0 where
  pub terms : (term : NamedTerm) → IsMember term (terms_of step) → IsKnownWithin theory term
  pub types : (ty : HolType) → IsMember ty (types_of step) → IsKnownTypeWithin theory ty

-- the step cites theorems of the entries, and over the theory that they make its terms and types are known and a log
-- gives the sequent for its line
pub record Follows (entries : List JournalEntry) (step : Step) (sequent : Sequent) : Type 0 where
  pub cites : (number : ℕ) → IsMember number (entries_of step) → HasTheorem entries number
  pub knows : KnowsParts (theory_of entries) step
  pub gives : Gives (theory_of entries) entries step sequent

-- what holds of an entry that stands behind these
abbrev pub IsEntryAfter : List JournalEntry → JournalEntry → Type 0
IsEntryAfter before (derived step sequent) = Follows before step sequent
IsEntryAfter before (declared_type name) = Unit {0}
IsEntryAfter before (declared_constant name ty) = type_fits ty ≡ true

-- the theory is that which the entries make, it is legal and within the limit, and each theorem's entry follows from
-- those before it
pub record IsJournal (journal : Journal) : Type 0 where
  pub theory : journal.theory ≡ theory_of journal.entries
  pub legal : IsLegal journal.theory
  pub within_limit : nat_le (length journal.theory) DEFINITIONS_LIMIT ≡ true
  pub entries_follow : (before : List JournalEntry) (entry : JournalEntry) (after : List JournalEntry) → journal.entries ≡ before ++ entry ∷ after → IsEntryAfter before entry

-- the recorder made the theorem
pub record IsMade (journal : Journal) (made : Recorded) : Type 0 where
  pub step : Step
  pub there : slice_get journal.entries made.entry ≡ Some (derived step (sequent_of_theorem made.theorem))
  pub earlier : IsEarlier made.theorem.theory journal.theory

-- the theorem was recorded as one more entry, with this step
pub record IsRecorded (old new : Journal) (step : Step) (made : Recorded) : Type 0 where
  pub entries : new.entries ≡ old.entries ++ derived step (sequent_of_theorem made.theorem) ∷ []
  pub number : made.entry ≡ length old.entries
  pub stands_on : made.theorem.theory ≡ new.theory
  pub earlier : IsEarlier old.theory new.theory

-- the theorem of what a call answers
abbrev pub theorem_in : Result Recorded Fault → Result Theorem Fault
theorem_in (Ok made) = Ok made.theorem
theorem_in (Err fault) = Err fault
