-- Which entries of a journal the log of some theorems needs: the entries of these theorems, and with each entry those
-- that it cites and those that introduce the names that it mentions.
use Rattle.std.specs.Prelude.{◌≡◌, ◌<◌, ◌↔◌, ℕ, List, [], ◌∷◌, ◌++◌, Bool, true, Option, Some, None, length, slice_get}
use Rattle.std.specs.List.{flat_map}
use Rattle.hol_model.specs.Terms.HolType.{HolType, type_variable, bool_type, function_type, declared_type}
use Rattle.hol_model.specs.Terms.NamedTerm.{NamedTerm, variable, constant, combination, abstraction}
use Rattle.hol_model.specs.Logic.Derivable.{IsMember}
use Rattle.hol_model.specs.Goals.Goals.{Sequent}
use Rattle.hol_journal.specs.Steps as steps
use Rattle.hol_journal.specs.Steps.{Step, by_definition, JournalEntry, derived, declared_constant, terms_of, types_of, entries_of}

-- the declared types and the constants that something mentions

abbrev pub names_in_type : HolType → List (List ℕ)
names_in_type (type_variable name) = []
names_in_type bool_type = []
names_in_type (function_type domain codomain) = names_in_type domain ++ names_in_type codomain
names_in_type (declared_type name) = name ∷ []

abbrev pub names_in_term : NamedTerm → List (List ℕ)
names_in_term (variable name ty) = names_in_type ty
names_in_term (constant name ty) = name ∷ names_in_type ty
names_in_term (combination function argument) = names_in_term function ++ names_in_term argument
names_in_term (abstraction name ty body) = names_in_type ty ++ names_in_term body

abbrev pub names_in : JournalEntry → List (List ℕ)
names_in (derived step sequent) = flat_map names_in_term (terms_of step) ++ flat_map names_in_type (types_of step)
names_in (steps.declared_type name) = []
names_in (declared_constant name ty) = names_in_type ty

-- the name that an entry introduces
abbrev pub introduced_by : JournalEntry → Option (List ℕ)
introduced_by (derived (by_definition name term) sequent) = Some name
introduced_by (derived step sequent) = None
introduced_by (steps.declared_type name) = Some name
introduced_by (declared_constant name ty) = Some name

-- The entry of this number is needed for the theorems of the claimed entries.
pub data IsNeeded (entries : List JournalEntry) (claimed : List ℕ) : ℕ → Type 0 where
  by_claim : (number : ℕ) → IsMember number claimed → IsNeeded entries claimed number
  by_citation : (number user : ℕ) (step : Step) (sequent : Sequent) → IsNeeded entries claimed user
      → slice_get entries user ≡ Some (derived step sequent) → IsMember number (entries_of step) → IsNeeded entries claimed number
  by_name : (number user : ℕ) (entry using : JournalEntry) (name : List ℕ) → IsNeeded entries claimed user
      → slice_get entries user ≡ Some using → IsMember name (names_in using)
      → slice_get entries number ≡ Some entry → introduced_by entry ≡ Some name → IsNeeded entries claimed number

-- a mark for each entry, which says whether it is needed
pub record MarksNeeded (entries : List JournalEntry) (claimed : List ℕ) (marks : List Bool) : Type 0 where
  pub one_each : length marks ≡ length entries
  pub marked : (number : ℕ) → (slice_get marks number ≡ Some true) ↔ IsNeeded entries claimed number

-- an entry cites entries before it, and the entry that introduces a name stands before those that mention the name
pub record StandOnEarlier (entries : List JournalEntry) : Type 0 where
  pub cites : (number user : ℕ) (step : Step) (sequent : Sequent)
      → slice_get entries user ≡ Some (derived step sequent) → IsMember number (entries_of step) → number < user
  pub mentions : (number user : ℕ) (entry using : JournalEntry) (name : List ℕ)
      → slice_get entries user ≡ Some using → IsMember name (names_in using)
      → slice_get entries number ≡ Some entry → introduced_by entry ≡ Some name → number < user
