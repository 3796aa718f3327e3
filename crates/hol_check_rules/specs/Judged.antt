-- What numbers of lines name, what a line adds to a log, and why a line is refused but for `end`.
use Rattle.std.specs.Prelude.{◌≡◌, ◌<◌, ℕ, List, [], ◌∷◌, Bool, true, false, Option, None, Some, Result, Ok, Err, length, IfOk, IfErr}
use Rattle.std.proofs.Common.{Bor}
use Rattle.hol_model.specs.declared.limits.TheConstants.{DEFINITIONS_LIMIT}
use Rattle.hol_model.specs.declared.fault.Fault.{Fault}
use Rattle.hol_model.specs.declared.fault.Fault.TheVariants.{Memory}
use Rattle.hol_model.specs.declared.fault.Cause.{Cause}
use Rattle.hol_model.specs.declared.fault.Cause.TheVariants.{Shape, Number, Name, Kind, Const, Rule, Claim, Large}
use Rattle.hol_model.specs.Terms.HolType.{HolType}
use Rattle.hol_model.specs.Terms.Nameless.{Nameless, image}
use Rattle.hol_model.specs.Logic.Theory.{Theory, generic_type, definition, declaration_of_type, declaration_of_constant}
use Rattle.hol_model.specs.Goals.Goals.{Sequent}
use Rattle.hol_model.specs.Logs.LogLine.{LogLine}
use Rattle.hol_model.specs.Logs.LogState as given
use Rattle.hol_model.specs.Logs.LogState.{LogState, LogClaim}
use Rattle.hol_model.specs.Logs.LogSequents.{new_types, new_terms, new_theorems, new_entries, new_claims, ends}
use Rattle.hol_model.specs.Logs.LogFaults.{is_no_type, is_no_term, is_no_theorem, has_shape_fault, has_number_fault, has_name_fault, has_type_fault, has_constant_fault, has_rule_fault}
use Rattle.hol_model.specs.Logs.LogFaults.{has_claim_fault, has_size_fault, first_applying}
use Rattle.hol_check_terms.specs.Terms.{TermTable, name_at, type_at, term_at, IsGrown}
use Rattle.hol_check_rules.specs.State.{sequent_in, theory_in, claim_in, state_of, IsFittingTheorem, IsClaim}
use Rattle.hol_check_rules.specs.declared.state.Theorem.{Theorem}
use Rattle.hol_check_rules.specs.declared.state.Contents.{Contents}
use Rattle.hol_check_rules.specs.declared.state.Addition.{Addition}
use Rattle.hol_check_rules.specs.declared.state.Addition.TheVariants.{TypeNumber, TermLine, Proved, Defined, NewType, NewConstant, Claimed, Ended}
use Rattle.hol_check_changes.specs.Forming.{IsFitting}
use Rattle.hol_check_written.specs.Written.{named_at, named_of, named_terms, PartsAreEarlier, Writes}
use Rattle.hol_check_written.specs.Making.{HasEntry}
use Rattle.hol_check_written.specs.declared.written.Written.{Written}

-- what numbers of lines name

-- a line's number names the type of a number in the tables
pub record NamesType (state : LogState) (line : ℕ) (types : List HolType) (number : ℕ) : Type 0 where
  pub is_there : is_no_type state line ≡ false
  pub named : given.type_at state line ≡ type_at types number
  pub within : number < length types

pub record NamesTerm (state : LogState) (line : ℕ) (terms : List Nameless) (number : ℕ) : Type 0 where
  pub is_there : is_no_term state line ≡ false
  pub named : given.term_at state line ≡ term_at terms number
  pub fits : IsFitting terms number

pub record NamesTheorem (state : LogState) (line : ℕ) (terms : List Nameless) (theorem : Theorem) : Type 0 where
  pub is_there : is_no_theorem state line ≡ false
  pub named : given.theorem_at state line ≡ sequent_in terms theorem
  pub fits : IsFittingTheorem terms theorem

-- the line is kept so, after earlier lines
pub record NamesWritten (table : TermTable) (contents : Contents) (line : ℕ) (written : Written) : Type 0 where
  pub is_there : is_no_term (state_of table contents) line ≡ false
  pub within : line < length contents.terms.items
  pub named : given.term_at (state_of table contents) line ≡ image (named_at (named_terms table.terms contents.terms.items) line)
  pub is_shape : named_at (named_terms table.terms contents.terms.items) line ≡ named_of table.terms (named_terms table.terms contents.terms.items) written
  pub parts : PartsAreEarlier table.terms line written.shape
  pub writes : Writes table (named_at (named_terms table.terms contents.terms.items) line) written

-- a line's term is made, where the line is there
pub record IsMadeLine (contents : Contents) (line : ℕ) : Type 0 where
  pub is_made : line < length contents.terms.items → HasEntry contents.made.entries line

abbrev pub FindsWritten : TermTable → Contents → ℕ → Option Written → Type 0
FindsWritten table contents line None = is_no_term (state_of table contents) line ≡ true
FindsWritten table contents line (Some written) = NamesWritten table contents line written

abbrev pub FindsType : LogState → ℕ → List HolType → Option ℕ → Type 0
FindsType state line types None = is_no_type state line ≡ true
FindsType state line types (Some number) = NamesType state line types number

abbrev pub FindsTerm : LogState → ℕ → List Nameless → Option ℕ → Type 0
FindsTerm state line terms None = is_no_term state line ≡ true
FindsTerm state line terms (Some number) = NamesTerm state line terms number

abbrev pub FindsTheorem : LogState → ℕ → List Nameless → Option (Bor Theorem) → Type 0
FindsTheorem state line terms None = is_no_theorem state line ≡ true
FindsTheorem state line terms (Some theorem) = NamesTheorem state line terms theorem.now

-- what an addition denotes

abbrev pub added_types : TermTable → Addition → List HolType
added_types table (TypeNumber number) = type_at table.types number ∷ []
added_types table _ = []

abbrev pub added_terms : TermTable → List Written → Addition → List Nameless
added_terms table written (TermLine line) = image (named_of table.terms (named_terms table.terms written) line) ∷ []
added_terms table written _ = []

abbrev pub added_theorems : TermTable → Addition → List Sequent
added_theorems table (Proved theorem) = sequent_in table.terms theorem ∷ []
added_theorems table (Defined name ty body conclusion) = record { hypotheses = []; conclusion = term_at table.terms conclusion } ∷ []
added_theorems table _ = []

abbrev pub added_entries : TermTable → Addition → Theory
added_entries table (Defined name ty body conclusion) = definition (name_at table.names name) (type_at table.types ty) (term_at table.terms body) ∷ []
added_entries table (NewType name) = declaration_of_type (name_at table.names name) ∷ []
added_entries table (NewConstant name ty) = declaration_of_constant (name_at table.names name) (type_at table.types ty) ∷ []
added_entries table _ = []

abbrev pub added_claims : TermTable → List Theorem → Addition → List LogClaim
added_claims table theorems (Claimed claim) = claim_in table theorems claim ∷ []
added_claims table theorems _ = []

abbrev pub is_end : Addition → Bool
is_end Ended = true
is_end _ = false

-- there is room for an entry of the theory
abbrev pub HasRoom : Contents → Type 0
HasRoom contents = length contents.entries.items < DEFINITIONS_LIMIT

-- the constant's name is new, and its name and type stand in the tables
pub record IsNewConstant (table : TermTable) (contents : Contents) (name ty : ℕ) : Type 0 where
  pub name_within : name < length table.names
  pub type_within : ty < length table.types
  pub is_new : generic_type (theory_in table contents.entries.items) (name_at table.names name) ≡ None
  pub room : HasRoom contents

-- the numbers of an addition stand in the tables, what it adds is within the limits, and there is room for it
abbrev pub CanBeAdded : TermTable → Contents → Addition → Type 0
CanBeAdded table contents (TypeNumber number) = number < length table.types
CanBeAdded table contents (TermLine line) =
    PartsAreEarlier table.terms (length contents.terms.items) line.shape × Writes table (named_of table.terms (named_terms table.terms contents.terms.items) line) line
CanBeAdded table contents (Proved theorem) = IsFittingTheorem table.terms theorem
CanBeAdded table contents (Defined name ty body conclusion) = IsNewConstant table contents name ty × (body < length table.terms) × IsFitting table.terms conclusion
CanBeAdded table contents (NewType name) = (name < length table.names) × HasRoom contents
CanBeAdded table contents (NewConstant name ty) = IsNewConstant table contents name ty
CanBeAdded table contents (Claimed claim) = IsClaim table contents.theorems.items claim
CanBeAdded table contents Ended = Unit {0}

-- the addition is what the line adds
pub record Denotes (state : LogState) (line : LogLine) (table : TermTable) (contents : Contents) (addition : Addition) : Type 0 where
  pub types : new_types state line ≡ added_types table addition
  pub terms : new_terms state line ≡ added_terms table contents.terms.items addition
  pub theorems : new_theorems state line ≡ added_theorems table addition
  pub entries : new_entries state line ≡ added_entries table addition
  pub claims : new_claims state line ≡ added_claims table contents.theorems.items addition
  pub ends : ends line ≡ is_end addition

-- the first of the causes before `end` that applies to a line
abbrev pub first_fault : LogState → LogLine → Option Cause
first_fault state line =
    first_applying
    ((has_shape_fault state line, Shape)
    ∷ (has_number_fault state line, Number)
    ∷ (has_name_fault state line, Name)
    ∷ (has_type_fault state line, Kind)
    ∷ (has_constant_fault state line, Const)
    ∷ (has_rule_fault state line, Rule)
    ∷ (has_claim_fault state line, Claim)
    ∷ (has_size_fault state line, Large)
    ∷ [])

-- the line is accepted, and adds what the addition denotes
pub record IsAccepted (state : LogState) (line : LogLine) (table : TermTable) (contents : Contents) (addition : Addition) : Type 0 where
  pub accepted : first_fault state line ≡ None
  pub denotes : Denotes state line table contents addition
  pub added : CanBeAdded table contents addition

abbrev pub IsJudged : LogState → LogLine → TermTable → Contents → Result Addition Cause → Type 0
IsJudged state line table contents (Ok addition) = IsAccepted state line table contents addition
IsJudged state line table contents (Err cause) = first_fault state line ≡ Some cause

-- a line is judged after what the earlier lines gave; the tables may grow, and only memory that is used up refuses
pub record Judges (line : LogLine) (contents : Contents) (earlier : TermTable) (result : Result (Result Addition Cause) Fault) (now : TermTable) : Type 0 where
  pub judged : IfOk result (IsJudged (state_of earlier contents) line now contents)
  pub refused : IfErr result (λ fault. fault ≡ Memory)
  pub grows : IsGrown earlier now
