-- The log of a journal in which what is needed is marked is accepted.
use Rattle.std.specs.Prelude.{◌≡◌, List, Bool, true, Some, None, Ok, map}
use Rattle.std.specs.List.{list_all}
use Rattle.hol_model.specs.Terms.Name.{is_identifier, is_type_variable_name, is_declared_type_name, is_constant_name}
use Rattle.hol_model.specs.Terms.HolType.{bool_type}
use Rattle.hol_model.specs.Terms.NamedTerm.{NamedTerm, type_of, is_within_limits}
use Rattle.hol_model.specs.Kernel.Theorem.{IsTheorem}
use Rattle.hol_model.specs.Logic.Theory.{Theory, Entry}
use Rattle.hol_model.specs.Logic.Derivable.{IsMember}
use Rattle.hol_model.specs.Logs.LogLine.{LogLine}
use Rattle.hol_model.specs.Logs.LogLine.LogLine.{type_variable_line, declared_type_line, variable_line, constant_line}
use Rattle.hol_model.specs.Logs.LogState.{LogState, LogClaim}
use Rattle.hol_model.specs.Logs.LogText.{LogText, log_outcome}
use Rattle.hol_journal.specs.Steps.{sequent_of_theorem}
use Rattle.hol_journal.specs.Journal.{Journal, IsJournal, IsMade}
use Rattle.hol_journal_log.specs.Needed.{MarksNeeded}
use Rattle.hol_journal_log.specs.LogWriting.{Claimed, terms_of_claim, log_lines}

-- the name in the line of a type or of a term is of its kind
abbrev pub has_name : LogLine → Bool
has_name (type_variable_line name) = is_type_variable_name name
has_name (declared_type_line name) = is_declared_type_name name
has_name (variable_line name ty) = is_identifier name
has_name (constant_line name ty) = is_constant_name name
has_name _ = true

-- a formula within the limits
pub record IsFormulaWithin (term : NamedTerm) : Type 0 where
  pub typed : type_of term ≡ Some bool_type
  pub within_limits : is_within_limits term ≡ true

-- an identifier for a theorem that the recorder made
pub record MayClaim (journal : Journal) (claim : Claimed) : Type 0 where
  pub is_name : is_identifier claim.name ≡ true
  pub made : IsMade journal claim.made
  pub theorem : IsTheorem claim.made.theorem
  pub formulas : (term : NamedTerm) → IsMember term (terms_of_claim claim) → IsFormulaWithin term

-- the claim as the log gives it
abbrev pub log_claim : Claimed → LogClaim
log_claim claim = record { name = claim.name; sequent = sequent_of_theorem claim.made.theorem }

-- a log that ends behind these lines
abbrev pub log_of : List LogLine → LogText
log_of lines = record { lines = map Some lines; rest = None }

-- each entry of a theory is one of another
abbrev pub IsPartOf : Theory → Theory → Type 0
IsPartOf part whole = (entry : Entry) → IsMember entry part → IsMember entry whole

-- the log is accepted, with these claims, over entries of this theory
pub record IsAccepted (theory : Theory) (lines : List LogLine) (claims : List Claimed) : Type 0 where
  pub state : LogState
  pub outcome : log_outcome (log_of lines) ≡ Ok state
  pub are_claimed : state.claims ≡ map log_claim claims
  pub entries : IsPartOf state.theory theory

abbrev pub LogsAreAccepted : Type 0
LogsAreAccepted = (journal : Journal) (marks : List Bool) (claims : List Claimed)
    → IsJournal journal → MarksNeeded journal.entries (map (λ claim. claim.made.entry) claims) marks
    → list_all has_name (log_lines journal.entries marks claims) ≡ true
    → ((claim : Claimed) → IsMember claim claims → MayClaim journal claim)
    → IsAccepted journal.theory (log_lines journal.entries marks claims) claims
