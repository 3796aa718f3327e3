-- The pruned log of a journal.
use Rattle.std.specs.Prelude.{◌≡◌, ℕ, List, ◌∷◌, Bool, true, map}
use Rattle.std.specs.List.{list_all}
use Rattle.hol_model.specs.Logic.Derivable.{IsMember}
use Rattle.hol_model.specs.Logs.LogLine.{LogLine}
use Rattle.hol_model.specs.Terms.NamedTerm.{NamedTerm}
use Rattle.hol_model.specs.Kernel.Theorem.{Theorem, IsTheorem}
use Rattle.hol_model.specs.Terms.Name.{is_identifier}
use Rattle.hol_journal.specs.Journal.{Journal, IsMade}
use Rattle.hol_journal_log.specs.Needed.{MarksNeeded}
use Rattle.hol_journal_log.specs.LogWriting.{Claimed, log_lines}
use Rattle.hol_journal_log.specs.LogAccepted.{has_name, IsFormulaWithin}

-- the entries that claims cite
abbrev pub entries_of_claims : List Claimed → List ℕ
entries_of_claims claims = map (λ claim. claim.made.entry) claims

-- the lines of the log of the needed entries and the claims
pub record IsPruned (journal : Journal) (claims : List Claimed) (lines : List LogLine) : Type 0 where
  pub marks : List Bool
  pub needed : MarksNeeded journal.entries (entries_of_claims claims) marks
  pub is_log : lines ≡ log_lines journal.entries marks claims

-- the recorder made the theorem of each claim
abbrev pub AreMade : Journal → List Claimed → Type 0
AreMade journal claims = (claim : Claimed) → IsMember claim claims → IsMade journal claim.made

abbrev pub HaveIdentifiers : List Claimed → Type 0
HaveIdentifiers claims = (claim : Claimed) → IsMember claim claims → is_identifier claim.name ≡ true

-- the name in each line of a type or of a term is of its kind
abbrev pub HasNames : List LogLine → Type 0
HasNames lines = list_all has_name lines ≡ true

-- a theorem whose terms are formulas within the limits
pub record IsFitting (theorem : Theorem) : Type 0 where
  pub is_theorem : IsTheorem theorem
  pub formulas : (term : NamedTerm) → IsMember term (theorem.conclusion ∷ theorem.hypotheses) → IsFormulaWithin term

abbrev pub AreFitting : List Claimed → Type 0
AreFitting claims = (claim : Claimed) → IsMember claim claims → IsFitting claim.made.theorem
