-- What is true of each accepted proof log.
use Rattle.std.specs.Prelude.{◌≡◌, None, Ok}
use Rattle.std.specs.List.{All}
use Rattle.hol_model.specs.Terms.Nameless.{Nameless}
use Rattle.hol_model.specs.Logic.Theory.{Theory, IsLegal, IsKnown, IsKnownType}
use Rattle.hol_model.specs.Logic.Derivable.{Derivable}
use Rattle.hol_model.specs.Goals.Goals.{Sequent}
use Rattle.hol_model.specs.Logs.LogLine.{LogVersion, LogLine}
use Rattle.hol_model.specs.Logs.LogState.{LogState, LogClaim, first_state, term_type}
use Rattle.hol_model.specs.Logs.LogSequents.{after_line}
use Rattle.hol_model.specs.Logs.LogFaults.{first_cause}
use Rattle.hol_model.specs.Logs.LogText.{LogText, log_outcome}

abbrev pub IsDerivable : Theory → Sequent → Type 0
IsDerivable theory sequent = Derivable theory sequent.hypotheses sequent.conclusion

-- the claim's sequent is derivable
abbrev pub IsDerivableClaim : Theory → LogClaim → Type 0
IsDerivableClaim theory claim = IsDerivable theory claim.sequent

-- a term that is known, at the type that it has
abbrev pub IsKnownTerm : Theory → Nameless → Type 0
IsKnownTerm theory term = IsKnown theory term (term_type term)

-- the entries are legal, the types and terms known over them, the theorems and claims derivable
pub record IsSoundState (state : LogState) : Type 0 where
  pub legal : IsLegal state.theory
  pub types : All (IsKnownType state.theory) state.types
  pub terms : All (IsKnownTerm state.theory) state.terms
  pub theorems : All (IsDerivable state.theory) state.theorems
  pub claims : All (IsDerivableClaim state.theory) state.claims

-- so it is after the header, after each accepted line, and at the end of an accepted log
pub record AcceptedLogsAreSound : Type 0 where
  pub first : (version : LogVersion) → IsSoundState (first_state version)
  pub next : (state : LogState) (line : LogLine) → first_cause state line ≡ None → IsSoundState state → IsSoundState (after_line state line)
  pub last : (text : LogText) (state : LogState) → log_outcome text ≡ Ok state → IsSoundState state
