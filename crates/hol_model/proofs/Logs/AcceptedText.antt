-- What an accepted proof log claims is derivable over its entries.
use Rattle.std.proofs.Common.{◌≡◌, ℕ, ◌+◌, List, [], ◌∷◌, Bool, true, false, Option, Some, None, Ok, Err, refl, subst}
use Rattle.hol_model.specs.declared.fault.Cause.{Cause}
use Rattle.hol_model.specs.declared.fault.Cause.TheVariants.{Cut}
use Rattle.hol_model.specs.Logs.LogLine.{LogVersion}
use Rattle.hol_model.specs.Logs.LogState.{LogState, first_state}
use Rattle.hol_model.specs.Logs.LogSequents.{after_line}
use Rattle.hol_model.specs.Logs.LogFaults.{first_cause}
use Rattle.hol_model.specs.Logs.LogText.{ReadLine, LogText, at_end, unless_refused, from_line, dest_header, after_header, log_outcome_of, log_outcome}
use Rattle.hol_model.specs.Logs.LogLaws.{IsSoundState, AcceptedLogsAreSound}
use Rattle.hol_model.proofs.Logs.AcceptedLog.{after_line-sound, first_state-sound}

-- from a sound state on an accepted log ends in a sound state
from_line-sound : (rest : Option ReadLine) (lines : List ReadLine) (number : ℕ) (state last : LogState) → IsSoundState state → from_line rest lines number state ≡ Ok last → IsSoundState last
from_line-sound None [] number state last sound accepted = go state.is_ended accepted
  where
    go : (ended : Bool) → at_end ended number state ≡ Ok last → IsSoundState last
    go true is = let same : state ≡ last = cc in subst IsSoundState same sound
    go false is = cc
from_line-sound (Some cut) [] number state last sound accepted = cc
from_line-sound rest (None ∷ more) number state last sound accepted = cc
from_line-sound rest (Some line ∷ more) number state last sound accepted =
    go (first_cause state line) refl accepted (λ none. from_line-sound rest more (number + 1) (after_line state line) last (after_line-sound state line none sound))
  where
    go : (cause : Option Cause) → first_cause state line ≡ cause → unless_refused number cause (from_line rest more (number + 1) (after_line state line)) ≡ Ok last
        → (first_cause state line ≡ None → from_line rest more (number + 1) (after_line state line) ≡ Ok last → IsSoundState last) → IsSoundState last
    go None none is later = later none is
    go (Some cause) some is later = cc

log_outcome_of-sound : (lines : List ReadLine) (rest : Option ReadLine) (last : LogState) → log_outcome_of lines rest ≡ Ok last → IsSoundState last
log_outcome_of-sound [] None last accepted = cc
log_outcome_of-sound [] (Some cut) last accepted = go (dest_header cut) accepted
  where
    go : (header : Option LogVersion) → after_header header (λ version. Err (1, Cut)) ≡ Ok last → IsSoundState last
    go None is = cc
    go (Some version) is = cc
log_outcome_of-sound (first ∷ more) rest last accepted = go (dest_header first) accepted
  where
    go : (header : Option LogVersion) → after_header header (λ version. from_line rest more 2 (first_state version)) ≡ Ok last → IsSoundState last
    go None is = cc
    go (Some version) is = from_line-sound rest more 2 (first_state version) last (first_state-sound version) is

-- each type, term, theorem and claim of an accepted log is known or derivable over its entries, which are legal
pub accepted-sound : (text : LogText) (last : LogState) → log_outcome text ≡ Ok last → IsSoundState last
accepted-sound text last accepted = log_outcome_of-sound text.lines text.rest last accepted

pub accepted_logs_are_sound : AcceptedLogsAreSound
accepted_logs_are_sound = record { first = first_state-sound; next = after_line-sound; last = accepted-sound }
