-- The text of a pruned log.
use Rattle.std.proofs.Common.{◌≡◌, ◌≤◌, ◌<◌, ℕ, List, Bool, length, refl, ap, ◌∙◌, subst, Result, Ok, Err, Vec, Global}
use Rattle.std.specs.Prelude.{IfOk}
use Rattle.hol_model.specs.declared.limits.TheConstants.{TEXT_BYTES_LIMIT}
use Rattle.hol_model.specs.declared.fault.Fault.{Fault}
use Rattle.hol_model.specs.Logs.LogText.{log_outcome}
use Rattle.hol_logtext.specs.Laws.{LogsReadBack}
use Rattle.hol_logtext.specs.LogBytes.{log_text, bytes_of_lines}
use Rattle.hol_journal.specs.Journal.{Journal, IsJournal}
use Rattle.hol_journal_log.specs.Needed.{MarksNeeded}
use Rattle.hol_journal_log.specs.LogWriting.{Claimed, log_lines}
use Rattle.hol_journal_log.specs.LogAccepted.{LogsAreAccepted}
use Rattle.hol_journal_log.specs.Pruning.{AreMade, AreFitting, HaveIdentifiers, HasNames, entries_of_claims}
use Rattle.hol_journal_log.specs.LogOf.{IsPrunedText, IsNamedText, IsLogOf, IsPastLimit}
use Rattle.hol_journal_log.proofs.PrunedLemmas.{lines_accepted}

module _ (journal : Journal) (claims : List Claimed) where
  module _ (marks : List Bool) (needed : MarksNeeded journal.entries (entries_of_claims claims) marks) where
    -- the text of the lines
    pub text_named : (result : Result (Vec ℕ Global) Fault) → IfOk result (λ (text : Vec ℕ Global). text.items ≡ bytes_of_lines (log_lines journal.entries marks claims))
        → IfOk result (λ (text : Vec ℕ Global). HasNames (log_lines journal.entries marks claims)) → IfOk result (λ (text : Vec ℕ Global). IsNamedText journal claims text.items)
    text_named (Ok text) spelled named = record {
      is = record { lines = log_lines journal.entries marks claims; pruned = record { marks = marks; needed = needed; is_log = refl }; spelled = spelled };
      named = named;
    }
    text_named (Err fault) spelled named = tt

    -- lines that are past the limit
    pub text_past : TEXT_BYTES_LIMIT < length (bytes_of_lines (log_lines journal.entries marks claims)) → IsPastLimit journal claims
    text_past longer = record {
      text = bytes_of_lines (log_lines journal.entries marks claims);
      pruned = record { lines = log_lines journal.entries marks claims; pruned = record { marks = marks; needed = needed; is_log = refl }; spelled = refl };
      longer = longer;
    }

  -- what is told of the text, without the names
  pub text_pruned : (result : Result (Vec ℕ Global) Fault) → IfOk result (λ (text : Vec ℕ Global). IsNamedText journal claims text.items)
      → IfOk result (λ (text : Vec ℕ Global). IsPrunedText journal claims text.items)
  text_pruned (Ok text) named = named.is
  text_pruned (Err fault) named = tt

  -- the text of accepted lines is accepted
  pub text_accepted : (result : Result (Vec ℕ Global) Fault) → LogsAreAccepted → LogsReadBack → IsJournal journal → AreMade journal claims → AreFitting claims
      → IfOk result (λ (text : Vec ℕ Global). IsNamedText journal claims text.items) → IfOk result (λ (text : Vec ℕ Global). length text.items ≤ TEXT_BYTES_LIMIT)
      → HaveIdentifiers claims → IfOk result (λ (text : Vec ℕ Global). IsLogOf journal.theory text.items claims)
  text_accepted (Ok text) accepts read is made fitting named within identifiers =
      let lines = named.is.lines in
      let spelled = named.is.spelled in
      let accepted = lines_accepted lines journal claims accepts is made fitting named.is.pruned named.named identifiers in
      record {
        state = accepted.state;
        accepted = ap (λ (bytes : List ℕ). log_outcome (log_text bytes)) spelled
            ∙ read.accepted lines accepted.state (subst (λ (bytes : List ℕ). length bytes ≤ TEXT_BYTES_LIMIT) spelled within) accepted.outcome;
        claimed = accepted.are_claimed;
        entries = accepted.entries;
      }
  text_accepted (Err fault) accepts read is made fitting named within identifiers = tt
