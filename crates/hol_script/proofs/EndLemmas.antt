-- How a run ends.
use Rattle.std.proofs.Common.{◌≡◌, ℕ, zero, suc, ◌≤◌, ◌<◌, List, [], ◌∷◌, length, refl, sym, ap, subst, ◌⊎◌, inl, inr, arith, Bool, true, false, Ok, Err, Result, Option}
use Rattle.std.specs.Prelude.{IfSome, IfErr, OnOk, OnErr, IsErrOf, Contains}
use Rattle.hol_model.specs.declared.fault.Fault.{Fault}
use Rattle.hol_model.specs.declared.fault.Fault.TheVariants.{Memory, ReadFault, TooLong, WriteFault}
use Rattle.hol_model.specs.declared.limits.TheConstants.{TEXT_BYTES_LIMIT}
use Rattle.hol_model_sessions.specs.ScriptSessions.{Tools, start, last_state, text_of_turns}
use Rattle.hol_model_sessions.specs.Runs.{Counts, no_counts, counts_after, SourceUse, SinkUse, Tells, BreaksOff, CannotBegin, IsWhole, IsShortLog, claims_of_turns, Ends, unread, in_output}
use Rattle.hol_model_sessions.specs.Runs.{before_log, in_log, logged, unlogged}
use Rattle.hol_device_io.specs.Bytes.{AppendsFront}
use Rattle.hol_script_manager.specs.Managers.{state_of}
use Rattle.hol_script.specs.declared.progress.Progress.{Progress}
use Rattle.hol_script_manager.specs.Session.{IsAcceptedLog, IsLongLog}
use Rattle.hol_script.specs.Runs.{counts_of, names_of, if_logged, Finishes, Breaks, devices_used}
use Rattle.hol_script.specs.Conversations.{EndsWhole, without_log, in_written_log, with_log, unasked}
use Rattle.hol_script.specs.RunLogs.{IsLogOver, WritesLog, WritesFront, Logs, claims_listed, journal_of}
use Rattle.hol_script.proofs.RunLogLemmas.{over-end, short-over, long-over}

pub same_fault : (fault other : Fault) {A : Type 0} → fault ≡ other → IsErrOf {T = A} (Err fault) other
same_fault fault other same = ap (λ (e : Fault). Err e) same

-- the front of the text, as a broken sink has it
pub breaks_off : (sink : SinkUse) (text : List ℕ) → AppendsFront sink.before sink.after text → sink.has_failed ≡ true → BreaksOff sink text
breaks_off sink text front failed = record { front = front.front; rest = front.rest; whole = front.whole; wrote = front.taken; failed = failed }

module _ (tools : Tools) (source : SourceUse) (out log : SinkUse) where
  abbrev EndsSo : Result Counts Fault → Bool → Type 0
  EndsSo answer wants_log = Ends tools IsLogOver (devices_used source out log) answer wants_log

  abbrev EndsWholeSo : Result Counts Fault → Bool → Type 0
  EndsWholeSo answer wants_log = EndsWhole tools IsLogOver (devices_used source out log) answer wants_log

  -- a run whose output is whole ends as a run
  ends-as_run : {answer : Result Counts Fault} {wants_log : Bool} → EndsWholeSo answer wants_log → EndsSo answer wants_log
  ends-as_run (without_log e) = before_log e
  ends-as_run (in_written_log e) = in_log e
  ends-as_run (with_log e) = logged e
  ends-as_run (unasked e) = unlogged e

  -- ---- nothing is run

  cannot_begin : {A : Type 0} (fault : Fault) → Contains (ReadFault ∷ TooLong ∷ Memory ∷ []) fault → (IsErrOf {T = A} (Err fault) ReadFault → source.has_failed ≡ true)
      → (IsErrOf {T = A} (Err fault) TooLong → IfSome source.told (λ told. TEXT_BYTES_LIMIT < length told)) → CannotBegin source fault
  cannot_begin fault (zero, within, is) failed long = inl (sym is, failed (same_fault fault ReadFault (sym is)))
  cannot_begin fault (suc zero, within, is) failed long = inr (inl (sym is, long (same_fault fault TooLong (sym is))))
  cannot_begin fault (suc (suc zero), within, is) failed long = inr (inr (sym is))
  cannot_begin fault (suc (suc (suc place)), within, is) failed long = absurd (omega (arith, within))

  pub ends-unread : {A : Type 0} {wants_log : Bool} (fault : Fault) → Contains (ReadFault ∷ TooLong ∷ Memory ∷ []) fault → (IsErrOf {T = A} (Err fault) ReadFault → source.has_failed ≡ true)
      → (IsErrOf {T = A} (Err fault) TooLong → IfSome source.told (λ told. TEXT_BYTES_LIMIT < length told)) → out.IsUntouched → log.IsUntouched → EndsSo (Err fault) wants_log
  ends-unread fault listed failed long out_untouched log_untouched =
      unread (record { fault = fault; answers = refl; cannot_begin = cannot_begin fault listed failed long; out = out_untouched; log = log_untouched })

  module _ (script : List ℕ) (read : Tells source script) (within_limit : length script ≤ TEXT_BYTES_LIMIT) where
    -- ---- the output breaks off, or there is no memory to begin

    pub ends-in_output : {A : Type 0} {wants_log : Bool} (fault : Fault) → Contains (WriteFault ∷ Memory ∷ []) fault → Breaks tools script out.before out.after
        → (IsErrOf {T = A} (Err fault) WriteFault → out.has_failed ≡ true) → (IsErrOf {T = A} (Err fault) Memory → out.IsUntouched) → log.IsUntouched → EndsSo (Err fault) wants_log
    ends-in_output {wants_log = wants_log} fault (zero, within, is) b failed untouched log_untouched =
        subst (λ (f : Fault). EndsSo (Err f) wants_log) is (in_output (record {
          turns = b.turns;
          answers = refl;
          broken = record {
            script = script;
            read = read;
            within_limit = within_limit;
            is_run = b.is_run;
            breaks_off = breaks_off out (text_of_turns b.turns) b.wrote (failed (same_fault fault WriteFault (sym is)));
          };
          log = log_untouched;
        }))
    ends-in_output fault (suc zero, within, is) b failed untouched log_untouched =
        unread (record { fault = fault; answers = refl; cannot_begin = inr (inr (sym is)); out = untouched (same_fault fault Memory (sym is)); log = log_untouched })
    ends-in_output fault (suc (suc place), within, is) b failed untouched log_untouched = absurd (omega (arith, within))

    module _ (progress : Progress) (f : Finishes tools script out.before out.after (counts_of progress.summary) (names_of progress) (state_of progress.manager)) where
      -- ---- the output is whole

      whole : IsWhole tools (devices_used source out log) f.turns
      whole = record { script = script; read = read; within_limit = within_limit; is_run = f.is_run; wrote = f.wrote }

      counted : ◌≡◌ {A = Result Counts Fault} (Ok (counts_of progress.summary)) (Ok (counts_after no_counts f.turns))
      counted = ap (λ (counts : Counts). Ok counts) f.counted

      over : {text : List ℕ} → IsLogOver (journal_of progress).theory (claims_listed progress) text → IsLogOver (last_state start f.turns).library.theory (claims_of_turns f.turns) text
      over {text = text} is = over-end progress f (λ theory claims. IsLogOver theory claims text) is

      short : {text : List ℕ} → IsAcceptedLog (journal_of progress) (claims_listed progress) text → IsShortLog IsLogOver f.turns text
      short is = record { is_log = over (short-over is); within_limit = is.within_limit }

      logs : WritesLog (journal_of progress) (claims_listed progress) log.before log.after → EndsWholeSo (Ok (counts_of progress.summary)) true
      logs writes = with_log (record { turns = f.turns; text = writes.log; answers = counted; whole = whole; is_log = short writes.is_log; wrote = writes.wrote })

      -- the log breaks off, or there is none
      log_fails : {A : Type 0} (fault : Fault) → Contains (WriteFault ∷ TooLong ∷ Memory ∷ []) fault
          → (IsErrOf {T = A} (Err fault) WriteFault → (log.has_failed ≡ true) × WritesFront (journal_of progress) (claims_listed progress) log.before log.after)
          → (IsErrOf {T = A} (Err fault) TooLong → IsLongLog (journal_of progress) (claims_listed progress))
          → ((IsErrOf {T = A} (Err fault) TooLong ⊎ IsErrOf {T = A} (Err fault) Memory) → log.IsUntouched) → EndsWholeSo (Err fault) true
      log_fails fault (zero, within, is) broken long untouched =
          let (failed, writes) = broken (same_fault fault WriteFault (sym is)) in
          subst (λ (e : Fault). EndsWholeSo (Err e) true) is (in_written_log (record {
            turns = f.turns;
            text = writes.log;
            answers = refl;
            whole = whole;
            is_log = short writes.is_log;
            breaks_off = breaks_off log writes.log writes.wrote failed;
          }))
      log_fails fault (suc zero, within, is) broken long untouched =
          let longer = long (same_fault fault TooLong (sym is)) in
          without_log (record {
            turns = f.turns;
            fault = fault;
            answers = refl;
            whole = whole;
            has_none = inl (sym is, (longer.log, over (long-over longer), longer.longer));
            log = untouched (inl (same_fault fault TooLong (sym is)));
          })
      log_fails fault (suc (suc zero), within, is) broken long untouched =
          without_log (record { turns = f.turns; fault = fault; answers = refl; whole = whole; has_none = inr (sym is); log = untouched (inr (same_fault fault Memory (sym is))) })
      log_fails fault (suc (suc (suc place)), within, is) broken long untouched = absurd (omega (arith, within))

      log_ends : (outcome : Result Unit Fault) → OnOk outcome (WritesLog (journal_of progress) (claims_listed progress) log.before log.after)
          → IfErr outcome (Contains (WriteFault ∷ TooLong ∷ Memory ∷ []))
          → (IsErrOf outcome WriteFault → (log.has_failed ≡ true) × WritesFront (journal_of progress) (claims_listed progress) log.before log.after)
          → (IsErrOf outcome TooLong → IsLongLog (journal_of progress) (claims_listed progress))
          → ((IsErrOf outcome TooLong ⊎ IsErrOf outcome Memory) → log.IsUntouched) → EndsWholeSo (if_logged outcome (counts_of progress.summary)) true
      log_ends (Ok done) writes listed broken long untouched = logs writes
      log_ends (Err fault) writes listed broken long untouched = log_fails fault listed broken long untouched

      -- the log was written, or is refused, or none was asked for
      pub whole-logged : (wants_log : Bool) (outcome : Result Unit Fault) → (wants_log ≡ false → log.IsUntouched) → OnErr outcome (wants_log ≡ true)
          → (wants_log ≡ true → OnOk outcome (WritesLog (journal_of progress) (claims_listed progress) log.before log.after))
          → IfErr outcome (Contains (WriteFault ∷ TooLong ∷ Memory ∷ []))
          → (IsErrOf outcome WriteFault → (log.has_failed ≡ true) × WritesFront (journal_of progress) (claims_listed progress) log.before log.after)
          → (IsErrOf outcome TooLong → IsLongLog (journal_of progress) (claims_listed progress))
          → ((IsErrOf outcome TooLong ⊎ IsErrOf outcome Memory) → log.IsUntouched) → EndsWholeSo (if_logged outcome (counts_of progress.summary)) wants_log
      whole-logged true outcome untouched asked writes listed broken long unwritten = log_ends outcome (writes refl) listed broken long unwritten
      whole-logged false (Ok done) untouched asked writes listed broken long unwritten = unasked (record { turns = f.turns; answers = counted; whole = whole; log = untouched refl })
      whole-logged false (Err fault) untouched asked writes listed broken long unwritten = cc

      -- as a run ends
      pub ends-logged : (wants_log : Bool) (outcome : Result Unit Fault) → (wants_log ≡ false → log.IsUntouched) → OnErr outcome (wants_log ≡ true)
          → (wants_log ≡ true → OnOk outcome (WritesLog (journal_of progress) (claims_listed progress) log.before log.after))
          → IfErr outcome (Contains (WriteFault ∷ TooLong ∷ Memory ∷ []))
          → (IsErrOf outcome WriteFault → (log.has_failed ≡ true) × WritesFront (journal_of progress) (claims_listed progress) log.before log.after)
          → (IsErrOf outcome TooLong → IsLongLog (journal_of progress) (claims_listed progress))
          → ((IsErrOf outcome TooLong ⊎ IsErrOf outcome Memory) → log.IsUntouched) → EndsSo (if_logged outcome (counts_of progress.summary)) wants_log
      ends-logged wants_log outcome untouched asked writes listed broken long unwritten =
          ends-as_run (whole-logged wants_log outcome untouched asked writes listed broken long unwritten)

-- what became of the log, where its sink tells
pub logs-told : {failed : Bool} (progress : Progress) {before after : Option (List ℕ)} (outcome : Result Unit Fault)
    → OnOk outcome (WritesLog (journal_of progress) (claims_listed progress) before after)
    → (IsErrOf outcome WriteFault → (failed ≡ true) × WritesFront (journal_of progress) (claims_listed progress) before after)
    → (IsErrOf outcome TooLong → IsLongLog (journal_of progress) (claims_listed progress))
    → Logs (journal_of progress) (claims_listed progress) before after outcome
logs-told progress outcome written broken long = record { written = written; broken = λ is. (broken is).1; too_long = long }

is-no-fault : (done : Unit {0}) → ◌≡◌ {A = Result Unit Fault} (Ok done) (Err WriteFault) → ⊥
is-no-fault done same = cc

is-fault : (fault : Fault) → ◌≡◌ {A = Result Unit Fault} (Err fault) (Err WriteFault) → fault ≡ WriteFault
is-fault fault same = cc

-- a sink that has failed is told by the run's answer
pub told-so : {failed : Bool} (counts : Counts) (outcome : Result Unit Fault) → (failed ≡ true → IsErrOf outcome WriteFault) → failed ≡ true → IsErrOf (if_logged outcome counts) WriteFault
told-so counts (Ok done) told has_failed = absurd (is-no-fault done (told has_failed))
told-so counts (Err fault) told has_failed = ap (λ (e : Fault). Err e) (is-fault fault (told has_failed))
