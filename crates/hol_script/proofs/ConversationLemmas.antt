-- How a conversation stops, and how it ends.
use Rattle.std.proofs.Common.{◌≡◌, ℕ, ◌+◌, ◌≤◌, ◌<◌, List, [], ◌++◌, length, refl, ap, ◌∙◌, inr, arith, Bool, true, false, Option, None, Some, Err}
use Rattle.std.proofs.Common.{length-append}
use Rattle.std.specs.Prelude.{IfSome}
use Rattle.std.specs.Io.KnownBytes.{Consumes}
use Rattle.std.proofs.KnownBytes.{Appends-nil}
use Rattle.hol_model.specs.declared.fault.Fault.{Fault}
use Rattle.hol_model.specs.declared.fault.Fault.TheVariants.{Memory, ReadFault, WriteFault}
use Rattle.hol_model.specs.declared.limits.TheConstants.{TEXT_BYTES_LIMIT}
use Rattle.hol_model_sessions.specs.Script.{has_mark}
use Rattle.hol_model_sessions.specs.ScriptSessions.{State, Tools, text_of_turns}
use Rattle.hol_model_sessions.specs.Runs.{Counts, SourceUse, SinkUse}
use Rattle.hol_script.specs.Runs.{Breaks, TellsFront, devices_used, source_use}
use Rattle.hol_script.specs.RunLogs.{IsLogOver}
use Rattle.hol_script.specs.Courses.{IsUnderwayAt, BreaksAnswers, BreaksTold, StopsEarly, StopsTold, reads_no_more, breaks_in_answer, breaks_at_end}
use Rattle.hol_script.specs.Conversations.{TellsFirst, StopsBehind, Closes, in_input, in_answer, in_last_answer}
use Rattle.hol_script.proofs.HeadlineLemmas.{breaks_told, unwritten}
use Rattle.hol_script.proofs.EndLemmas.{breaks_off}
use Rattle.hol_script.proofs.CourseLemmas.{all-answered, front-here}

-- what a source gave are the first of its bytes
first-told : (failed : Bool) (told left : Option (List ℕ)) (read : List ℕ) → Consumes told left read → TellsFirst (source_use told failed) read
first-told failed None left read consumed = tt
first-told failed (Some all) None read consumed = absurd consumed
first-told failed (Some all) (Some rest) read consumed = (rest, consumed)

-- what a source gave is past the limit
pub too-long : (told mid left : Option (List ℕ)) (read chunk : List ℕ) → Consumes told mid read → Consumes mid left chunk → TEXT_BYTES_LIMIT < length read + length chunk
    → IfSome told (λ all. TEXT_BYTES_LIMIT < length all)
too-long None mid left read chunk first second longer = tt
too-long (Some all) None left read chunk first second longer = absurd first
too-long (Some all) (Some rest) None read chunk first second longer = absurd second
too-long (Some all) (Some rest) (Some end) read chunk first second longer =
    let whole : length all ≡ length read + length rest = ap length first ∙ length-append read rest in
    let part : length rest ≡ length chunk + length end = ap length second ∙ length-append chunk end in
    omega arith

module _ (tools : Tools) where
  -- a front of what a run writes, whatever follows, is a front of what a run of all that the source had writes
  front-told : (told left : Option (List ℕ)) (read : List ℕ) {written now : Option (List ℕ)} → Consumes told left read → ((more : List ℕ) → Breaks tools (read ++ more) written now)
      → BreaksTold tools told written now
  front-told None left read consumed breaks = record { script = read ++ []; read = tt; breaks = breaks [] }
  front-told (Some all) None read consumed breaks = absurd consumed
  front-told (Some all) (Some rest) read consumed breaks = record { script = read ++ rest; read = consumed; breaks = breaks rest }

  module _ (told left : Option (List ℕ)) (failed : Bool) {read : List ℕ} {written now : Option (List ℕ)} (consumed : Consumes told left read) (within : length read ≤ TEXT_BYTES_LIMIT) where
    -- no more is read: all commands that were read are answered
    pub stopped : {after : Option (List ℕ)} {state : State} {line : ℕ} {rest : List ℕ} {counts : Counts} {names : List (List ℕ)} {out_failed : Bool} (fault : Fault)
        → IsUnderwayAt tools read written now state line rest counts names → has_mark rest ≡ false → StopsBehind (source_use told failed) after read fault
        → (failed ≡ true → fault ≡ ReadFault) → out_failed ≡ false → StopsTold tools (source_use told failed) after written now out_failed fault
    stopped fault u waits stops told_fault unfailed = record {
      early = reads_no_more (record {
        read = read;
        turns = u.turns;
        answers_read = record { came = first-told failed told left read consumed; within_limit = within; is_answered = all-answered tools u waits };
        stops = stops;
        wrote = u.wrote;
      });
      front = front-told told left read consumed (front-here tools u);
      reader = told_fault;
      writer = λ has_failed. cc;
    }

    -- an answer was written in part
    pub answer-stopped : {after : Option (List ℕ)} {out_failed : Bool} {fault : Fault} → fault ≡ WriteFault → out_failed ≡ true → BreaksAnswers tools read written now
        → ((more : List ℕ) → Breaks tools (read ++ more) written now) → failed ≡ false → StopsTold tools (source_use told failed) after written now out_failed fault
    answer-stopped is has_failed b front unfailed = record {
      early = breaks_in_answer is has_failed (record {
        read = read;
        turns = b.turns;
        answers_read = record { came = first-told failed told left read consumed; within_limit = within; is_answered = b.is_answered };
        wrote = b.wrote;
      });
      front = front-told told left read consumed front;
      reader = λ source_failed. cc;
      writer = λ _. is;
    }

  unbegun-told : (told written : Option (List ℕ)) → BreaksTold tools told written written
  unbegun-told None written = record { script = []; read = tt; breaks = unwritten tools [] written }
  unbegun-told (Some all) written = record { script = all; read = refl; breaks = unwritten tools all written }

  -- nothing was read: there is no memory to begin
  pub unbegun : {failed out_failed : Bool} (told after written : Option (List ℕ)) → failed ≡ false → out_failed ≡ false
      → StopsTold tools (source_use told failed) after written written out_failed Memory
  unbegun {failed} {out_failed} told after written unread unfailed = record {
    early = reads_no_more (record {
      read = [];
      turns = [];
      answers_read = record { came = came told; within_limit = omega arith; is_answered = record { pieces = []; last = []; cuts = (refl, refl); session = tt } };
      stops = inr (inr refl);
      wrote = Appends-nil written;
    });
    front = unbegun-told told written;
    reader = λ source_failed. cc;
    writer = λ has_failed. cc;
  }
    where
      came : (told : Option (List ℕ)) → TellsFirst (source_use told failed) []
      came None = tt
      came (Some all) = (all, refl)

  pub front-walked : {told written now : Option (List ℕ)} → BreaksTold tools told written now → TellsFront told written now
  front-walked b = breaks_told tools b.script b.read b.breaks

  module _ (source : SourceUse) (left : Option (List ℕ)) (out log : SinkUse) where
    -- what was to be written was not written whole
    pub closes-early : {wants_log : Bool} (fault : Fault) → StopsEarly tools source left out.before out.after out.has_failed fault → log.IsUntouched
        → Closes tools IsLogOver (devices_used source out log) left (Err fault) wants_log
    closes-early fault (reads_no_more s) untouched =
        in_input (record { read = s.read; turns = s.turns; fault = fault; answers = refl; answers_read = s.answers_read; stops = s.stops; wrote = s.wrote; log = untouched })
    closes-early fault (breaks_in_answer is failed b) untouched = in_answer (record {
      read = b.read;
      turns = b.turns;
      answers = ap (λ (f : Fault). Err f) is;
      answers_read = b.answers_read;
      breaks_off = breaks_off out (text_of_turns b.turns) b.wrote failed;
      log = untouched;
    })
    closes-early fault (breaks_at_end is failed b) untouched = in_last_answer (record {
      turns = b.breaks.turns;
      answers = ap (λ (f : Fault). Err f) is;
      broken = record {
        script = b.script;
        read = b.read;
        within_limit = b.within_limit;
        is_run = b.breaks.is_run;
        breaks_off = breaks_off out (text_of_turns b.breaks.turns) b.breaks.wrote failed;
      };
      log = untouched;
    })
