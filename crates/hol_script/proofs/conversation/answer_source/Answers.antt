use Rattle.std.proofs.Common.{rules, ◌≡◌, ◌∙◌, ◌≤◌, ◌<◌, ◌+◌, ℕ, List, ◌++◌, length, take, drop, false, refl, sym, ap, subst, inl, inr, arith}
use Rattle.std.proofs.lemmas.Result.{err_from_is_err_and}
use Rattle.std.specs.Io.KnownBytes.{Consumes}
use Rattle.std.proofs.KnownBytes.{Consumes-nil, Consumes-trans, Consumes-kept}
use Rattle.hol_model.specs.declared.fault.Fault.TheVariants.{Memory, ReadFault, TooLong}
use Rattle.hol_model.specs.declared.limits.TheConstants.{TEXT_BYTES_LIMIT}
use Rattle.hol_model_sessions.specs.Script.{has_mark}
use Rattle.hol_script_manager.specs.Session.{session_tools}
use Rattle.hol_script.specs.Courses.{IsWithin, IsUnderway}
use Rattle.hol_script.proofs.CourseLemmas.{course-begun, within-begun, waits-begun, course-read}
use Rattle.hol_script.proofs.ConversationLemmas.{too-long, stopped, answer-stopped}
use Rattle.hol_script.proofs.conversation.answer_source.Goals as goal

pub pulls-init : goal.pulls-init
pulls-init g c =
    let told = (g.R.Source.remaining c.args.reader.now) in
    let none : length c.args.read.now.items ≡ 0 = ap length c.requires.unread in
    let within : length c.args.read.now.items ≤ 16777216 = omega arith in
    record {
      underway = course-begun (session_tools (g.H.Refiners.refiners c.args.host.now) (g.H.Converters.conversions c.args.host.now)) c.args.read.now.items (g.W.Sink.contents c.args.writer.now)
          c.requires.begun;
      within = within-begun c.args.read.now.items within c.requires.begun;
      waits = waits-begun c.args.read.now.items c.requires.begun c.requires.unread;
      consumed = subst (λ (l : List ℕ). Consumes told told l) (sym c.requires.unread) (Consumes-nil told);
      reader_unfailed = c.requires.reader_unfailed;
      writer_unfailed = c.requires.writer_unfailed;
      within_limit = within;
    }

pub returns-in_default-clause-err : goal.returns-in_default-clause-err
returns-in_default-clause-err g c =
    stopped (session_tools (g.H.Refiners.refiners c.args.host.now) (g.H.Converters.conversions c.args.host.now)) (g.R.Source.remaining c.args.reader.now) (g.R.Source.remaining c.pulls.reader)
    (g.R.Source.has_failed c.pull.new.self)
    c.pulls.invariant.consumed c.pulls.invariant.within_limit
    ReadFault c.pulls.invariant.underway c.pulls.invariant.waits
    (inl (
      refl,
      search rules,
      Consumes-kept (g.R.Source.remaining c.args.reader.now) (g.R.Source.remaining c.pulls.reader) (g.R.Source.remaining c.pull.new.self) c.pulls.read.items
          c.pulls.invariant.consumed c.in_default.ensures.bytes,
    ))
    (λ _. refl) c.pulls.invariant.writer_unfailed

pub returns-then-count-known-clause-err : goal.returns-then-count-known-clause-err
returns-then-count-known-clause-err g c =
    let chunk = take c.in-Ok.count c.pull.new.buf in
    let longer : TEXT_BYTES_LIMIT < length c.pulls.read.items + length chunk = search rules in
    stopped (session_tools (g.H.Refiners.refiners c.args.host.now) (g.H.Converters.conversions c.args.host.now)) (g.R.Source.remaining c.args.reader.now) (g.R.Source.remaining c.pulls.reader)
    (g.R.Source.has_failed c.pull.new.self)
    c.pulls.invariant.consumed c.pulls.invariant.within_limit
    TooLong c.pulls.invariant.underway c.pulls.invariant.waits
    (inr (inl (
      refl,
      too-long (g.R.Source.remaining c.args.reader.now) (g.R.Source.remaining c.pulls.reader) (g.R.Source.remaining c.pull.new.self) c.pulls.read.items chunk
          c.pulls.invariant.consumed c.in-Ok.ensures.bytes.0 longer,
    )))
    (search rules) c.pulls.invariant.writer_unfailed

pub returns-in_err-extend_from_slice-clause-err : goal.returns-in_err-extend_from_slice-clause-err
returns-in_err-extend_from_slice-clause-err g c =
    let p = err_from_is_err_and c.from_residual.result c.from_residual.ensures.1 in
    rw (p.1, p.2)
    (stopped (session_tools (g.H.Refiners.refiners c.args.host.now) (g.H.Converters.conversions c.args.host.now)) (g.R.Source.remaining c.args.reader.now) (g.R.Source.remaining c.pulls.reader)
    (g.R.Source.has_failed c.pull.new.self)
    c.pulls.invariant.consumed c.pulls.invariant.within_limit
    Memory c.pulls.invariant.underway c.pulls.invariant.waits (inr (inr refl)) (search rules) c.pulls.invariant.writer_unfailed)

pub pulls-preserved : goal.pulls-preserved
pulls-preserved g c =
    let tools = (session_tools (g.H.Refiners.refiners c.args.host.now) (g.H.Converters.conversions c.args.host.now)) in
    let read = c.pulls.read.items in
    let chunk = take c.in-Ok.count c.pull.new.buf in
    let items : c.extend_from_slice.new.self.items ≡ read ++ chunk = c.in_ok-extend_from_slice.ensures.items in
    let whole : c.deref.result.now ≡ read ++ chunk = c.deref.ensures.value ∙ items in
    let more : IsUnderway tools c.deref.result.now (g.W.Sink.contents c.args.writer.now) (g.W.Sink.contents c.pulls.writer) c.pulls.course =
    subst (λ (l : List ℕ). IsUnderway tools l (g.W.Sink.contents c.args.writer.now) (g.W.Sink.contents c.pulls.writer) c.pulls.course) (sym whole)
    (course-read tools read chunk c.pulls.course c.pulls.invariant.within.place c.pulls.invariant.underway) in
    let consumed : Consumes (g.R.Source.remaining c.args.reader.now) (g.R.Source.remaining c.pull.new.self) (read ++ chunk) =
    Consumes-trans (g.R.Source.remaining c.args.reader.now) (g.R.Source.remaining c.pulls.reader) (g.R.Source.remaining c.pull.new.self) read chunk c.pulls.invariant.consumed
    c.in-Ok.ensures.bytes.0 in
    let same = c.deref.ensures.value in
    record {
      underway = subst (λ (l : List ℕ). IsUnderway tools l (g.W.Sink.contents c.args.writer.now) (g.W.Sink.contents c.answer_read.new.writer) c.answer_read.new.self) same
          (c.in_ok-answer_read.ensures.goes_on (g.W.Sink.contents c.args.writer.now) more);
      within = subst (λ (l : List ℕ). IsWithin l c.answer_read.new.self) same c.in_ok-answer_read.ensures.within;
      waits = subst (λ (l : List ℕ). has_mark (drop c.answer_read.new.self.at l) ≡ false) same c.in_ok-answer_read.ensures.waits;
      consumed = subst (λ (l : List ℕ). Consumes (g.R.Source.remaining c.args.reader.now) (g.R.Source.remaining c.pull.new.self) l) (sym items) consumed;
      reader_unfailed = search rules;
      writer_unfailed = c.in_ok-answer_read.ensures.unfailed;
      within_limit = search rules;
    }

pub returns-in_err-answer_read-clause-err : goal.returns-in_err-answer_read-clause-err
returns-in_err-answer_read-clause-err g c =
    let tools = (session_tools (g.H.Refiners.refiners c.args.host.now) (g.H.Converters.conversions c.args.host.now)) in
    let read = c.pulls.read.items in
    let chunk = take c.in-Ok.count c.pull.new.buf in
    let items : c.extend_from_slice.new.self.items ≡ read ++ chunk = c.in_ok-extend_from_slice.ensures.items in
    let whole : c.deref.result.now ≡ read ++ chunk = c.deref.ensures.value ∙ items in
    let more : IsUnderway tools c.deref.result.now (g.W.Sink.contents c.args.writer.now) (g.W.Sink.contents c.pulls.writer) c.pulls.course =
    subst (λ (l : List ℕ). IsUnderway tools l (g.W.Sink.contents c.args.writer.now) (g.W.Sink.contents c.pulls.writer) c.pulls.course) (sym whole)
    (course-read tools read chunk c.pulls.course c.pulls.invariant.within.place c.pulls.invariant.underway) in
    let consumed : Consumes (g.R.Source.remaining c.args.reader.now) (g.R.Source.remaining c.pull.new.self) (read ++ chunk) =
    Consumes-trans (g.R.Source.remaining c.args.reader.now) (g.R.Source.remaining c.pulls.reader) (g.R.Source.remaining c.pull.new.self) read chunk c.pulls.invariant.consumed
    c.in-Ok.ensures.bytes.0 in
    let within : length c.deref.result.now ≤ 16777216 = search rules in
    let p = err_from_is_err_and c.from_residual-in_err-answer_read.result c.from_residual-in_err-answer_read.ensures.1 in
    rw (p.1, p.2)
    (answer-stopped tools (g.R.Source.remaining c.args.reader.now) (g.R.Source.remaining c.pull.new.self) (g.R.Source.has_failed c.pull.new.self)
    (subst (λ (l : List ℕ). Consumes (g.R.Source.remaining c.args.reader.now) (g.R.Source.remaining c.pull.new.self) l) (sym whole) consumed) within
    c.in_err-answer_read.ensures.err.kind c.in_err-answer_read.ensures.err.failed (c.in_err-answer_read.ensures.err.answers (g.W.Sink.contents c.args.writer.now) more)
    (λ further. c.in_err-answer_read.ensures.err.front (g.W.Sink.contents c.args.writer.now) further more) (search rules))
