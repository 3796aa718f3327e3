use Rattle.std.proofs.Common.{◌≡◌, ℕ, List, ◌++◌, ◌+◌, ◌∙◌, drop, ap, sym, subst}
use Rattle.std.proofs.lemmas.Result.{err_from_is_err_and}
use Rattle.std.proofs.lemmas.List.{take_rest}
use Rattle.hol_model_sessions.specs.Script.{IsCut}
use Rattle.hol_script_manager.specs.declared.manager.Manager.{Manager}
use Rattle.hol_script_manager.specs.Managers.{state_of}
use Rattle.hol_script_manager.specs.Session.{session_tools}
use Rattle.hol_script.specs.declared.progress.Summary.{Summary}
use Rattle.hol_script.specs.Runs.{counts_of, counting_answer, names_of, names_in_answer}
use Rattle.hol_script.specs.Courses.{IsUnderwayAt}
use Rattle.hol_script.proofs.CourseLemmas.{behind-at, passed, turned, answer-broken, run-broken}
use Rattle.hol_script.proofs.course.Course.answer_next.Goals as goal
use Rattle.hol_script.proofs.course.Course.answer_next.Goals.{then-not-is_blank_text+in_ok-write_answer, else-not-is_blank_text}

pub returns-in_err-write_answer-clause-err : goal.returns-in_err-write_answer-clause-err
returns-in_err-write_answer-clause-err g c =
    let cut : IsCut (drop c.args.self.now.at c.args.read.now) c.in-Some.piece.now c.in-Some.field-0-1.now =
    subst (λ (left : List ℕ). IsCut left c.in-Some.piece.now c.in-Some.field-0-1.now) (take_rest c.args.read.now c.args.self.now.at) c.in-Some.ensures in
    let p = err_from_is_err_and c.from_residual.result c.from_residual.ensures.1 in
    rw (p.1, p.2) (record {
      kind = c.in_err-write_answer.ensures.kinds;
      failed = c.in_err-write_answer.ensures.failed;
      answers = λ written u. answer-broken (session_tools (g.H.Refiners.refiners c.args.host.now) (g.H.Converters.conversions c.args.host.now)) u c.in-Some.piece.now c.in-Some.field-0-1.now cut c.answer-answer.result
          c.leading_line_feeds.result (sym c.if-not-is_blank_text.ensures) c.answer-answer.ensures.turns c.leading_line_feeds.ensures.count c.in_err-write_answer.ensures.err;
      front = λ written more u. run-broken (session_tools (g.H.Refiners.refiners c.args.host.now) (g.H.Converters.conversions c.args.host.now)) u c.in-Some.piece.now c.in-Some.field-0-1.now cut c.answer-answer.result
          c.leading_line_feeds.result (sym c.if-not-is_blank_text.ensures) c.answer-answer.ensures.turns c.leading_line_feeds.ensures.count more c.in_err-write_answer.ensures.err;
    })

pub returns-clause-goes_on : goal.returns-clause-goes_on
returns-clause-goes_on g c = λ written u.
    let cut : IsCut (drop c.args.self.now.at c.args.read.now) c.in-Some.piece.now c.in-Some.field-0-1.now =
    subst (λ (left : List ℕ). IsCut left c.in-Some.piece.now c.in-Some.field-0-1.now) (take_rest c.args.read.now c.args.self.now.at) c.in-Some.ensures in
    let past = behind-at c.args.read.now c.in-Some.piece.now c.in-Some.field-0-1.now c.args.self.now.at cut in
    elim c.if-not-is_blank_text.branch [
      | then-not-is_blank_text+in_ok-write_answer w ↦
          let same : w.answer-answer.new.self.summary ≡ c.args.self.now.progress.summary = w.answer-answer.ensures.summary in
          rw (w.writer-is, w.self-is)
          (subst (λ (left : List ℕ). IsUnderwayAt (session_tools (g.H.Refiners.refiners c.args.host.now) (g.H.Converters.conversions c.args.host.now)) c.args.read.now written
          (g.W.Sink.contents w.write_answer.new.writer) (state_of w.keep.new.self.manager)
          (c.args.self.now.line + c.line_feeds.result) left (counts_of w.keep.new.self.summary) (names_of w.keep.new.self)) (sym past)
          (subst (λ (manager : Manager). IsUnderwayAt (session_tools (g.H.Refiners.refiners c.args.host.now) (g.H.Converters.conversions c.args.host.now)) c.args.read.now written
          (g.W.Sink.contents w.write_answer.new.writer) (state_of manager)
          (c.args.self.now.line + c.line_feeds.result) c.in-Some.field-0-1.now (counts_of w.keep.new.self.summary) (names_of w.keep.new.self)) (sym w.keep.ensures.manager)
          (turned (session_tools (g.H.Refiners.refiners c.args.host.now) (g.H.Converters.conversions c.args.host.now)) u c.in-Some.piece.now c.in-Some.field-0-1.now
          cut w.answer-answer.result w.leading_line_feeds.result (sym w.if-not-is_blank_text.ensures) w.answer-answer.ensures.turns
          w.leading_line_feeds.ensures.count c.line_feeds.result c.line_feeds.ensures.count w.in_ok-write_answer.ensures.ok
          (w.keep.ensures.counts ∙ ap (λ (s : Summary). counting_answer (counts_of s) w.answer-answer.result) same)
          (w.keep.ensures.names ∙ ap (λ (names : List (List ℕ)). names ++ names_in_answer w.answer-answer.result) w.answer-answer.ensures.names))))
      | else-not-is_blank_text w ↦
          rw (w.writer-is, w.self-is)
          (subst (λ (left : List ℕ). IsUnderwayAt (session_tools (g.H.Refiners.refiners c.args.host.now) (g.H.Converters.conversions c.args.host.now)) c.args.read.now written
          (g.W.Sink.contents c.args.writer.now) (state_of c.args.self.now.progress.manager)
          (c.args.self.now.line + c.line_feeds.result) left (counts_of c.args.self.now.progress.summary) (names_of c.args.self.now.progress)) (sym past)
          (passed (session_tools (g.H.Refiners.refiners c.args.host.now) (g.H.Converters.conversions c.args.host.now)) u c.in-Some.piece.now c.in-Some.field-0-1.now cut c.line_feeds.result
          (sym w.if-not-is_blank_text.ensures) c.line_feeds.ensures.count))
    ]
