use Rattle.std.proofs.Common.{sym, subst}
use Rattle.std.proofs.lemmas.Result.{err_from_is_err_and}
use Rattle.hol_model.specs.declared.fault.Fault.{Fault}
use Rattle.hol_script_manager.specs.Session.{session_tools}
use Rattle.hol_script.specs.Runs.{source_use}
use Rattle.hol_script.specs.Courses.{StopsTold, breaks_at_end}
use Rattle.hol_script.proofs.ConversationLemmas.{unbegun}
use Rattle.hol_script.proofs.conversation.answer_input.Goals as goal

pub returns-in_err-course-clause-err : goal.returns-in_err-course-clause-err
returns-in_err-course-clause-err g c =
    let p = err_from_is_err_and c.from_residual.result c.from_residual.ensures.1 in
    rw (p.1, p.2)
    (subst (λ (fault : Fault). StopsTold (session_tools (g.H.Refiners.refiners c.args.host.now) (g.H.Converters.conversions c.args.host.now))
    (source_use (g.R.Source.remaining c.args.reader.now) (g.R.Source.has_failed c.args.reader.now)) (g.R.Source.remaining c.args.reader.now) (g.W.Sink.contents c.args.writer.now)
    (g.W.Sink.contents c.args.writer.now) (g.W.Sink.has_failed c.args.writer.now) fault) (sym c.in_err-course.ensures.err)
    (unbegun (session_tools (g.H.Refiners.refiners c.args.host.now) (g.H.Converters.conversions c.args.host.now)) (g.R.Source.remaining c.args.reader.now)
    (g.R.Source.remaining c.args.reader.now) (g.W.Sink.contents c.args.writer.now) c.requires.reader_unfailed c.requires.writer_unfailed))

pub returns-in_err-answer_source-clause-err : goal.returns-in_err-answer_source-clause-err
returns-in_err-answer_source-clause-err g c =
    let p = err_from_is_err_and c.from_residual-in_err-answer_source.result c.from_residual-in_err-answer_source.ensures.1 in
    rw (p.1, p.2) c.in_err-answer_source.ensures.err

pub returns-in_err-answer_all-clause-err : goal.returns-in_err-answer_all-clause-err
returns-in_err-answer_all-clause-err g c =
    let p = err_from_is_err_and c.from_residual-in_err-answer_all.result c.from_residual-in_err-answer_all.ensures.1 in
    let breaks = c.in_err-answer_all.ensures.err (g.W.Sink.contents c.args.writer.now) (rw c.deref.ensures.value c.in_ok-answer_source.ensures.underway) in
    let unfailed = c.in_ok-answer_source.ensures.reader_unfailed in
    rw (p.1, p.2) (record {
      early = breaks_at_end c.in_err-answer_all.ensures.kinds c.in_err-answer_all.ensures.failed (record {
        script = c.deref.result.now;
        read = rw c.deref.ensures.value c.in_ok-answer_source.ensures.told;
        within_limit = rw c.deref.ensures.value c.in_ok-answer_source.ensures.within.within_limit;
        breaks = breaks;
      });
      front = record { script = c.deref.result.now; read = rw c.deref.ensures.value c.in_ok-answer_source.ensures.told; breaks = breaks };
      reader = λ failed. cc;
      writer = λ _. c.in_err-answer_all.ensures.kinds;
    })
