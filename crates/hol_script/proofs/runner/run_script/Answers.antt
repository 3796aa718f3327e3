use Rattle.std.proofs.Common.{sym, lit<}
use Rattle.std.proofs.lemmas.Result.{err_from_is_err_and}
use Rattle.hol_script_manager.specs.Session.{session_tools}
use Rattle.hol_script.proofs.CourseLemmas.{course-begun}
use Rattle.hol_script.proofs.HeadlineLemmas.{unwritten}
use Rattle.hol_script.proofs.runner.run_script.Goals as goal

pub returns-in_err-course-clause-err : goal.returns-in_err-course-clause-err
returns-in_err-course-clause-err g c =
    let p = err_from_is_err_and c.from_residual.result c.from_residual.ensures.1 in
    rw p.1
    (unwritten (session_tools (g.H.Refiners.refiners c.args.host.now) (g.H.Converters.conversions c.args.host.now)) c.args.script.now (g.W.Sink.contents c.args.writer.now))

pub returns-clause-ok : goal.returns-clause-ok
returns-clause-ok g c =
    c.in_ok-answer_all.ensures.ok (g.W.Sink.contents c.args.writer.now)
    (course-begun (session_tools (g.H.Refiners.refiners c.args.host.now) (g.H.Converters.conversions c.args.host.now)) c.args.script.now (g.W.Sink.contents c.args.writer.now) c.in_ok-course.ensures.begun)

pub returns-in_err-answer_all-clause-err : goal.returns-in_err-answer_all-clause-err
returns-in_err-answer_all-clause-err g c =
    let p = err_from_is_err_and c.from_residual-in_err-answer_all.result c.from_residual-in_err-answer_all.ensures.1 in
    rw p.1
    (c.in_err-answer_all.ensures.err (g.W.Sink.contents c.args.writer.now)
    (course-begun (session_tools (g.H.Refiners.refiners c.args.host.now) (g.H.Converters.conversions c.args.host.now)) c.args.script.now (g.W.Sink.contents c.args.writer.now) c.in_ok-course.ensures.begun))

pub returns-in_err-answer_all-clause-refusals : goal.returns-in_err-answer_all-clause-refusals
returns-in_err-answer_all-clause-refusals g c =
    let p = err_from_is_err_and c.from_residual-in_err-answer_all.result c.from_residual-in_err-answer_all.ensures.1 in
    rw (p.1, p.2) (0, lit< tt, sym c.in_err-answer_all.ensures.kinds)
