use Rattle.std.proofs.Common.{rules, ◌≡◌, refl, ap, Err}
use Rattle.std.proofs.lemmas.Result.{err_from_is_err_and}
use Rattle.hol_model.specs.declared.fault.Fault.{Fault}
use Rattle.hol_script_manager.specs.Session.{session_tools}
use Rattle.hol_script.specs.Runs.{source_use, sink_use, counts_of}
use Rattle.hol_script.specs.Conversations.{at_end}
use Rattle.hol_script.proofs.HeadlineLemmas.{finishes_told}
use Rattle.hol_script.proofs.RunLogLemmas.{run-named}
use Rattle.hol_script.proofs.EndLemmas.{whole-logged, logs-told, told-so}
use Rattle.hol_script.proofs.ConversationLemmas.{closes-early, front-walked}
use Rattle.hol_script.proofs.conversation.converse.Goals as goal

pub returns-in_err-progress-clause-closes : goal.returns-in_err-progress-clause-closes
returns-in_err-progress-clause-closes g c =
    let p = err_from_is_err_and c.from_residual.result c.from_residual.ensures.1 in
    rw (p.1, p.2)
    (closes-early (session_tools (g.H.Refiners.refiners c.args.host.now) (g.H.Converters.conversions c.args.host.now))
    (source_use (g.R.Source.remaining c.args.devices.now.reader) (g.R.Source.has_failed c.answer_input.new.reader))
    (g.R.Source.remaining c.answer_input.new.reader)
    (sink_use (g.W.Sink.contents c.args.devices.now.writer) (g.W.Sink.contents c.answer_input.new.writer) (g.W.Sink.has_failed c.answer_input.new.writer)
    (c.answer_input.new.writer ≡ c.args.devices.now.writer))
    (sink_use (g.L.Sink.contents c.args.devices.now.log) (g.L.Sink.contents c.args.devices.now.log) (g.L.Sink.has_failed c.args.devices.now.log) (c.args.devices.now.log ≡ c.args.devices.now.log))
    c.in_err-progress.field-0.0 c.in_err-progress.ensures.err.early refl)

pub returns-in_err-progress-clause-told_front : goal.returns-in_err-progress-clause-told_front
returns-in_err-progress-clause-told_front g c =
    let p = err_from_is_err_and c.from_residual.result c.from_residual.ensures.1 in
    rw p.1
    (front-walked (session_tools (g.H.Refiners.refiners c.args.host.now) (g.H.Converters.conversions c.args.host.now)) c.in_err-progress.ensures.err.front)

pub returns-in_err-progress-clause-failures : goal.returns-in_err-progress-clause-failures
returns-in_err-progress-clause-failures g c =
    let p = err_from_is_err_and c.from_residual.result c.from_residual.ensures.1 in
    record {
      reader_unfailed = search rules;
      writer_unfailed = search rules;
      log_unfailed = search rules;
      reader_told = rw (p.1, p.2) (λ failed. ap (λ (fault : Fault). Err fault) (c.in_err-progress.ensures.err.reader failed));
      writer_told = rw (p.1, p.2) (λ failed. ap (λ (fault : Fault). Err fault) (c.in_err-progress.ensures.err.writer failed));
      log_told = search rules;
    }

pub write_log-logged-requires-clause-named : goal.write_log-logged-requires-clause-named
write_log-logged-requires-clause-named g c = run-named c.in_ok-progress.progress c.in_ok-progress.ensures.ok.finishes

pub returns-clause-closes : goal.returns-clause-closes
returns-clause-closes g c =
    at_end (whole-logged (session_tools (g.H.Refiners.refiners c.args.host.now) (g.H.Converters.conversions c.args.host.now))
    (source_use (g.R.Source.remaining c.args.devices.now.reader) (g.R.Source.has_failed c.answer_input.new.reader))
    (sink_use (g.W.Sink.contents c.args.devices.now.writer) (g.W.Sink.contents c.answer_input.new.writer) (g.W.Sink.has_failed c.answer_input.new.writer)
    (c.answer_input.new.writer ≡ c.args.devices.now.writer))
    (sink_use (g.L.Sink.contents c.args.devices.now.log) (g.L.Sink.contents c.write_log-logged.new.log) (g.L.Sink.has_failed c.write_log-logged.new.log)
    (c.write_log-logged.new.log ≡ c.args.devices.now.log))
    c.in_ok-progress.ensures.ok.script c.in_ok-progress.ensures.ok.read c.in_ok-progress.ensures.ok.within_limit
    c.in_ok-progress.progress c.in_ok-progress.ensures.ok.finishes c.args.devices.now.wants_log
    c.write_log-logged.result c.write_log-logged.ensures.unasked c.write_log-logged.ensures.asked c.write_log-logged.ensures.ok c.write_log-logged.ensures.refusals
    c.write_log-logged.ensures.write_fault c.write_log-logged.ensures.too_long c.write_log-logged.ensures.unwritten)

pub returns-clause-session : goal.returns-clause-session
returns-clause-session g c = record {
  own_log = λ wanted.
      logs-told c.in_ok-progress.progress c.write_log-logged.result (c.write_log-logged.ensures.ok wanted) c.write_log-logged.ensures.write_fault c.write_log-logged.ensures.too_long;
  leaves = record { script = c.in_ok-progress.ensures.ok.script; read = c.in_ok-progress.ensures.ok.read; finishes = c.in_ok-progress.ensures.ok.finishes };
  manager = c.in_ok-progress.ensures.is_manager;
}

pub returns-clause-failures : goal.returns-clause-failures
returns-clause-failures g c = record {
  reader_unfailed = search rules;
  writer_unfailed = search rules;
  log_unfailed = search rules;
  reader_told = search rules;
  writer_told = search rules;
  log_told = told-so (counts_of c.in_ok-progress.progress.summary) c.write_log-logged.result c.write_log-logged.ensures.told;
}

pub returns-clause-told : goal.returns-clause-told
returns-clause-told g c =
    finishes_told (session_tools (g.H.Refiners.refiners c.args.host.now) (g.H.Converters.conversions c.args.host.now))
    c.in_ok-progress.ensures.ok.script c.in_ok-progress.ensures.ok.read c.in_ok-progress.ensures.ok.finishes
