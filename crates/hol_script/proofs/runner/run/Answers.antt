use Rattle.std.proofs.Common.{rules, ◌≡◌, List, ℕ, sym, subst, refl, length, ◌≤◌}
use Rattle.std.proofs.lemmas.Result.{err_from_is_err_and}
use Rattle.hol_model.specs.Texts.KnownText.{Tells}
use Rattle.hol_model.specs.declared.limits.TheConstants.{TEXT_BYTES_LIMIT}
use Rattle.hol_script_manager.specs.Session.{session_tools}
use Rattle.hol_script.specs.Runs.{source_use, sink_use, counts_of}
use Rattle.hol_script.proofs.HeadlineLemmas.{finishes_told, breaks_told, unread_told}
use Rattle.hol_script.proofs.RunLogLemmas.{run-named}
use Rattle.hol_script.proofs.EndLemmas.{ends-unread, ends-in_output, ends-logged, logs-told, told-so}
use Rattle.hol_script.proofs.runner.run.Goals as goal

pub returns-in_err-script-clause-ends : goal.returns-in_err-script-clause-ends
returns-in_err-script-clause-ends g c =
    let p = err_from_is_err_and c.from_residual.result c.from_residual.ensures.1 in
    rw (p.1, p.2)
    (ends-unread (session_tools (g.H.Refiners.refiners c.args.host.now) (g.H.Converters.conversions c.args.host.now))
    (source_use (g.R.Source.remaining c.args.devices.now.reader) (g.R.Source.has_failed c.read_all.new.reader))
    (sink_use (g.W.Sink.contents c.args.devices.now.writer) (g.W.Sink.contents c.args.devices.now.writer) (g.W.Sink.has_failed c.args.devices.now.writer)
    (c.args.devices.now.writer ≡ c.args.devices.now.writer))
    (sink_use (g.L.Sink.contents c.args.devices.now.log) (g.L.Sink.contents c.args.devices.now.log) (g.L.Sink.has_failed c.args.devices.now.log) (c.args.devices.now.log ≡ c.args.devices.now.log))
    c.in_err-script.field-0.0 c.in_err-script.ensures.refusals c.in_err-script.ensures.failed c.in_err-script.ensures.too_long refl refl)

pub returns-in_err-script-clause-told_front : goal.returns-in_err-script-clause-told_front
returns-in_err-script-clause-told_front g c =
    let p = err_from_is_err_and c.from_residual.result c.from_residual.ensures.1 in
    rw p.1
    (unread_told (session_tools (g.H.Refiners.refiners c.args.host.now) (g.H.Converters.conversions c.args.host.now))
    (g.R.Source.remaining c.args.devices.now.reader) (g.W.Sink.contents c.args.devices.now.writer))

pub returns-in_err-progress-clause-ends : goal.returns-in_err-progress-clause-ends
returns-in_err-progress-clause-ends g c =
    let script = c.deref.result.now in
    let told = subst (λ (bytes : List ℕ). Tells (g.R.Source.remaining c.args.devices.now.reader) bytes) (sym c.deref.ensures.value) c.in_ok-script.ensures.all in
    let within = subst (λ (bytes : List ℕ). length bytes ≤ TEXT_BYTES_LIMIT) (sym c.deref.ensures.value) c.in_ok-script.ensures.within_limit in
    let p = err_from_is_err_and c.from_residual-in_err-progress.result c.from_residual-in_err-progress.ensures.1 in
    rw (p.1, p.2)
    (ends-in_output (session_tools (g.H.Refiners.refiners c.args.host.now) (g.H.Converters.conversions c.args.host.now))
    (source_use (g.R.Source.remaining c.args.devices.now.reader) (g.R.Source.has_failed c.read_all.new.reader))
    (sink_use (g.W.Sink.contents c.args.devices.now.writer) (g.W.Sink.contents c.run_script.new.writer) (g.W.Sink.has_failed c.run_script.new.writer)
    (c.run_script.new.writer ≡ c.args.devices.now.writer))
    (sink_use (g.L.Sink.contents c.args.devices.now.log) (g.L.Sink.contents c.args.devices.now.log) (g.L.Sink.has_failed c.args.devices.now.log) (c.args.devices.now.log ≡ c.args.devices.now.log))
    script told within c.in_err-progress.field-0.0 c.in_err-progress.ensures.refusals c.in_err-progress.ensures.err c.in_err-progress.ensures.failed c.in_err-progress.ensures.unwritten refl)

pub returns-in_err-progress-clause-told_front : goal.returns-in_err-progress-clause-told_front
returns-in_err-progress-clause-told_front g c =
    let told = subst (λ (bytes : List ℕ). Tells (g.R.Source.remaining c.args.devices.now.reader) bytes) (sym c.deref.ensures.value) c.in_ok-script.ensures.all in
    let p = err_from_is_err_and c.from_residual-in_err-progress.result c.from_residual-in_err-progress.ensures.1 in
    rw p.1
    (breaks_told (session_tools (g.H.Refiners.refiners c.args.host.now) (g.H.Converters.conversions c.args.host.now)) c.deref.result.now told c.in_err-progress.ensures.err)

pub write_log-logged-requires-clause-named : goal.write_log-logged-requires-clause-named
write_log-logged-requires-clause-named g c = run-named c.in_ok-progress.progress c.in_ok-progress.ensures.ok

pub returns-clause-ends : goal.returns-clause-ends
returns-clause-ends g c =
    let script = c.deref.result.now in
    let told = subst (λ (bytes : List ℕ). Tells (g.R.Source.remaining c.args.devices.now.reader) bytes) (sym c.deref.ensures.value) c.in_ok-script.ensures.all in
    let within = subst (λ (bytes : List ℕ). length bytes ≤ TEXT_BYTES_LIMIT) (sym c.deref.ensures.value) c.in_ok-script.ensures.within_limit in
    ends-logged (session_tools (g.H.Refiners.refiners c.args.host.now) (g.H.Converters.conversions c.args.host.now))
    (source_use (g.R.Source.remaining c.args.devices.now.reader) (g.R.Source.has_failed c.read_all.new.reader))
    (sink_use (g.W.Sink.contents c.args.devices.now.writer) (g.W.Sink.contents c.run_script.new.writer) (g.W.Sink.has_failed c.run_script.new.writer)
    (c.run_script.new.writer ≡ c.args.devices.now.writer))
    (sink_use (g.L.Sink.contents c.args.devices.now.log) (g.L.Sink.contents c.write_log-logged.new.log) (g.L.Sink.has_failed c.write_log-logged.new.log)
    (c.write_log-logged.new.log ≡ c.args.devices.now.log))
    script told within c.in_ok-progress.progress c.in_ok-progress.ensures.ok c.args.devices.now.wants_log
    c.write_log-logged.result c.write_log-logged.ensures.unasked c.write_log-logged.ensures.asked c.write_log-logged.ensures.ok c.write_log-logged.ensures.refusals
    c.write_log-logged.ensures.write_fault c.write_log-logged.ensures.too_long c.write_log-logged.ensures.unwritten

pub returns-clause-session : goal.returns-clause-session
returns-clause-session g c = record {
  own_log = λ wanted.
      logs-told c.in_ok-progress.progress c.write_log-logged.result (c.write_log-logged.ensures.ok wanted) c.write_log-logged.ensures.write_fault c.write_log-logged.ensures.too_long;
  leaves = record {
    script = c.deref.result.now;
    read = subst (λ (bytes : List ℕ). Tells (g.R.Source.remaining c.args.devices.now.reader) bytes) (sym c.deref.ensures.value) c.in_ok-script.ensures.all;
    finishes = c.in_ok-progress.ensures.ok;
  };
  manager = c.in_ok-progress.ensures.is_manager;
}

pub returns-clause-failures : goal.returns-clause-failures
returns-clause-failures g c = record {
  reader_unfailed = search rules;
  writer_unfailed = search rules;
  log_unfailed = search rules;
  reader_told = search rules;
  writer_told = search rules;
  log_told = told-so (counts_of c.in_ok-progress.progress.summary) c.write_log-logged.result c.write_log-logged.ensures.told;
}

pub returns-clause-told : goal.returns-clause-told
returns-clause-told g c =
    let told = subst (λ (bytes : List ℕ). Tells (g.R.Source.remaining c.args.devices.now.reader) bytes) (sym c.deref.ensures.value) c.in_ok-script.ensures.all in
    finishes_told (session_tools (g.H.Refiners.refiners c.args.host.now) (g.H.Converters.conversions c.args.host.now)) c.deref.result.now told c.in_ok-progress.ensures.ok
