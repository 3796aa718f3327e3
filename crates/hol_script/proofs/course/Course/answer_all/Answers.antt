use Rattle.std.proofs.Common.{◌≡◌, ℕ, List, [], true, false, drop, sym, subst, append-nil}
use Rattle.std.proofs.lemmas.Result.{err_from_is_err_and}
use Rattle.std.proofs.lemmas.List.{take_rest}
use Rattle.hol_model_sessions.specs.Script.{is_blank_text, leading_line_feeds}
use Rattle.hol_script_manager.specs.declared.manager.Manager.{Manager}
use Rattle.hol_script_manager.specs.Managers.{state_of}
use Rattle.hol_script_manager.specs.Session.{session_tools}
use Rattle.hol_script.specs.Runs.{counts_of, names_of, Finishes, Breaks}
use Rattle.hol_script.proofs.RunLemmas.{underway-ended, underway-unfinished, unfinished-broken}
use Rattle.hol_script.proofs.CourseLemmas.{at-end}
use Rattle.hol_script.proofs.course.Course.answer_all.Goals as goal

pub returns-in_err-answer_read-clause-err : goal.returns-in_err-answer_read-clause-err
returns-in_err-answer_read-clause-err g c =
    let p = err_from_is_err_and c.from_residual.result c.from_residual.ensures.1 in
    rw p.1 (λ written u. subst (λ (bytes : List ℕ). Breaks (session_tools (g.H.Refiners.refiners c.args.host.now) (g.H.Converters.conversions c.args.host.now)) bytes written
    (g.W.Sink.contents c.answer_read.new.writer)) (append-nil c.args.read.now) (c.in_err-answer_read.ensures.err.front written [] u))

pub returns-then-is_blank_text-clause-ok : goal.returns-then-is_blank_text-clause-ok
returns-then-is_blank_text-clause-ok g c = λ written u.
    let rest = take_rest c.args.read.now c.answer_read.new.self.at in
    underway-ended (session_tools (g.H.Refiners.refiners c.args.host.now) (g.H.Converters.conversions c.args.host.now)) c.args.read.now
    (at-end (session_tools (g.H.Refiners.refiners c.args.host.now) (g.H.Converters.conversions c.args.host.now)) (c.in_ok-answer_read.ensures.goes_on written u)) c.in_ok-answer_read.ensures.waits
    (subst (λ (l : List ℕ). is_blank_text l ≡ true) rest (sym c.if-is_blank_text.ensures))

pub returns-clause-ok : goal.returns-clause-ok
returns-clause-ok g c = λ written u.
    let rest = take_rest c.args.read.now c.answer_read.new.self.at in
    let filled : is_blank_text (drop c.answer_read.new.self.at c.args.read.now) ≡ false = subst (λ (l : List ℕ). is_blank_text l ≡ false) rest (sym c.if-is_blank_text.ensures) in
    let led : c.leading_line_feeds.result ≡ leading_line_feeds (drop c.answer_read.new.self.at c.args.read.now) =
    subst (λ (l : List ℕ). c.leading_line_feeds.result ≡ leading_line_feeds l) rest c.leading_line_feeds.ensures.count in
    subst (λ (manager : Manager). Finishes (session_tools (g.H.Refiners.refiners c.args.host.now) (g.H.Converters.conversions c.args.host.now)) c.args.read.now written
    (g.W.Sink.contents c.write_refusal.new.writer) (counts_of c.keep.new.self.summary) (names_of c.keep.new.self) (state_of manager)) (sym c.keep.ensures.manager)
    (underway-unfinished (session_tools (g.H.Refiners.refiners c.args.host.now) (g.H.Converters.conversions c.args.host.now)) c.args.read.now c.leading_line_feeds.result c.plain-refused.result
    c.plain-refused.ensures (at-end (session_tools (g.H.Refiners.refiners c.args.host.now) (g.H.Converters.conversions c.args.host.now)) (c.in_ok-answer_read.ensures.goes_on written u))
    c.in_ok-answer_read.ensures.waits filled led
    c.in_ok-write_refusal.ensures.ok c.keep.ensures.counts c.keep.ensures.names)

pub returns-in_err-write_refusal-clause-err : goal.returns-in_err-write_refusal-clause-err
returns-in_err-write_refusal-clause-err g c =
    let rest = take_rest c.args.read.now c.answer_read.new.self.at in
    let filled : is_blank_text (drop c.answer_read.new.self.at c.args.read.now) ≡ false = subst (λ (l : List ℕ). is_blank_text l ≡ false) rest (sym c.if-is_blank_text.ensures) in
    let led : c.leading_line_feeds.result ≡ leading_line_feeds (drop c.answer_read.new.self.at c.args.read.now) =
    subst (λ (l : List ℕ). c.leading_line_feeds.result ≡ leading_line_feeds l) rest c.leading_line_feeds.ensures.count in
    let p = err_from_is_err_and c.from_residual-in_err-write_refusal.result c.from_residual-in_err-write_refusal.ensures.1 in
    rw p.1 (λ written u. unfinished-broken (session_tools (g.H.Refiners.refiners c.args.host.now) (g.H.Converters.conversions c.args.host.now)) c.args.read.now c.leading_line_feeds.result c.plain-refused.result
    c.plain-refused.ensures (at-end (session_tools (g.H.Refiners.refiners c.args.host.now) (g.H.Converters.conversions c.args.host.now)) (c.in_ok-answer_read.ensures.goes_on written u))
    c.in_ok-answer_read.ensures.waits filled led
    c.in_err-write_refusal.ensures.err)
