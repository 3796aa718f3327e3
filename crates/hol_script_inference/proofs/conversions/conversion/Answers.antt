use Rattle.std.proofs.lemmas.Result.{err_from_is_err_and}
use Rattle.hol_tactic_exprs.specs.Expressions.{conversion_of}
use Rattle.hol_journal.specs.Journal.{theorem_in}
use Rattle.hol_script_inference.specs.Answers.{session_tools}
use Rattle.hol_script_session.specs.SessionState.{state_of, lemmas_of}
use Rattle.hol_script_inference.proofs.ConversionLemmas.{unread-conversion, conversion-answers}
use Rattle.hol_script_inference.proofs.conversions.conversion.Goals as goal

pub returns-in_err-term-clause-answers : goal.returns-in_err-term-clause-answers
returns-in_err-term-clause-answers g c = λ unit tree same steps.
    let p = err_from_is_err_and c.from_residual.result c.from_residual.ensures.1 in
    rw (p.1, p.2)
    (unread-conversion (session_tools (g.H.Refiners.refiners c.args.hosts.now) (g.H.Converters.conversions c.args.hosts.now)) (lemmas_of c.args.session.now) (state_of c.args.session.now) unit tree
    c.in_err-term.field-0.0 (c.in_err-term.ensures.reads tree steps))

pub returns-clause-answers : goal.returns-clause-answers
returns-clause-answers g c = λ unit tree same steps.
    conversion-answers (g.H.Refiners.refiners c.args.hosts.now) (g.H.Converters.conversions c.args.hosts.now) c.args.session.now unit tree c.in_ok-term.term (conversion_of c.args.conv.now)
    (theorem_in c.apply.result) c.new-fuel.result.left c.apply.new.fuel.left (c.in_ok-term.ensures.reads tree steps) same c.new-fuel.ensures c.apply.ensures.outcome
