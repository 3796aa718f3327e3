use Rattle.std.proofs.Common.{subst, sym}
use Rattle.hol_model_sessions.specs.CommandGrammar.{by_tautology}
use Rattle.hol_syntax.specs.Scope.{scope_of}
use Rattle.hol_script_session.specs.declared.reply.Refused.{Refused}
use Rattle.hol_script_session.specs.SessionState.{state_of}
use Rattle.hol_script_inference.specs.Answers.{hostless, RefusesTheorem}
use Rattle.hol_script_inference.proofs.MadeTheorems.{nothing-grows, refused-grows}
use Rattle.hol_script_session.proofs.SessionLemmas.{scope_same}
use Rattle.hol_script_inference.proofs.TautologyLemmas.{tautology-given, unread-tautology, tautology-refused}
use Rattle.hol_script_inference.proofs.tautologies.tautology.Goals as goal

pub returns-in-Err-clause-answers : goal.returns-in-Err-clause-answers
returns-in-Err-clause-answers c = λ lemmas tree steps.
    subst (λ (r : Refused). RefusesTheorem hostless lemmas (state_of c.args.session.now) (by_tautology tree) r) (sym c.plain.ensures)
    (unread-tautology lemmas (state_of c.args.session.now) tree c.in-Err.fault (c.in-Err.ensures tree steps))

pub returns-in-Err-clause-grows : goal.returns-in-Err-clause-grows
returns-in-Err-clause-grows c = nothing-grows c.args.session.now _

pub returns-in-Ok-taut-clause-answers : goal.returns-in-Ok-taut-clause-answers
returns-in-Ok-taut-clause-answers c = λ lemmas tree steps.
    tautology-given lemmas (state_of c.args.session.now) tree c.in-Ok.term c.in-Ok-taut.theorem.theorem (c.in-Ok.ensures tree steps) c.in-Ok-taut.ensures.outcome

pub returns-clause-answers : goal.returns-clause-answers
returns-clause-answers c = λ lemmas tree steps.
    tautology-refused lemmas (state_of c.args.session.now)
    (scope_of c.args.session.now.scope) tree c.in-Ok.term c.in-Err-taut.fault c.refusal_with_row.result (scope_same c.args.session.now c.requires)
    (c.in-Ok.ensures tree steps) (record { within = c.well_formed-2.ensures.within_limits; named = c.well_named.ensures }) c.in-Err-taut.ensures.outcome c.refusal_with_row.ensures

pub returns-clause-grows : goal.returns-clause-grows
returns-clause-grows c = refused-grows c.args.session.now c.taut.new.recorder c.in-Err-taut.fault c.refusal_with_row.result.fault c.in-Err-taut.ensures.continues
