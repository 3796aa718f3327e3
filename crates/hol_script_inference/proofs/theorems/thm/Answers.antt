use Rattle.std.proofs.Common.{refl, sym, ◌∙◌, subst, Ok, Err}
use Rattle.std.proofs.lemmas.Result.{err_from_is_err_and}
use Rattle.hol_model_sessions.specs.CommandGrammar.{thm_command}
use Rattle.hol_model_sessions.specs.Sessions.{State}
use Rattle.hol_script_session.specs.Answers.{IsNewName}
use Rattle.hol_script_session.specs.SessionState.{state_of}
use Rattle.hol_script_inference.specs.Recording.{without_row}
use Rattle.hol_script_inference.proofs.MadeTheorems.{made_state, made_session, made_lemmas, made_stays}
use Rattle.hol_script_session.proofs.LaterLemmas.{later_as}
use Rattle.hol_script_inference.proofs.ThmLemmas.{later_from}
use Rattle.hol_script_inference.proofs.ThmLemmas.{misnamed, thm_refuses, thm_keeps}
use Rattle.hol_script_session.proofs.SessionLemmas.{forgets_here}
use Rattle.hol_script_inference.proofs.theorems.thm.Goals as goal

pub returns-in-Err-clause-performs : goal.returns-in-Err-clause-performs
returns-in-Err-clause-performs g c = λ tree asks. rw c.plain.ensures (misnamed (state_of c.args.session.now) c.args.name.now tree c.in-Err.fault c.in-Err.ensures)

pub returns-in-Err-clause-later : goal.returns-in-Err-clause-later
returns-in-Err-clause-later g c = later_as (state_of c.args.session.now) (state_of c.args.session.now) refl

pub returns-in_err-theorem-clause-performs : goal.returns-in_err-theorem-clause-performs
returns-in_err-theorem-clause-performs g c = λ tree asks.
    let old = c.args.session.now in
    let p = err_from_is_err_and c.from_residual.result c.from_residual.ensures.1 in
    rw (p.1, p.2)
    (thm_refuses (state_of old) (state_of c.theorem.new.session) c.args.name.now tree c.in_err-theorem.field-0.0
    (made_state old c.theorem.new.session (without_row (Err c.in_err-theorem.field-0.0)) c.in_err-theorem.ensures.makes)
    c.in-Ok.ensures.named c.in-Ok.ensures.none (c.in_err-theorem.ensures.answers tree asks))

pub returns-in_err-theorem-clause-kept : goal.returns-in_err-theorem-clause-kept
returns-in_err-theorem-clause-kept g c =
    made_session c.args.session.now c.theorem.new.session
    (without_row (Err c.in_err-theorem.field-0.0)) c.in_err-theorem.ensures.makes c.libraries_grow.ensures c.requires

pub returns-in_err-theorem-clause-lemmas : goal.returns-in_err-theorem-clause-lemmas
returns-in_err-theorem-clause-lemmas g c = made_lemmas c.args.session.now c.theorem.new.session (without_row (Err c.in_err-theorem.field-0.0)) c.in_err-theorem.ensures.makes

pub returns-in_err-theorem-clause-stays : goal.returns-in_err-theorem-clause-stays
returns-in_err-theorem-clause-stays g c = made_stays c.args.session.now c.theorem.new.session (without_row (Err c.in_err-theorem.field-0.0)) c.in_err-theorem.ensures.makes c.libraries_grow.ensures

pub returns-in_err-theorem-clause-later : goal.returns-in_err-theorem-clause-later
returns-in_err-theorem-clause-later g c =
    later_as (state_of c.args.session.now) (state_of c.theorem.new.session)
    (made_state c.args.session.now c.theorem.new.session (without_row (Err c.in_err-theorem.field-0.0)) c.in_err-theorem.ensures.makes)

pub keep-requires-clause-session : goal.keep-requires-clause-session
keep-requires-clause-session g c = made_session c.args.session.now c.theorem.new.session (Ok c.in_ok-theorem.theorem) c.in_ok-theorem.ensures.makes c.libraries_grow.ensures c.requires

pub keep-requires-clause-made : goal.keep-requires-clause-made
keep-requires-clause-made g c = c.in_ok-theorem.ensures.makes.made

pub keep-requires-clause-named : goal.keep-requires-clause-named
keep-requires-clause-named g c =
    subst (λ (s : State). IsNewName s c.args.name.now) (sym (made_state c.args.session.now c.theorem.new.session (Ok c.in_ok-theorem.theorem) c.in_ok-theorem.ensures.makes)) c.in-Ok.ensures

pub returns-in-Ok-keep-clause-performs : goal.returns-in-Ok-keep-clause-performs
returns-in-Ok-keep-clause-performs g c = λ tree asks.
    thm_keeps c.args.session.now c.theorem.new.session c.keep.new.self c.args.name.now tree c.in_ok-theorem.theorem.theorem c.in-Ok-keep.printed
    (made_state c.args.session.now c.theorem.new.session (Ok c.in_ok-theorem.theorem) c.in_ok-theorem.ensures.makes) c.in-Ok.ensures (c.in_ok-theorem.ensures.answers tree asks) c.in-Ok-keep.ensures.ok

pub returns-in-Err-keep-clause-performs : goal.returns-in-Err-keep-clause-performs
returns-in-Err-keep-clause-performs g c = λ tree asks.
    rw c.plain-in-Err-keep.ensures (forgets_here (state_of c.args.session.now) (state_of c.keep.new.self) (thm_command c.args.name.now tree) c.in-Err-keep.fault
    (c.in-Err-keep.ensures.err ∙ made_state c.args.session.now c.theorem.new.session (Ok c.in_ok-theorem.theorem) c.in_ok-theorem.ensures.makes) c.in-Err-keep.ensures.memory)

pub returns-in-Ok-keep-clause-lemmas : goal.returns-in-Ok-keep-clause-lemmas
returns-in-Ok-keep-clause-lemmas g c = c.in-Ok-keep.ensures.lemmas ∙ made_lemmas c.args.session.now c.theorem.new.session (Ok c.in_ok-theorem.theorem) c.in_ok-theorem.ensures.makes

pub returns-in-Err-keep-clause-lemmas : goal.returns-in-Err-keep-clause-lemmas
returns-in-Err-keep-clause-lemmas g c = c.in-Err-keep.ensures.lemmas ∙ made_lemmas c.args.session.now c.theorem.new.session (Ok c.in_ok-theorem.theorem) c.in_ok-theorem.ensures.makes

pub returns-in-Ok-keep-clause-stays : goal.returns-in-Ok-keep-clause-stays
returns-in-Ok-keep-clause-stays g c = λ made is.
    c.in-Ok-keep.ensures.stays made (made_stays c.args.session.now c.theorem.new.session (Ok c.in_ok-theorem.theorem) c.in_ok-theorem.ensures.makes c.libraries_grow.ensures made is)

pub returns-in-Err-keep-clause-stays : goal.returns-in-Err-keep-clause-stays
returns-in-Err-keep-clause-stays g c = λ made is.
    c.in-Err-keep.ensures.stays made (made_stays c.args.session.now c.theorem.new.session (Ok c.in_ok-theorem.theorem) c.in_ok-theorem.ensures.makes c.libraries_grow.ensures made is)

pub returns-in-Ok-keep-clause-later : goal.returns-in-Ok-keep-clause-later
returns-in-Ok-keep-clause-later g c =
    later_from (state_of c.args.session.now) (state_of c.theorem.new.session) (state_of c.keep.new.self)
    (made_state c.args.session.now c.theorem.new.session (Ok c.in_ok-theorem.theorem) c.in_ok-theorem.ensures.makes) c.in-Ok-keep.ensures.later

pub returns-in-Err-keep-clause-later : goal.returns-in-Err-keep-clause-later
returns-in-Err-keep-clause-later g c =
    later_from (state_of c.args.session.now) (state_of c.theorem.new.session) (state_of c.keep.new.self)
    (made_state c.args.session.now c.theorem.new.session (Ok c.in_ok-theorem.theorem) c.in_ok-theorem.ensures.makes) c.in-Err-keep.ensures.later
