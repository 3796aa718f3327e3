use Rattle.std.proofs.Common.{refl, sym, subst, Ok}
use Rattle.std.proofs.lemmas.Result.{err_from_is_err_and}
use Rattle.hol_model_sessions.specs.CommandGrammar.{var_command}
use Rattle.hol_model_sessions.specs.Sessions.{State, with_variable}
use Rattle.hol_script_session.proofs.AllowedLemmas.{var_is_refused, var_declares}
use Rattle.hol_script_session.specs.declared.reply.Printed.TheVariants.{Nothing}
use Rattle.hol_script_session.specs.Answers.{no_tools, PerformsWith}
use Rattle.hol_script_session.specs.SessionState.{state_of}
use Rattle.hol_script_session.proofs.SessionLemmas.{is_silent, refuses_by, forgets_here}
use Rattle.hol_script_session.proofs.GrowthLemmas.{made, kept_state, kept_session, var_state, var_session, same_store, same_laws}
use Rattle.hol_script_session.proofs.LaterLemmas.{later_as, later_var}
use Rattle.hol_script_session.proofs.session.Session.var.Goals as goal

pub returns-in_err-ty-clause-performs : goal.returns-in_err-ty-clause-performs
returns-in_err-ty-clause-performs c = λ lemmas tree steps.
    let p = err_from_is_err_and c.from_residual.result c.from_residual.ensures.1 in
    rw (p.1, p.2)
    (refuses_by (state_of c.args.self.now) (state_of c.args.self.now) (var_command c.args.name.now tree) c.in_err-ty.field-0.0 refl (c.in_err-ty.ensures.reads tree steps) (λ refused. var_is_refused refused))

pub returns-clause-performs : goal.returns-clause-performs
returns-clause-performs c = λ lemmas tree steps.
    subst (λ (state : State). PerformsWith no_tools lemmas (state_of c.args.self.now) (var_command c.args.name.now tree) (Ok Nothing) state)
    (sym (var_state c.args.self.now c.set_var.new.self c.args.name.now c.in_ok-ty.ty c.in_ok-set_var.ensures.ok))
    (is_silent (state_of c.args.self.now) (with_variable (state_of c.args.self.now) c.args.name.now c.in_ok-ty.ty) (var_command c.args.name.now tree) (var_declares (c.in_ok-ty.ensures.reads tree steps)))

pub returns-clause-kept : goal.returns-clause-kept
returns-clause-kept c = var_session c.args.self.now c.set_var.new.self c.args.name.now c.in_ok-ty.ty c.requires c.in_ok-ty.ensures.known c.in_ok-set_var.ensures.ok

pub returns-in_err-set_var-clause-performs : goal.returns-in_err-set_var-clause-performs
returns-in_err-set_var-clause-performs c = λ lemmas tree steps.
    let old = c.args.self.now in
    let p = err_from_is_err_and c.from_residual-in_err-set_var.result c.from_residual-in_err-set_var.ensures.1 in
    rw (p.1, p.2)
    (forgets_here (state_of old) (state_of (made old old.library.recorder c.set_var.new.self)) (var_command c.args.name.now tree) c.in_err-set_var.field-0.0
    (kept_state old (made old old.library.recorder c.set_var.new.self) refl c.in_err-set_var.ensures.kept (same_store _)) c.in_err-set_var.ensures.err)

pub returns-in_err-set_var-clause-kept : goal.returns-in_err-set_var-clause-kept
returns-in_err-set_var-clause-kept c =
    let old = c.args.self.now in
    kept_session old (made old old.library.recorder c.set_var.new.self) c.requires refl c.in_err-set_var.ensures.kept (same_store _) (same_laws _)

pub returns-in_err-ty-clause-later : goal.returns-in_err-ty-clause-later
returns-in_err-ty-clause-later c = later_as (state_of c.args.self.now) (state_of c.args.self.now) refl

pub returns-clause-later : goal.returns-clause-later
returns-clause-later c =
    let old = c.args.self.now in
    later_var (state_of old) (state_of (made old old.library.recorder c.set_var.new.self)) c.args.name.now c.in_ok-ty.ty
    (var_state old c.set_var.new.self c.args.name.now c.in_ok-ty.ty c.in_ok-set_var.ensures.ok)

pub returns-in_err-set_var-clause-later : goal.returns-in_err-set_var-clause-later
returns-in_err-set_var-clause-later c =
    let old = c.args.self.now in
    later_as (state_of old) (state_of (made old old.library.recorder c.set_var.new.self))
    (kept_state old (made old old.library.recorder c.set_var.new.self) refl c.in_err-set_var.ensures.kept (same_store _))
