use Rattle.std.proofs.Common.{refl, sym, subst, ap, ◌∙◌, Ok, Err}
use Rattle.hol_model.specs.declared.fault.Fault.TheVariants.{Memory}
use Rattle.hol_model_sessions.specs.CommandGrammar.{newtype_command}
use Rattle.hol_model_sessions.specs.Sessions.{State, over_theory}
use Rattle.hol_script_session.specs.declared.session.Session.{Session}
use Rattle.hol_laws_sessions.proofs.Growth.{type-added}
use Rattle.hol_script_session.proofs.AllowedLemmas.{newtype_is_refused, newtype_declares}
use Rattle.hol_script_session.specs.declared.reply.Printed.TheVariants.{Nothing}
use Rattle.hol_script_session.specs.Answers.{no_tools, PerformsWith}
use Rattle.hol_script_session.specs.SessionState.{state_of, lemmas_of, IsSession}
use Rattle.hol_syntax.specs.Scope.{scope_of}
use Rattle.hol_script_session.proofs.SessionLemmas.{is_silent, refuses_by, forgets_here}
use Rattle.hol_script_session.proofs.GrowthLemmas.{made, kept_state, kept_session, type-not_new, not_true, never, type_removed, grown_state}
use Rattle.hol_script_session.proofs.GrowthLemmas.{type_session, same_store, same_laws, same_stays, grown_stays}
use Rattle.hol_model.specs.Logic.Theory.{declaration_of_type}
use Rattle.hol_script_session.proofs.LaterLemmas.{later_as, later_grown}
use Rattle.hol_script_session.proofs.session.Session.newtype.Goals as goal

pub refusal_of_type-requires : goal.refusal_of_type-requires
refusal_of_type-requires c =
    type-not_new c.args.self.now.library.recorder.theory c.args.name.now
    (sym (c.requires.scope.types c.args.name.now) ∙ c.in-Err-NameTaken.ensures.taken.0 (ap (λ e. Err e) c.in-Err-NameTaken.field-0-is))

pub returns-in-Err-NameTaken-clause-performs : goal.returns-in-Err-NameTaken-clause-performs
returns-in-Err-NameTaken-clause-performs c = λ lemmas.
    let old = c.args.self.now in
    refuses_by (state_of old) (state_of c.refusal_of_type.new.self) (newtype_command c.args.name.now) c.refusal_of_type.result
    (ap state_of c.refusal_of_type.ensures.kept ∙ kept_state old (made old old.library.recorder c.add_type.new.self) refl c.in-Err-NameTaken.ensures.kept (same_store _))
    c.refusal_of_type.ensures.fault (λ refused. newtype_is_refused refused)

pub returns-in-Err-NameTaken-clause-kept : goal.returns-in-Err-NameTaken-clause-kept
returns-in-Err-NameTaken-clause-kept c =
    let old = c.args.self.now in
    subst IsSession (sym c.refusal_of_type.ensures.kept)
    (kept_session old (made old old.library.recorder c.add_type.new.self) c.requires refl c.in-Err-NameTaken.ensures.kept (same_store _)
    (same_laws _))

pub returns-in-Err-clause-performs : goal.returns-in-Err-clause-performs
returns-in-Err-clause-performs c = λ lemmas.
    let old = c.args.self.now in
    forgets_here (state_of old) (state_of (made old old.library.recorder c.add_type.new.self)) (newtype_command c.args.name.now) Memory
    (kept_state old (made old old.library.recorder c.add_type.new.self) refl c.in-Err.ensures.kept (same_store _)) refl

pub returns-in-Err-clause-kept : goal.returns-in-Err-clause-kept
returns-in-Err-clause-kept c =
    let old = c.args.self.now in
    kept_session old (made old old.library.recorder c.add_type.new.self) c.requires refl c.in-Err.ensures.kept (same_store _) (same_laws _)

pub returns-in-Ok-new_type-clause-performs : goal.returns-in-Ok-new_type-clause-performs
returns-in-Ok-new_type-clause-performs c = λ lemmas.
    let old = c.args.self.now in
    subst (λ (state : State). PerformsWith no_tools lemmas (state_of old) (newtype_command c.args.name.now) (Ok Nothing) state)
    (sym (grown_state old c.new_type.new.self c.add_type.new.self c.in-Ok.ensures.ok.variables))
    (is_silent (state_of old) (over_theory (state_of old) c.new_type.new.self.theory) (newtype_command c.args.name.now) (newtype_declares c.in-Ok-new_type.ensures.outcome))

pub returns-in-Ok-new_type-clause-kept : goal.returns-in-Ok-new_type-clause-kept
returns-in-Ok-new_type-clause-kept c =
    type_session c.args.self.now c.new_type.new.self c.add_type.new.self c.args.name.now c.libraries_grow.ensures c.requires c.in-Ok.ensures.ok
    c.in-Ok-new_type.ensures.outcome c.in-Ok-new_type.ensures.grown

pub returns-in-Err-new_type-clause-performs : goal.returns-in-Err-new_type-clause-performs
returns-in-Err-new_type-clause-performs c = λ lemmas.
    let old = c.args.self.now in
    let keeps = type_removed (scope_of old.scope) (scope_of c.add_type.new.self) (scope_of c.remove_type.new.self) c.args.name.now c.in-Ok.ensures.ok c.remove_type.ensures
    (not_true ((scope_of old.scope).declares_type c.args.name.now) (λ known. never (c.in-Ok.ensures.taken.1 known))) in
    refuses_by (state_of old) (state_of (made old c.new_type.new.self c.remove_type.new.self)) (newtype_command c.args.name.now) c.in-Err-new_type.fault
    (kept_state old (made old c.new_type.new.self c.remove_type.new.self) c.in-Err-new_type.ensures.kept keeps (same_store _)) c.in-Err-new_type.ensures.outcome (λ refused. newtype_is_refused refused)

pub returns-in-Err-new_type-clause-kept : goal.returns-in-Err-new_type-clause-kept
returns-in-Err-new_type-clause-kept c =
    let old = c.args.self.now in
    let keeps = type_removed (scope_of old.scope) (scope_of c.add_type.new.self) (scope_of c.remove_type.new.self) c.args.name.now c.in-Ok.ensures.ok c.remove_type.ensures
    (not_true ((scope_of old.scope).declares_type c.args.name.now) (λ known. never (c.in-Ok.ensures.taken.1 known))) in
    kept_session old (made old c.new_type.new.self c.remove_type.new.self) c.requires c.in-Err-new_type.ensures.kept keeps (same_store _) (record { logic = refl; laws = refl })

pub returns-in-Err-NameTaken-clause-lemmas : goal.returns-in-Err-NameTaken-clause-lemmas
returns-in-Err-NameTaken-clause-lemmas c = ap lemmas_of c.refusal_of_type.ensures.kept

pub returns-in-Err-NameTaken-clause-stays : goal.returns-in-Err-NameTaken-clause-stays
returns-in-Err-NameTaken-clause-stays c = same_stays c.args.self.now c.refusal_of_type.new.self (ap (λ (s : Session). s.library.recorder) c.refusal_of_type.ensures.kept)

pub returns-in-Ok-new_type-clause-stays : goal.returns-in-Ok-new_type-clause-stays
returns-in-Ok-new_type-clause-stays c = grown_stays c.args.self.now (made c.args.self.now c.new_type.new.self c.add_type.new.self) c.libraries_grow.ensures c.in-Ok-new_type.ensures.grown

pub returns-in-Err-new_type-clause-stays : goal.returns-in-Err-new_type-clause-stays
returns-in-Err-new_type-clause-stays c = same_stays c.args.self.now (made c.args.self.now c.new_type.new.self c.remove_type.new.self) c.in-Err-new_type.ensures.kept

pub returns-in-Err-NameTaken-clause-later : goal.returns-in-Err-NameTaken-clause-later
returns-in-Err-NameTaken-clause-later c =
    let old = c.args.self.now in
    later_as (state_of old) (state_of c.refusal_of_type.new.self)
    (ap state_of c.refusal_of_type.ensures.kept ∙ kept_state old (made old old.library.recorder c.add_type.new.self) refl c.in-Err-NameTaken.ensures.kept (same_store _))

pub returns-in-Err-clause-later : goal.returns-in-Err-clause-later
returns-in-Err-clause-later c =
    let old = c.args.self.now in
    later_as (state_of old) (state_of (made old old.library.recorder c.add_type.new.self))
    (kept_state old (made old old.library.recorder c.add_type.new.self) refl c.in-Err.ensures.kept (same_store _))

pub returns-in-Ok-new_type-clause-later : goal.returns-in-Ok-new_type-clause-later
returns-in-Ok-new_type-clause-later c =
    let old = c.args.self.now in
    later_grown (state_of old) (state_of (made old c.new_type.new.self c.add_type.new.self)) c.new_type.new.self.theory (declaration_of_type c.args.name.now)
    (type-added old.library.recorder.theory c.new_type.new.self.theory c.args.name.now c.in-Ok-new_type.ensures.outcome)
    (grown_state old c.new_type.new.self c.add_type.new.self c.in-Ok.ensures.ok.variables)

pub returns-in-Err-new_type-clause-later : goal.returns-in-Err-new_type-clause-later
returns-in-Err-new_type-clause-later c =
    let old = c.args.self.now in
    let keeps = type_removed (scope_of old.scope) (scope_of c.add_type.new.self) (scope_of c.remove_type.new.self) c.args.name.now c.in-Ok.ensures.ok c.remove_type.ensures
    (not_true ((scope_of old.scope).declares_type c.args.name.now) (λ known. never (c.in-Ok.ensures.taken.1 known))) in
    later_as (state_of old) (state_of (made old c.new_type.new.self c.remove_type.new.self))
    (kept_state old (made old c.new_type.new.self c.remove_type.new.self) c.in-Err-new_type.ensures.kept keeps (same_store _))
