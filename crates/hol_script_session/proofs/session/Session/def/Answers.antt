use Rattle.std.proofs.Common.{refl, sym, subst, ap, ◌∙◌, Err, Option}
use Rattle.std.proofs.lemmas.Result.{err_from_is_err_and}
use Rattle.std.specs.Prelude.{is_some}
use Rattle.hol_model.specs.declared.fault.Fault.TheVariants.{Memory}
use Rattle.hol_model.specs.Terms.HolType.{HolType}
use Rattle.hol_model_sessions.specs.CommandGrammar.{def_command}
use Rattle.hol_script_session.specs.declared.session.Session.{Session}
use Rattle.hol_script_session.proofs.AllowedLemmas.{def_is_refused}
use Rattle.hol_syntax.specs.Scope.{scope_of}
use Rattle.hol_script_session.specs.SessionState.{state_of, lemmas_of, IsSession}
use Rattle.hol_script_session.proofs.SessionLemmas.{refuses_by, forgets_here}
use Rattle.hol_script_session.proofs.GrowthLemmas.{made, with_scope, kept_state, kept_session, definition-not_new, not_some, never, removed_after}
use Rattle.hol_script_session.proofs.GrowthLemmas.{def_session, def_performs, def_outcome-is, def-argument_refused, same_store, same_laws}
use Rattle.hol_script_session.proofs.GrowthLemmas.{same_lemmas, same_stays, grown_stays}
use Rattle.hol_script_session.proofs.GrowthLemmas.{def_state}
use Rattle.hol_script_session.proofs.LaterLemmas.{later_as, later_defined}
use Rattle.hol_script_session.proofs.session.Session.def.Goals as goal

pub returns-in_err-term-clause-performs : goal.returns-in_err-term-clause-performs
returns-in_err-term-clause-performs c = λ lemmas tree steps.
    let old = c.args.self.now in
    let p = err_from_is_err_and c.from_residual.result c.from_residual.ensures.1 in
    rw (p.1, p.2)
    (refuses_by (state_of old) (state_of old) (def_command c.args.name.now tree) c.in_err-term.field-0.0 refl (c.in_err-term.ensures tree steps)
    (λ refused. def_is_refused (def-argument_refused (state_of old) c.args.name.now tree c.in_err-term.field-0.0 refused)))

pub refusal_of_definition-requires : goal.refusal_of_definition-requires
refusal_of_definition-requires c =
    definition-not_new c.args.self.now.library.recorder.theory c.args.name.now c.in_ok-term.term
    (ap (λ (g : Option HolType). is_some g) (sym (c.requires.scope.constants c.args.name.now)) ∙ c.in-Err-NameTaken.ensures.taken.0 (ap (λ e. Err e) c.in-Err-NameTaken.field-0-is))

pub returns-in-Err-NameTaken-clause-performs : goal.returns-in-Err-NameTaken-clause-performs
returns-in-Err-NameTaken-clause-performs c = λ lemmas tree steps.
    let old = c.args.self.now in
    refuses_by (state_of old) (state_of c.refusal_of_definition.new.self) (def_command c.args.name.now tree) c.refusal_of_definition.result
    (ap state_of c.refusal_of_definition.ensures.kept
    ∙ kept_state old (made old old.library.recorder c.add_const.new.self) refl c.in-Err-NameTaken.ensures.kept
    (same_store _)) c.refusal_of_definition.ensures.fault
    (λ refused. def_is_refused (def_outcome-is (state_of old) c.args.name.now tree c.in_ok-term.term (c.in_ok-term.ensures tree steps) ∙ refused))

pub returns-in-Err-NameTaken-clause-kept : goal.returns-in-Err-NameTaken-clause-kept
returns-in-Err-NameTaken-clause-kept c =
    let old = c.args.self.now in
    subst IsSession (sym c.refusal_of_definition.ensures.kept)
    (kept_session old (made old old.library.recorder c.add_const.new.self) c.requires refl c.in-Err-NameTaken.ensures.kept (same_store _)
    (same_laws _))

pub returns-in-Err-clause-performs : goal.returns-in-Err-clause-performs
returns-in-Err-clause-performs c = λ lemmas tree steps.
    let old = c.args.self.now in
    forgets_here (state_of old) (state_of (made old old.library.recorder c.add_const.new.self)) (def_command c.args.name.now tree) Memory
    (kept_state old (made old old.library.recorder c.add_const.new.self) refl c.in-Err.ensures.kept (same_store _)) refl

pub returns-in-Err-clause-kept : goal.returns-in-Err-clause-kept
returns-in-Err-clause-kept c =
    let old = c.args.self.now in
    kept_session old (made old old.library.recorder c.add_const.new.self) c.requires refl c.in-Err.ensures.kept (same_store _) (same_laws _)

pub returns-in-Ok-define-clause-performs : goal.returns-in-Ok-define-clause-performs
returns-in-Ok-define-clause-performs c = λ lemmas tree steps.
    def_performs c.args.self.now c.define.new.self c.add_const.new.self c.args.name.now tree c.in_ok-term.term c.ty.result.now c.in-Ok-define.line c.sound.ensures c.libraries_grow.ensures c.requires
    (c.in_ok-term.ensures tree steps) c.ty.ensures c.in-Ok.ensures.ok c.in-Ok-define.ensures.ok

pub returns-in-Ok-define-clause-kept : goal.returns-in-Ok-define-clause-kept
returns-in-Ok-define-clause-kept c =
    def_session c.args.self.now c.define.new.self c.add_const.new.self c.args.name.now c.in_ok-term.term c.ty.result.now _ c.libraries_grow.ensures
    c.requires c.ty.ensures c.in-Ok.ensures.ok c.in-Ok-define.ensures.ok

pub returns-clause-performs : goal.returns-clause-performs
returns-clause-performs c = λ lemmas tree steps.
    let old = c.args.self.now in
    let new = with_scope c.define.new.self c.remove_const.new.self in
    let keeps = removed_after old c.add_const.new.self c.define.new.self c.remove_const.new.self c.args.name.now c.ty.result.now
    c.in-Ok.ensures.ok c.in-Err-define.ensures.kept c.remove_const.ensures
    (not_some ((scope_of old.scope).generic_type c.args.name.now) (λ known. never (c.in-Ok.ensures.taken.1 known))) in
    refuses_by (state_of old) (state_of new) (def_command c.args.name.now tree) c.in-Err-define.fault
    (kept_state old new c.in-Err-define.ensures.kept.recorder keeps c.in-Err-define.ensures.kept.store) c.in-Err-define.ensures.err
    (λ refused. def_is_refused (def_outcome-is (state_of old) c.args.name.now tree c.in_ok-term.term (c.in_ok-term.ensures tree steps) ∙ refused))

pub returns-clause-kept : goal.returns-clause-kept
returns-clause-kept c =
    let old = c.args.self.now in
    let new = with_scope c.define.new.self c.remove_const.new.self in
    let keeps = removed_after old c.add_const.new.self c.define.new.self c.remove_const.new.self c.args.name.now c.ty.result.now
    c.in-Ok.ensures.ok c.in-Err-define.ensures.kept c.remove_const.ensures
    (not_some ((scope_of old.scope).generic_type c.args.name.now) (λ known. never (c.in-Ok.ensures.taken.1 known))) in
    kept_session old new c.requires c.in-Err-define.ensures.kept.recorder keeps c.in-Err-define.ensures.kept.store c.in-Err-define.ensures.kept.kept

pub returns-in-Err-NameTaken-clause-lemmas : goal.returns-in-Err-NameTaken-clause-lemmas
returns-in-Err-NameTaken-clause-lemmas c = ap lemmas_of c.refusal_of_definition.ensures.kept

pub returns-in-Err-NameTaken-clause-stays : goal.returns-in-Err-NameTaken-clause-stays
returns-in-Err-NameTaken-clause-stays c = same_stays c.args.self.now c.refusal_of_definition.new.self (ap (λ (s : Session). s.library.recorder) c.refusal_of_definition.ensures.kept)

pub returns-in-Ok-define-clause-lemmas : goal.returns-in-Ok-define-clause-lemmas
returns-in-Ok-define-clause-lemmas c = same_lemmas c.args.self.now c.define.new.self c.in-Ok-define.ensures.ok.stored.lemmas

pub returns-in-Ok-define-clause-stays : goal.returns-in-Ok-define-clause-stays
returns-in-Ok-define-clause-stays c = grown_stays c.args.self.now c.define.new.self c.libraries_grow.ensures c.in-Ok-define.ensures.ok.grown

pub returns-clause-lemmas : goal.returns-clause-lemmas
returns-clause-lemmas c = same_lemmas c.args.self.now c.define.new.self c.in-Err-define.ensures.kept.store.lemmas

pub returns-clause-stays : goal.returns-clause-stays
returns-clause-stays c = same_stays c.args.self.now c.define.new.self c.in-Err-define.ensures.kept.recorder

pub returns-in_err-term-clause-later : goal.returns-in_err-term-clause-later
returns-in_err-term-clause-later c = later_as (state_of c.args.self.now) (state_of c.args.self.now) refl

pub returns-in-Err-NameTaken-clause-later : goal.returns-in-Err-NameTaken-clause-later
returns-in-Err-NameTaken-clause-later c =
    let old = c.args.self.now in
    later_as (state_of old) (state_of c.refusal_of_definition.new.self)
    (ap state_of c.refusal_of_definition.ensures.kept ∙ kept_state old (made old old.library.recorder c.add_const.new.self) refl c.in-Err-NameTaken.ensures.kept (same_store _))

pub returns-in-Err-clause-later : goal.returns-in-Err-clause-later
returns-in-Err-clause-later c =
    let old = c.args.self.now in
    later_as (state_of old) (state_of (made old old.library.recorder c.add_const.new.self))
    (kept_state old (made old old.library.recorder c.add_const.new.self) refl c.in-Err.ensures.kept (same_store _))

pub returns-in-Ok-define-clause-later : goal.returns-in-Ok-define-clause-later
returns-in-Ok-define-clause-later c =
    let old = c.args.self.now in
    let d = c.in-Ok-define.ensures.ok in
    later_defined (state_of old) (state_of c.define.new.self) c.args.name.now c.in_ok-term.term d.answer.theorem d.outcome
    (def_state old c.define.new.self c.add_const.new.self c.args.name.now c.in_ok-term.term c.ty.result.now c.in-Ok-define.line c.in-Ok.ensures.ok d)

pub returns-clause-later : goal.returns-clause-later
returns-clause-later c =
    let old = c.args.self.now in
    let new = with_scope c.define.new.self c.remove_const.new.self in
    let keeps = removed_after old c.add_const.new.self c.define.new.self c.remove_const.new.self c.args.name.now c.ty.result.now
    c.in-Ok.ensures.ok c.in-Err-define.ensures.kept c.remove_const.ensures
    (not_some ((scope_of old.scope).generic_type c.args.name.now) (λ known. never (c.in-Ok.ensures.taken.1 known))) in
    later_as (state_of old) (state_of new) (kept_state old new c.in-Err-define.ensures.kept.recorder keeps c.in-Err-define.ensures.kept.store)
