use Rattle.std.proofs.Common.{refl, sym, subst, ap, ◌∙◌, Ok, Err, Option}
use Rattle.std.proofs.lemmas.Result.{err_from_is_err_and}
use Rattle.std.specs.Prelude.{is_some}
use Rattle.hol_model.specs.declared.fault.Fault.TheVariants.{Memory}
use Rattle.hol_model.specs.Terms.HolType.{HolType}
use Rattle.hol_model_sessions.specs.CommandGrammar.{newconst_command}
use Rattle.hol_model_sessions.specs.Sessions.{State, over_theory}
use Rattle.hol_script_session.specs.declared.session.Session.{Session}
use Rattle.hol_laws_sessions.proofs.Growth.{const-added}
use Rattle.hol_script_session.proofs.AllowedLemmas.{newconst_is_refused, newconst_declares}
use Rattle.hol_script_session.specs.declared.reply.Printed.TheVariants.{Nothing}
use Rattle.hol_script_session.specs.Answers.{no_tools, PerformsWith}
use Rattle.hol_syntax.specs.Scope.{scope_of}
use Rattle.hol_script_session.specs.SessionState.{state_of, lemmas_of, IsSession}
use Rattle.hol_script_session.proofs.SessionLemmas.{is_silent, refuses_by, forgets_here}
use Rattle.hol_script_session.proofs.GrowthLemmas.{made, kept_state, kept_session, const-not_new, not_some, never, const_removed, grown_state}
use Rattle.hol_script_session.proofs.GrowthLemmas.{const_session, newconst_outcome-is, newconst-argument_refused, same_store, same_laws, same_stays}
use Rattle.hol_script_session.proofs.GrowthLemmas.{grown_stays}
use Rattle.hol_model.specs.Logic.Theory.{declaration_of_constant}
use Rattle.hol_script_session.proofs.LaterLemmas.{later_as, later_grown}
use Rattle.hol_script_session.proofs.session.Session.newconst.Goals as goal

pub returns-in_err-ty-clause-performs : goal.returns-in_err-ty-clause-performs
returns-in_err-ty-clause-performs c = λ lemmas tree steps.
    let old = c.args.self.now in
    let p = err_from_is_err_and c.from_residual.result c.from_residual.ensures.1 in
    rw (p.1, p.2)
    (refuses_by (state_of old) (state_of old) (newconst_command c.args.name.now tree) c.in_err-ty.field-0.0 refl (c.in_err-ty.ensures.reads tree steps)
    (λ refused. newconst_is_refused (newconst-argument_refused (state_of old) c.args.name.now tree c.in_err-ty.field-0.0 refused)))

pub refusal_of_const-requires : goal.refusal_of_const-requires
refusal_of_const-requires c =
    const-not_new c.args.self.now.library.recorder.theory c.args.name.now c.in_ok-ty.ty
    (ap (λ (g : Option HolType). is_some g) (sym (c.requires.scope.constants c.args.name.now)) ∙ c.in-Err-NameTaken.ensures.taken.0 (ap (λ e. Err e) c.in-Err-NameTaken.field-0-is))

pub returns-in-Err-NameTaken-clause-performs : goal.returns-in-Err-NameTaken-clause-performs
returns-in-Err-NameTaken-clause-performs c = λ lemmas tree steps.
    let old = c.args.self.now in
    refuses_by (state_of old) (state_of c.refusal_of_const.new.self) (newconst_command c.args.name.now tree) c.refusal_of_const.result
    (ap state_of c.refusal_of_const.ensures.kept
    ∙ kept_state old (made old old.library.recorder c.add_const.new.self) refl c.in-Err-NameTaken.ensures.kept
    (same_store _)) c.refusal_of_const.ensures.fault
    (λ refused. newconst_is_refused (newconst_outcome-is (state_of old) c.args.name.now tree c.in_ok-ty.ty (c.in_ok-ty.ensures.reads tree steps) ∙ refused))

pub returns-in-Err-NameTaken-clause-kept : goal.returns-in-Err-NameTaken-clause-kept
returns-in-Err-NameTaken-clause-kept c =
    let old = c.args.self.now in
    subst IsSession (sym c.refusal_of_const.ensures.kept)
    (kept_session old (made old old.library.recorder c.add_const.new.self) c.requires refl c.in-Err-NameTaken.ensures.kept (same_store _)
    (same_laws _))

pub returns-in-Ok-new_const-clause-performs : goal.returns-in-Ok-new_const-clause-performs
returns-in-Ok-new_const-clause-performs c = λ lemmas tree steps.
    let old = c.args.self.now in
    subst (λ (state : State). PerformsWith no_tools lemmas (state_of old) (newconst_command c.args.name.now tree) (Ok Nothing) state)
    (sym (grown_state old c.new_const.new.self c.add_const.new.self c.in-Ok.ensures.ok.variables))
    (is_silent (state_of old) (over_theory (state_of old) c.new_const.new.self.theory) (newconst_command c.args.name.now tree)
    (newconst_declares (newconst_outcome-is (state_of old) c.args.name.now tree c.in_ok-ty.ty (c.in_ok-ty.ensures.reads tree steps) ∙ c.in-Ok-new_const.ensures.outcome)))

pub returns-in-Ok-new_const-clause-kept : goal.returns-in-Ok-new_const-clause-kept
returns-in-Ok-new_const-clause-kept c =
    const_session c.args.self.now c.new_const.new.self c.add_const.new.self c.args.name.now c.in_ok-ty.ty c.libraries_grow.ensures c.requires
    c.in-Ok.ensures.ok c.in-Ok-new_const.ensures.outcome c.in-Ok-new_const.ensures.grown

pub returns-clause-performs : goal.returns-clause-performs
returns-clause-performs c = λ lemmas tree steps.
    let old = c.args.self.now in
    let keeps = const_removed (scope_of old.scope) (scope_of c.add_const.new.self) (scope_of c.remove_const.new.self) c.args.name.now c.in_ok-ty.ty c.in-Ok.ensures.ok c.remove_const.ensures
    (not_some ((scope_of old.scope).generic_type c.args.name.now) (λ known. never (c.in-Ok.ensures.taken.1 known))) in
    refuses_by (state_of old) (state_of (made old c.new_const.new.self c.remove_const.new.self)) (newconst_command c.args.name.now tree) c.in-Err-new_const.fault
    (kept_state old (made old c.new_const.new.self c.remove_const.new.self) c.in-Err-new_const.ensures.kept keeps (same_store _)) c.in-Err-new_const.ensures.outcome
    (λ refused. newconst_is_refused (newconst_outcome-is (state_of old) c.args.name.now tree c.in_ok-ty.ty (c.in_ok-ty.ensures.reads tree steps) ∙ refused))

pub returns-clause-kept : goal.returns-clause-kept
returns-clause-kept c =
    let old = c.args.self.now in
    let keeps = const_removed (scope_of old.scope) (scope_of c.add_const.new.self) (scope_of c.remove_const.new.self) c.args.name.now c.in_ok-ty.ty c.in-Ok.ensures.ok c.remove_const.ensures
    (not_some ((scope_of old.scope).generic_type c.args.name.now) (λ known. never (c.in-Ok.ensures.taken.1 known))) in
    kept_session old (made old c.new_const.new.self c.remove_const.new.self) c.requires c.in-Err-new_const.ensures.kept keeps (same_store _) (record { logic = refl; laws = refl })

pub returns-in-Err-clause-performs : goal.returns-in-Err-clause-performs
returns-in-Err-clause-performs c = λ lemmas tree steps.
    let old = c.args.self.now in
    forgets_here (state_of old) (state_of (made old old.library.recorder c.add_const.new.self)) (newconst_command c.args.name.now tree) Memory
    (kept_state old (made old old.library.recorder c.add_const.new.self) refl c.in-Err.ensures.kept (same_store _)) refl

pub returns-in-Err-clause-kept : goal.returns-in-Err-clause-kept
returns-in-Err-clause-kept c =
    let old = c.args.self.now in
    kept_session old (made old old.library.recorder c.add_const.new.self) c.requires refl c.in-Err.ensures.kept (same_store _) (same_laws _)

pub returns-in-Err-NameTaken-clause-lemmas : goal.returns-in-Err-NameTaken-clause-lemmas
returns-in-Err-NameTaken-clause-lemmas c = ap lemmas_of c.refusal_of_const.ensures.kept

pub returns-in-Err-NameTaken-clause-stays : goal.returns-in-Err-NameTaken-clause-stays
returns-in-Err-NameTaken-clause-stays c = same_stays c.args.self.now c.refusal_of_const.new.self (ap (λ (s : Session). s.library.recorder) c.refusal_of_const.ensures.kept)

pub returns-in-Ok-new_const-clause-stays : goal.returns-in-Ok-new_const-clause-stays
returns-in-Ok-new_const-clause-stays c = grown_stays c.args.self.now (made c.args.self.now c.new_const.new.self c.add_const.new.self) c.libraries_grow.ensures c.in-Ok-new_const.ensures.grown

pub returns-clause-stays : goal.returns-clause-stays
returns-clause-stays c = same_stays c.args.self.now (made c.args.self.now c.new_const.new.self c.remove_const.new.self) c.in-Err-new_const.ensures.kept

pub returns-in_err-ty-clause-later : goal.returns-in_err-ty-clause-later
returns-in_err-ty-clause-later c = later_as (state_of c.args.self.now) (state_of c.args.self.now) refl

pub returns-in-Err-NameTaken-clause-later : goal.returns-in-Err-NameTaken-clause-later
returns-in-Err-NameTaken-clause-later c =
    let old = c.args.self.now in
    later_as (state_of old) (state_of c.refusal_of_const.new.self)
    (ap state_of c.refusal_of_const.ensures.kept ∙ kept_state old (made old old.library.recorder c.add_const.new.self) refl c.in-Err-NameTaken.ensures.kept (same_store _))

pub returns-in-Err-clause-later : goal.returns-in-Err-clause-later
returns-in-Err-clause-later c =
    let old = c.args.self.now in
    later_as (state_of old) (state_of (made old old.library.recorder c.add_const.new.self))
    (kept_state old (made old old.library.recorder c.add_const.new.self) refl c.in-Err.ensures.kept (same_store _))

pub returns-in-Ok-new_const-clause-later : goal.returns-in-Ok-new_const-clause-later
returns-in-Ok-new_const-clause-later c =
    let old = c.args.self.now in
    later_grown (state_of old) (state_of (made old c.new_const.new.self c.add_const.new.self)) c.new_const.new.self.theory (declaration_of_constant c.args.name.now c.in_ok-ty.ty)
    (const-added old.library.recorder.theory c.new_const.new.self.theory c.args.name.now c.in_ok-ty.ty c.in-Ok-new_const.ensures.outcome)
    (grown_state old c.new_const.new.self c.add_const.new.self c.in-Ok.ensures.ok.variables)

pub returns-clause-later : goal.returns-clause-later
returns-clause-later c =
    let old = c.args.self.now in
    let keeps = const_removed (scope_of old.scope) (scope_of c.add_const.new.self) (scope_of c.remove_const.new.self) c.args.name.now c.in_ok-ty.ty c.in-Ok.ensures.ok c.remove_const.ensures
    (not_some ((scope_of old.scope).generic_type c.args.name.now) (λ known. never (c.in-Ok.ensures.taken.1 known))) in
    later_as (state_of old) (state_of (made old c.new_const.new.self c.remove_const.new.self))
    (kept_state old (made old c.new_const.new.self c.remove_const.new.self) c.in-Err-new_const.ensures.kept keeps (same_store _))
