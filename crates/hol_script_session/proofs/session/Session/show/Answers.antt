use Rattle.std.proofs.Common.{sym, ◌∙◌, ap, subst, Bor}
use Rattle.std.proofs.lemmas.Result.{err_from_is_err_and}
use Rattle.std.specs.Option.{option_map}
use Rattle.hol_model.specs.declared.fault.Fault.TheVariants.{UnknownName}
use Rattle.hol_model.specs.Texts.Reading.{Scope}
use Rattle.hol_model_sessions.specs.CommandGrammar.{show_command}
use Rattle.hol_script_session.proofs.AllowedLemmas.{show_finds_none, show_prints}
use Rattle.hol_journal.specs.Journal.{Recorded}
use Rattle.hol_script_session.specs.Answers.{with_beside, IsLineOf}
use Rattle.hol_script_session.specs.SessionState.{state_of, theorem_of}
use Rattle.hol_script_session.proofs.RuleLemmas.{proved}
use Rattle.hol_script_session.proofs.SessionLemmas.{scope_same, refuses, forgets, prints}
use Rattle.hol_script_session.proofs.session.Session.show.Goals as goal

pub returns-in_default : goal.returns-in_default
returns-in_default c = λ lemmas.
    refuses (state_of c.args.self.now) (show_command c.args.name.now) UnknownName
    (show_finds_none (ap theorem_of (sym c.get.ensures.found ∙ ap (option_map (λ (made : Bor Recorded). made.now)) c.in_default.is)))

pub returns : goal.returns
returns c = λ lemmas.
    let session = c.args.self.now in
    let theorem = c.in-Some.theorem.now.theorem in
    prints (state_of session) (state_of session) (show_command c.args.name.now) c.args.name.now theorem c.in_ok-line.line
    (show_prints (ap theorem_of (sym c.in-Some.ensures.found)))
    (λ beside. proved (with_beside beside (state_of session)) theorem c.sound.ensures c.requires.legal
    (rw c.thm-thm.ensures at c.well_formed-2.ensures)
    (c.requires.library.stored.theorems c.args.name.now c.in-Some.theorem.now (sym c.in-Some.ensures.found)).earlier)
    (subst (λ (scope : Scope). IsLineOf c.in_ok-line.line scope c.args.name.now theorem) (scope_same session c.requires) (rw c.thm-thm.ensures at c.in_ok-line.ensures.ok))

pub returns-in_err-line : goal.returns-in_err-line
returns-in_err-line c = λ lemmas.
    let p = err_from_is_err_and c.from_residual.result c.from_residual.ensures.1 in
    rw (p.1, p.2) (forgets (state_of c.args.self.now) (show_command c.args.name.now) c.in_err-line.field-0.0 c.in_err-line.ensures.err)
