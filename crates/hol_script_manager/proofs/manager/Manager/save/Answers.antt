use Rattle.std.proofs.Common.{◌∙◌, refl, sym, ap, subst, inl, Ok}
use Rattle.std.proofs.lemmas.Result.{err_from_is_err_and}
use Rattle.hol_journal.specs.Journal.{Recorded, IsMade}
use Rattle.hol_model_sessions.specs.CommandGrammar.{save_command}
use Rattle.hol_script_manager.specs.Managers.{state_of}
use Rattle.hol_script_manager.proofs.Managing.{journal_in, refuses, session_manager, unsaved_name, unsaved, kept_or_saved}
use Rattle.hol_script_manager.proofs.manager.Manager.save.Goals as goal

pub returns-in_err-test_name-clause-performs : goal.returns-in_err-test_name-clause-performs
returns-in_err-test_name-clause-performs c =
    let p = err_from_is_err_and c.from_residual.result c.from_residual.ensures.1 in
    rw (p.1, p.2)
    (unsaved_name c.args.self.now c.args.name.now c.in_err-test_name.field-0.0 c.in_err-test_name.ensures)

pub returns-in_err-top_thm-clause-performs : goal.returns-in_err-top_thm-clause-performs
returns-in_err-top_thm-clause-performs c =
    let p = err_from_is_err_and c.from_residual-in_err-top_thm.result c.from_residual-in_err-top_thm.ensures.1 in
    rw (p.1, p.2)
    (unsaved c.args.self.now c.args.name.now c.in_err-top_thm.field-0.0 c.in_ok-test_name.ensures c.in_err-top_thm.ensures.outcome)

pub keep-requires-clause-made : goal.keep-requires-clause-made
keep-requires-clause-made c =
    subst (λ (made : Recorded). IsMade (journal_in c.args.self.now) made) (sym c.in_ok-theorem.ensures.ok) (c.in_ok-top_thm.ensures.made (journal_in c.args.self.now) c.requires.made)

pub returns-clause-performs : goal.returns-clause-performs
returns-clause-performs c =
    kept_or_saved c.args.self.now c.keep.new.self c.args.name.now c.in_ok-theorem.theorem.theorem c.keep.result c.in_ok-test_name.ensures
    (ap (λ (made : Recorded). Ok made.theorem) c.in_ok-theorem.ensures.ok ∙ c.in_ok-top_thm.ensures.outcome) c.keep.ensures.ok c.keep.ensures.err c.keep.ensures.memory c.keep.ensures.lemmas

pub returns-clause-kept : goal.returns-clause-kept
returns-clause-kept c = session_manager c.args.self.now c.keep.new.self c.requires c.keep.ensures.kept c.keep.ensures.lemmas c.keep.ensures.stays c.keep.ensures.later

pub returns-in_err-theorem-clause-performs : goal.returns-in_err-theorem-clause-performs
returns-in_err-theorem-clause-performs c =
    let p = err_from_is_err_and c.from_residual-in_err-theorem.result c.from_residual-in_err-theorem.ensures.1 in
    rw (p.1, p.2)
    (refuses (state_of c.args.self.now) (state_of c.args.self.now) (save_command c.args.name.now) c.in_err-theorem.field-0.0 refl (inl c.in_err-theorem.ensures.err))
