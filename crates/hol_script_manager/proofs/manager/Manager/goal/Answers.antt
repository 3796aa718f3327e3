use Rattle.std.proofs.Common.{refl}
use Rattle.std.proofs.lemmas.Result.{err_from_is_err_and}
use Rattle.hol_script_inference.specs.Sessions.{Goals}
use Rattle.hol_script_manager.proofs.SettingGoals.{unread, forgotten, unset, set_turn, new_state, new_manager}
use Rattle.hol_script_manager.proofs.Managing.{journal_in, unset_manager}
use Rattle.hol_script_manager.proofs.manager.Manager.goal.Goals as goal

pub returns-in_err-term-clause-performs : goal.returns-in_err-term-clause-performs
returns-in_err-term-clause-performs c = λ tree steps.
    let p = err_from_is_err_and c.from_residual.result c.from_residual.ensures.1 in
    rw (p.1, p.2)
    (unread c.args.self.now c.requires tree c.in_err-term.field-0.0 (c.in_err-term.ensures tree steps))

pub returns-in_err-text-clause-performs : goal.returns-in_err-text-clause-performs
returns-in_err-text-clause-performs c = λ tree steps.
    let p = err_from_is_err_and c.from_residual-in_err-text.result c.from_residual-in_err-text.ensures.1 in
    rw (p.1, p.2)
    (forgotten c.args.self.now c.requires tree c.in_err-text.field-0.0 c.in_err-text.ensures.err)

pub returns-clause-performs : goal.returns-clause-performs
returns-clause-performs c = λ tree steps.
    let old = c.args.self.now in
    let sets = c.in_ok-set.ensures.outcome in
    set_turn old c.requires tree _ c.in_ok-term.term sets.0 (Goals c.in_ok-text.text)
    (new_state old c.clear_lemmas.new.self c.set.new.self sets.0 c.clear_lemmas.ensures.theorems c.clear_lemmas.ensures.lemmas sets.2)
    (c.in_ok-term.ensures tree steps) sets.1 c.well_formed-2.ensures.within_limits c.well_named.ensures c.in_ok-text.ensures.ok refl

pub returns-clause-kept : goal.returns-clause-kept
returns-clause-kept c =
    let old = c.args.self.now in
    let sets = c.in_ok-set.ensures.outcome in
    new_manager old c.clear_lemmas.new.self c.set.new.self sets.0 c.clear_lemmas.ensures.theorems c.clear_lemmas.ensures.lemmas sets.2 c.in_ok-term.term c.requires sets.1
    (c.clear_lemmas.ensures.made (journal_in old) c.requires.session.library.stored) (c.in_ok-set.ensures.made (journal_in old) c.requires.made)

pub returns-in_err-set-clause-performs : goal.returns-in_err-set-clause-performs
returns-in_err-set-clause-performs c = λ tree steps.
    let p = err_from_is_err_and c.from_residual-in_err-set.result c.from_residual-in_err-set.ensures.1 in
    rw (p.1, p.2)
    (unset c.args.self.now c.requires tree c.in_ok-term.term c.in_err-set.field-0.0 c.set.new.self (c.in_ok-term.ensures tree steps) c.in_err-set.ensures.outcome)

pub returns-in_err-set-clause-kept : goal.returns-in_err-set-clause-kept
returns-in_err-set-clause-kept c =
    let old = c.args.self.now in
    unset_manager old c.requires c.set.new.self c.in_err-set.ensures.outcome.1 (c.in_err-set.ensures.made (journal_in old) c.requires.made)
