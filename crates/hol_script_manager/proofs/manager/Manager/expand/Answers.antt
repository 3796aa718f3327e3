use Rattle.std.proofs.lemmas.Result.{err_from_is_err_and}
use Rattle.hol_model.specs.declared.limits.TheConstants.{STEPS_LIMIT}
use Rattle.hol_host.specs.Host.{host_of}
use Rattle.hol_goals.specs.Expansions.{told_of}
use Rattle.hol_script_manager.proofs.Expanding.{logic_there, witnesses, e_unread_turn, on_manager, e_unrefined_turn, e_unrefined_manager, e_shown_turn, e_undone_turn, e_undone_manager}
use Rattle.hol_script_manager.proofs.manager.Manager.expand.Goals as goal

pub returns-in_err-tac-clause-performs : goal.returns-in_err-tac-clause-performs
returns-in_err-tac-clause-performs g c = λ tree is.
    let p = err_from_is_err_and c.from_residual.result c.from_residual.ensures.1 in
    rw (p.1, p.2)
    (e_unread_turn (host_of (g.H.Refiners.refiners c.args.host.now) (g.H.Converters.conversions c.args.host.now)) STEPS_LIMIT c.args.self.now c.requires.manager tree
    c.in_err-tac.field-0.0 (c.in_err-tac.ensures tree is))

pub expand-requires-clause-grounded : goal.expand-requires-clause-grounded
expand-requires-clause-grounded g c = record { logic = logic_there c.args.self.now c.requires.manager; proved = c.requires.manager.session.proved }

pub expand-requires-clause-witnesses : goal.expand-requires-clause-witnesses
expand-requires-clause-witnesses g c =
    let expression = c.requires.expression in
    witnesses c.args.self.now c.requires.manager expression.tree c.in_ok-tac.tac (c.in_ok-tac.ensures expression.tree expression.is)

pub returns-in-Err-clause-performs : goal.returns-in-Err-clause-performs
returns-in-Err-clause-performs g c = λ tree is.
    let run = c.in-Err.ensures in
    e_unrefined_turn c.args.self.now (record { prover = c.expand.new.prover; stack = c.expand.new.self }) c.requires.manager (record { further = run.extends; ready = run.ready; later = run.later })
    c.forget.new.self c.lemma_count-lemmas.result c.forget.ensures c.lemma_count-lemmas.ensures run.expanded.unchanged
    (host_of (g.H.Refiners.refiners c.args.host.now) (g.H.Converters.conversions c.args.host.now)) STEPS_LIMIT c.new-fuel.ensures tree c.in_ok-tac.tac (c.in_ok-tac.ensures tree is)
    c.in-Err.fault run.expanded.refused

pub returns-in-Err-clause-kept : goal.returns-in-Err-clause-kept
returns-in-Err-clause-kept g c =
    let run = c.in-Err.ensures in
    e_unrefined_manager c.args.self.now (record { prover = c.expand.new.prover; stack = c.expand.new.self }) c.requires.manager (record { further = run.extends; ready = run.ready; later = run.later })
    c.forget.new.self c.lemma_count-lemmas.result c.forget.ensures c.lemma_count-lemmas.ensures run.expanded.unchanged (run.made c.requires.manager.made)

pub shown_or_undone-requires : goal.shown_or_undone-requires
shown_or_undone-requires g c =
    let run = c.in-Ok.ensures in
    on_manager c.args.self.now (record { prover = c.expand.new.prover; stack = c.expand.new.self }) c.requires.manager (record { further = run.extends; ready = run.ready; later = run.later })
    run.valid (run.made c.requires.manager.made)

pub returns-in-Ok-shown_or_undone-clause-performs : goal.returns-in-Ok-shown_or_undone-clause-performs
returns-in-Ok-shown_or_undone-clause-performs g c = λ tree is.
    let run = c.in-Ok.ensures in
    e_shown_turn c.args.self.now (record { prover = c.expand.new.prover; stack = c.expand.new.self }) c.requires.manager (record { further = run.extends; ready = run.ready; later = run.later })
    (host_of (g.H.Refiners.refiners c.args.host.now) (g.H.Converters.conversions c.args.host.now)) c.in_ok-tac.tac (told_of c.in-Ok._told) run.expanded STEPS_LIMIT c.new-fuel.ensures
    tree (c.in_ok-tac.ensures tree is) c.shown_or_undone.new.self c.in-Ok-shown_or_undone.ensures.same c.in-Ok-shown_or_undone.printed c.in-Ok-shown_or_undone.ensures.ok

pub returns-clause-performs : goal.returns-clause-performs
returns-clause-performs g c = λ tree is.
    let run = c.in-Ok.ensures in
    e_undone_turn c.args.self.now (record { prover = c.expand.new.prover; stack = c.expand.new.self }) c.requires.manager (record { further = run.extends; ready = run.ready; later = run.later })
    (host_of (g.H.Refiners.refiners c.args.host.now) (g.H.Converters.conversions c.args.host.now)) c.in_ok-tac.tac (told_of c.in-Ok._told) run.expanded
    c.shown_or_undone.new.self c.forget-in-Err-shown_or_undone.new.self c.in-Err-shown_or_undone.ensures.undone
    c.lemma_count-lemmas.result c.forget-in-Err-shown_or_undone.ensures c.lemma_count-lemmas.ensures
    tree c.in-Err-shown_or_undone.fault c.in-Err-shown_or_undone.ensures.err

pub returns-clause-kept : goal.returns-clause-kept
returns-clause-kept g c =
    let run = c.in-Ok.ensures in
    e_undone_manager c.args.self.now (record { prover = c.expand.new.prover; stack = c.expand.new.self }) c.requires.manager (record { further = run.extends; ready = run.ready; later = run.later })
    (host_of (g.H.Refiners.refiners c.args.host.now) (g.H.Converters.conversions c.args.host.now)) c.in_ok-tac.tac (told_of c.in-Ok._told) run.expanded
    c.shown_or_undone.new.self c.forget-in-Err-shown_or_undone.new.self c.in-Err-shown_or_undone.ensures.undone
    c.lemma_count-lemmas.result c.forget-in-Err-shown_or_undone.ensures c.lemma_count-lemmas.ensures
    (run.made c.requires.manager.made)
