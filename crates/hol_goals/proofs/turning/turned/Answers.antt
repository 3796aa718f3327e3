use Rattle.std.proofs.Common.{◌∙◌}
use Rattle.std.proofs.lemmas.Result.{err_from_is_err_and}
use Rattle.hol_just.specs.Growing.{grown_tree}
use Rattle.hol_goals.proofs.NumberedSteps.{turned-opening, turned-fits}
use Rattle.hol_goals.proofs.turning.turned.Goals as goal

pub returns-in_err-just-clause-err : goal.returns-in_err-just-clause-err
returns-in_err-just-clause-err c =
    let p = err_from_is_err_and c.from_residual-in_err-just.result c.from_residual-in_err-just.ensures.1 in
    rw (p.1, p.2)
    (turned-fits c.args.turns c.args.opening.now c.in_ok-steps.steps.items c.in_err-just.field-0.0 c.requires
    (rw c.deref-2.ensures.value at c.in_ok-steps.ensures.ok) (rw (c.deref-3.ensures.value, c.in_ok-whole.ensures.tree) at c.in_err-just.ensures.err))

pub returns-clause-ok : goal.returns-clause-ok
returns-clause-ok c =
    turned-opening c.args.turns c.args.opening.now c.in_ok-goals.goals.items c.in_ok-steps.steps.items (grown_tree c.in_ok-just-2.just) c.requires
    (rw c.deref.ensures.value at c.in_ok-goals.ensures.ok) (rw c.deref-2.ensures.value at c.in_ok-steps.ensures.ok)
    (c.in_ok-just-2.ensures.tree ∙ (rw (c.deref-3.ensures.value, c.in_ok-whole.ensures.tree) at c.in_ok-just.ensures.tree))
