use Rattle.std.proofs.Common.{◌≡◌, ◌-◌, arith, sym, ap, ◌∙◌, length, drop, take}
use Rattle.std.proofs.lemmas.List.{drop-map, take_rest}
use Rattle.std.proofs.lemmas.Result.{err_from_is_err_and}
use Rattle.hol_just.specs.Steps.{goal_of, goals_of}
use Rattle.hol_just.specs.Growing.{grown_tree}
use Rattle.hol_goals.specs.Stages.{opening_of}
use Rattle.hol_goals.proofs.Refinements.{refined_is, refused_is}
use Rattle.hol_goals.proofs.refining.refined.Goals as goal

pub returns-in_err-just-clause-err : goal.returns-in_err-just-clause-err
returns-in_err-just-clause-err c =
    let p = err_from_is_err_and c.from_residual.result c.from_residual.ensures.1 in
    let count : c.len.result ≡ length c.args.refinement.goals.items = omega (arith, c.len.ensures, c.args.refinement.goals.ok) in
    rw (p.1, p.2) (refused_is (opening_of c.args.opening.now) c.args.refinement c.len.result (drop 1 (goals_of c.args.opening.now.goals.items)) c.in_err-just.field-0.0 count c.in_err-just.ensures.err)

pub returns-clause-ok : goal.returns-clause-ok
returns-clause-ok c =
    let count : c.len.result ≡ length c.args.refinement.goals.items = omega (arith, c.len.ensures, c.args.refinement.goals.ok) in
    let all = c.deref.result.now in
    refined_is (opening_of c.args.opening.now) c.args.refinement c.len.result (take (length all - 1) (drop 1 all)) c.append_goals.new.all.items (grown_tree c.in_ok-just.just)
    (drop 1 (goals_of c.args.opening.now.goals.items)) count (ap goals_of (take_rest all 1 ∙ ap (drop 1) c.deref.ensures.value) ∙ sym (drop-map goal_of 1 c.args.opening.now.goals.items))
    c.in_ok-append_goals.ensures.ok c.in_ok-just.ensures.tree
