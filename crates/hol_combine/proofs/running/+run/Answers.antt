use Rattle.std.proofs.Common.{rules, refl, ap, arith, ◌∙◌, ◌+◌, ◌<◌, ◌≤◌, ◌≡◌, length, get_or, drop, Some, []}
use Rattle.std.proofs.lemmas.List.{drop_all, map-append}
use Rattle.std.proofs.lemmas.Result.{err_from_is_err_and}
use Rattle.hol_tactic_exprs.specs.Expressions.{tactic_of, tactics_of, link_of, links_of}
use Rattle.hol_just.specs.Steps.{step_of}
use Rattle.hol_combine.specs.Repeating.{frame_of, next_above}
use Rattle.hol_model.specs.Refining.Combinators.{first_is_refused, first_goes_on, first_answers, first_is_not_caught, first_is_caught, none_is_left}
use Rattle.hol_tactic_exprs.specs.declared.tac.Tac as tac
use Rattle.hol_tactic_exprs.specs.declared.tac.Link as link
use Rattle.hol_tactic_exprs.proofs.Rows.{chain_means, orelse_means, thenl_means}
use Rattle.hol_combine.specs.Answers.{none_assigned, runs_assigned}
use Rattle.hol_combine.proofs.Runs.{alone, tries, no-goals, some-goals, none-assigned, each-assigned, links-drop, goals-drop, tactics-drop, pairs-left, on-next, on-stop}
use Rattle.hol_combine.proofs.Runs.{on-unspliced, on-end, each-next, each-stop, each-starved, each-end, paired-next, paired-stop, paired-starved, paired-end, others-next}
use Rattle.hol_combine.proofs.Runs.{others-answer, others-stop, others-end}
use Rattle.hol_combine.proofs.Repeats.{repeats-passed, repeats-stays, at_bottom, on_frame, none-left, begins, unbegun, resumes, refuses, starved, closes, unspliced, spent-on-frame, spent-on-step}
use Rattle.hol_combine.proofs.Moves.{moves, all-passes}
use Rattle.hol_combine.proofs.Posing.{list-posed, stays-posed, links-posed, others-posed, further-posed, made-posed, goals-posed, pairs-posed, next-posed, taken-posed, begun-posed}
use Rattle.hol_combine.proofs.Posing.{descends-posed, resumes-posed, closes-posed}
use Rattle.hol_combine.proofs.running.+run.Goals as goal

-- ---- what the calls ask

pub run-run_links-requires : goal.run-run_links-requires
run-run_links-requires g t c =
    let posed = rw (c.in-Chain.is, chain_means) at c.requires.posed in
    let here = rw c.deref-in-Chain.ensures at c.in-Ok.ensures.outcome in
    let asked = rw (← c.in-Ok.ensures.kept.theory, ← c.deref-in-Ok.ensures.value) at (links-posed _ _ here posed) in
    λ κs lives. (search (rules, tac.the_lemmas, tac.size_is-Tac), (lives.0, (lives.1, (c.in-Ok.ensures.kept.ready, asked))))

pub run-run_others-requires : goal.run-run_others-requires
run-run_others-requires g t c =
    let posed = rw (c.in-OrElse.is, orelse_means) at c.requires.posed in
    let here = rw c.deref-in-OrElse.ensures at c.in-Err-run.ensures.outcome in
    let asked = rw (← c.in-Err-run.ensures.kept.theory, ← c.deref-in-Err-run.ensures.value) at (others-posed _ _ here posed) in
    search (rules, tac.the_lemmas, tac.size_is-Tac)

pub run-refine-requires-in-Err-run-2-clause-posed : goal.run-refine-requires-in-Err-run-2-clause-posed
run-refine-requires-in-Err-run-2-clause-posed g t c = rw c.in-Err-run-2.ensures.kept.theory (stays-posed _ _ c.in-Err-run-2.ensures.outcome c.requires.posed)

pub run_link-run_on_each-requires : goal.run_link-run_on_each-requires
run_link-run_on_each-requires g t c =
    let means = ap link_of c.in-Thenl.is ∙ thenl_means c.in-Thenl.tacs in
    let asked = rw (← c.deref.ensures.value) at (list-posed _ (tactics_of c.in-Thenl.tacs.items) means c.requires.posed) in
    search (rules, link.the_lemmas, link.size_is-Link)

pub run_once-refine-requires-clause-posed : goal.run_once-refine-requires-clause-posed
run_once-refine-requires-clause-posed g t c = rw c.in-Err.ensures.kept.theory (stays-posed _ _ c.in-Err.ensures.outcome c.requires.posed)

-- ---- what they answer

pub run-returns-then-not-is_caught-clause-outcome : goal.run-returns-then-not-is_caught-clause-outcome
run-returns-then-not-is_caught-clause-outcome g t c =
    rw c.in-Try.is (tries _ _ (first_is_not_caught (rw c.deref-in-Try.ensures at c.in-Err-run-2.ensures.outcome) (search rules)))

pub run-returns-in-Ok-clause-outcome : goal.run-returns-in-Ok-clause-outcome
run-returns-in-Ok-clause-outcome g t c =
    rw (c.in-Chain.is, chain_means) (first_goes_on (rw c.deref-in-Chain.ensures at c.in-Ok.ensures.outcome) (rw (c.deref-in-Ok.ensures.value, c.in-Ok.ensures.kept.theory) at c.run_links.ensures.outcome))

pub run-returns-in-Err-clause-outcome : goal.run-returns-in-Err-clause-outcome
run-returns-in-Err-clause-outcome g t c =
    rw (c.in-Chain.is, chain_means) (first_is_refused (rw c.deref-in-Chain.ensures at c.in-Err.ensures.outcome))

pub run-returns-in-Ok-run-clause-outcome : goal.run-returns-in-Ok-run-clause-outcome
run-returns-in-Ok-run-clause-outcome g t c =
    rw (c.in-OrElse.is, orelse_means) (first_answers (rw c.deref-in-OrElse.ensures at c.in-Ok-run.ensures.outcome))

pub run-returns-in-Err-run-clause-outcome : goal.run-returns-in-Err-run-clause-outcome
run-returns-in-Err-run-clause-outcome g t c =
    let goes = rw (c.deref-in-Err-run.ensures.value, c.in-Err-run.ensures.kept.theory) at c.run_others.ensures.outcome in
    rw (c.in-OrElse.is, orelse_means) (goes.answers _ _ (rw c.deref-in-OrElse.ensures at c.in-Err-run.ensures.outcome))

pub run-returns-in-Repeat-clause-outcome : goal.run-returns-in-Repeat-clause-outcome
run-returns-in-Repeat-clause-outcome g t c = rw c.in-Repeat.is (rw c.deref-in-Repeat.ensures at c.run_repeat.ensures.outcome)

pub run-returns-in-Ok-run-2-clause-outcome : goal.run-returns-in-Ok-run-2-clause-outcome
run-returns-in-Ok-run-2-clause-outcome g t c =
    rw c.in-Try.is (tries _ _ (first_answers (rw c.deref-in-Try.ensures at c.in-Ok-run-2.ensures.outcome)))

pub run-returns-else-not-is_caught-clause-outcome : goal.run-returns-else-not-is_caught-clause-outcome
run-returns-else-not-is_caught-clause-outcome g t c =
    let stays = rw c.in-Err-run-2.ensures.kept.theory at c.refine-in-Err-run-2.ensures.outcome in
    rw c.in-Try.is (tries _ _ (first_is_caught (rw c.deref-in-Try.ensures at c.in-Err-run-2.ensures.outcome) (search rules) (alone _ _ _ stays)))

pub run_link-returns-then-is_empty-clause-outcome : goal.run_link-returns-then-is_empty-clause-outcome
run_link-returns-then-is_empty-clause-outcome g t c =
    rw (c.in-Thenl.is, thenl_means, no-goals c.args.goals.now c.is_empty.result c.is_empty.ensures c.if-is_empty.true, c.new.ensures.items) (runs_assigned refl none_is_left)

pub run_link-returns-then-len-goals-clause-outcome : goal.run_link-returns-then-len-goals-clause-outcome
run_link-returns-then-len-goals-clause-outcome g t c =
    let count = c.in-Thenl.tacs.ok.0 in
    let counted = c.len.ensures in
    let some = some-goals c.args.goals.now c.is_empty.result c.is_empty.ensures c.if-is_empty.false in
    let differ : ¬ (length c.in-Thenl.tacs.items ≡ length c.args.goals.now) = λ same. c.if-len-goals.true (omega (arith, count, counted, same)) in
    rw (c.in-Thenl.is, thenl_means) (none_assigned (none-assigned c.in-Thenl.tacs.items c.args.goals.now some differ))

pub run_link-returns-in-Then-clause-outcome : goal.run_link-returns-in-Then-clause-outcome
run_link-returns-in-Then-clause-outcome g t c = rw c.in-Then.is (runs_assigned refl c.run_on_all.ensures.outcome)

pub run_link-returns-else-len-goals-clause-outcome : goal.run_link-returns-else-len-goals-clause-outcome
run_link-returns-else-len-goals-clause-outcome g t c =
    let some = some-goals c.args.goals.now c.is_empty.result c.is_empty.ensures c.if-is_empty.false in
    let here = rw c.deref.ensures.value at c.run_on_each.ensures.outcome in
    rw (c.in-Thenl.is, thenl_means) (each-assigned (tactics_of c.in-Thenl.tacs.items) c.args.goals.now some here)

pub run_links-returns-in_err-steps-clause-outcome : goal.run_links-returns-in_err-steps-clause-outcome
run_links-returns-in_err-steps-clause-outcome g t c =
    let so_far = rw (links-drop c.args.links.now c.loop-link.link-index c.link-item.result (omega arith) c.link-item.is) at c.loop-link.invariant.0 in
    let p = err_from_is_err_and c.from_residual.result c.from_residual.ensures.1 in
    rw (p.1, p.2) (on-stop _ _ so_far (rw (c.deref.ensures.value, c.loop-link.invariant.1) at c.in_err-steps.ensures.outcome))

pub run_links-returns-in_err-step-clause-outcome : goal.run_links-returns-in_err-step-clause-outcome
run_links-returns-in_err-step-clause-outcome g t c =
    let so_far = rw (links-drop c.args.links.now c.loop-link.link-index c.link-item.result (omega arith) c.link-item.is) at c.loop-link.invariant.0 in
    let p = err_from_is_err_and c.from_residual-in_err-step.result c.from_residual-in_err-step.ensures.1 in
    rw (p.1, p.2) (on-unspliced _ _ so_far (rw (c.deref.ensures.value, c.loop-link.invariant.1) at c.in_ok-steps.ensures.outcome) c.in_err-step.ensures)

pub run_links-loop-link-preserved : goal.run_links-loop-link-preserved
run_links-loop-link-preserved g t c =
    let so_far = rw (links-drop c.args.links.now c.loop-link.link-index c.link-item.result (omega arith) c.link-item.is) at c.loop-link.invariant.0 in
    let posed = rw (links-drop c.args.links.now c.loop-link.link-index c.link-item.result (omega arith) c.link-item.is) at c.loop-link.invariant.4 in
    let here = rw (c.deref.ensures.value, c.loop-link.invariant.1) at c.in_ok-steps.ensures.outcome in (
      on-next _ _ so_far here c.in_ok-step.ensures,
      c.in_ok-steps.ensures.kept.theory ∙ c.loop-link.invariant.1,
      c.in_ok-steps.ensures.kept.ready,
      g.met.L.Leaves.extends_twice _ _ _ c.loop-link.invariant.3 c.in_ok-steps.ensures.kept.extends,
      made-posed _ _ (links_of (drop (c.loop-link.link-index + 1) c.args.links.now)) (step_of c.loop-link.step) here posed c.in_ok-step.ensures,
    )

pub run_links-returns-clause-outcome : goal.run_links-returns-clause-outcome
run_links-returns-clause-outcome g t c =
    let so_far = rw (drop_all c.loop-link.link-index c.args.links.now (omega arith)) at c.loop-link.invariant.0 in on-end _ _ so_far

pub run_on_all-returns-in_err-step-clause-outcome : goal.run_on_all-returns-in_err-step-clause-outcome
run_on_all-returns-in_err-step-clause-outcome g t c =
    let so_far = rw (goals-drop c.args.goals.now c.loop-goal.goal-index c.goal-item.result (omega arith) c.goal-item.is) at c.loop-goal.invariant.0 in
    let p = err_from_is_err_and c.from_residual.result c.from_residual.ensures.1 in
    rw (p.1, p.2) (each-stop _ _ so_far (rw c.loop-goal.invariant.1 at c.in_err-step.ensures.outcome))

pub run_on_all-returns-in_err-keep-clause-outcome : goal.run_on_all-returns-in_err-keep-clause-outcome
run_on_all-returns-in_err-keep-clause-outcome g t c =
    let p = err_from_is_err_and c.from_residual-in_err-keep.result c.from_residual-in_err-keep.ensures.1 in
    let so_far = rw (goals-drop c.args.goals.now c.loop-goal.goal-index c.goal-item.result (omega arith) c.goal-item.is) at c.loop-goal.invariant.0 in
    rw (p.1, p.2, c.in_err-keep.ensures.err) (each-starved _ _ so_far (rw c.loop-goal.invariant.1 at c.in_ok-step.ensures.outcome))

pub run_on_all-loop-goal-preserved : goal.run_on_all-loop-goal-preserved
run_on_all-loop-goal-preserved g t c =
    let so_far = rw (goals-drop c.args.goals.now c.loop-goal.goal-index c.goal-item.result (omega arith) c.goal-item.is) at c.loop-goal.invariant.0 in
    let posed = rw (goals-drop c.args.goals.now c.loop-goal.goal-index c.goal-item.result (omega arith) c.goal-item.is) at c.loop-goal.invariant.4 in
    let here = rw c.loop-goal.invariant.1 at c.in_ok-step.ensures.outcome in (
      rw (c.in_ok-keep.ensures.ok, map-append) (each-next _ _ so_far here),
      c.in_ok-step.ensures.kept.theory ∙ c.loop-goal.invariant.1,
      c.in_ok-step.ensures.kept.ready,
      g.met.L.Leaves.extends_twice _ _ _ c.loop-goal.invariant.3 c.in_ok-step.ensures.kept.extends,
      goals-posed _ _ here posed,
    )

pub run_on_all-returns-clause-outcome : goal.run_on_all-returns-clause-outcome
run_on_all-returns-clause-outcome g t c =
    let so_far = rw (drop_all c.loop-goal.goal-index c.args.goals.now (omega arith)) at c.loop-goal.invariant.0 in each-end _ _ so_far

pub run_on_each-returns-in_err-step-clause-outcome : goal.run_on_each-returns-in_err-step-clause-outcome
run_on_each-returns-in_err-step-clause-outcome g t c =
    let same = c.requires.lengths in
    let next_tac = tactics-drop c.args.tacs.now c.loop-i.i c.index-tacs-i.result (omega arith) c.index-tacs-i.is in
    let next_goal = goals-drop c.args.goals.now c.loop-i.i c.index-goals-i.result (omega (arith, same)) c.index-goals-i.is in
    let so_far = rw (next_tac, next_goal) at c.loop-i.invariant.0 in
    let rest = pairs-left c.args.tacs.now c.args.goals.now (c.loop-i.i + 1) same in
    let p = err_from_is_err_and c.from_residual.result c.from_residual.ensures.1 in
    rw (p.1, p.2) (paired-stop _ _ so_far rest.1 (rw c.loop-i.invariant.1 at c.in_err-step.ensures.outcome))

pub run_on_each-returns-in_err-keep-clause-outcome : goal.run_on_each-returns-in_err-keep-clause-outcome
run_on_each-returns-in_err-keep-clause-outcome g t c =
    let p = err_from_is_err_and c.from_residual-in_err-keep.result c.from_residual-in_err-keep.ensures.1 in
    let same = c.requires.lengths in
    let next_tac = tactics-drop c.args.tacs.now c.loop-i.i c.index-tacs-i.result (omega arith) c.index-tacs-i.is in
    let next_goal = goals-drop c.args.goals.now c.loop-i.i c.index-goals-i.result (omega (arith, same)) c.index-goals-i.is in
    let so_far = rw (next_tac, next_goal) at c.loop-i.invariant.0 in
    let rest = pairs-left c.args.tacs.now c.args.goals.now (c.loop-i.i + 1) same in
    rw (p.1, p.2, c.in_err-keep.ensures.err) (paired-starved _ _ so_far rest.1 (rw c.loop-i.invariant.1 at c.in_ok-step.ensures.outcome))

pub run_on_each-loop-i-preserved : goal.run_on_each-loop-i-preserved
run_on_each-loop-i-preserved g t c =
    let same = c.requires.lengths in
    let next_tac = tactics-drop c.args.tacs.now c.loop-i.i c.index-tacs-i.result (omega arith) c.index-tacs-i.is in
    let next_goal = goals-drop c.args.goals.now c.loop-i.i c.index-goals-i.result (omega (arith, same)) c.index-goals-i.is in
    let so_far = rw (next_tac, next_goal) at c.loop-i.invariant.0 in
    let posed = rw (next_tac, next_goal) at c.loop-i.invariant.4 in
    let here = rw c.loop-i.invariant.1 at c.in_ok-step.ensures.outcome in (
      rw (c.in_ok-keep.ensures.ok, map-append) (paired-next _ _ so_far here),
      c.in_ok-step.ensures.kept.theory ∙ c.loop-i.invariant.1,
      c.in_ok-step.ensures.kept.ready,
      g.met.L.Leaves.extends_twice _ _ _ c.loop-i.invariant.3 c.in_ok-step.ensures.kept.extends,
      pairs-posed _ _ (tactics_of (drop (c.loop-i.i + 1) c.args.tacs.now)) here posed,
    )

pub run_on_each-returns-clause-outcome : goal.run_on_each-returns-clause-outcome
run_on_each-returns-clause-outcome g t c =
    let same = c.requires.lengths in
    let so_far = rw (drop_all c.loop-i.i c.args.tacs.now (omega arith), drop_all c.loop-i.i c.args.goals.now (omega (arith, same))) at c.loop-i.invariant.0 in paired-end _ _ so_far

pub run_others-returns-then-not-is_caught-clause-outcome : goal.run_others-returns-then-not-is_caught-clause-outcome
run_others-returns-then-not-is_caught-clause-outcome g t c = others-stop _ _ c.loop-other.invariant.0 (search rules)

pub run_others-returns-in-Ok-clause-outcome : goal.run_others-returns-in-Ok-clause-outcome
run_others-returns-in-Ok-clause-outcome g t c =
    let so_far = rw (tactics-drop c.args.rest.now c.loop-other.other-index c.other-item.result (omega arith) c.other-item.is) at c.loop-other.invariant.0 in
    others-answer _ _ so_far (search rules) (rw c.loop-other.invariant.1 at c.in-Ok.ensures.outcome)

pub run_others-loop-other-preserved : goal.run_others-loop-other-preserved
run_others-loop-other-preserved g t c =
    let so_far = rw (tactics-drop c.args.rest.now c.loop-other.other-index c.other-item.result (omega arith) c.other-item.is) at c.loop-other.invariant.0 in
    let posed = rw (tactics-drop c.args.rest.now c.loop-other.other-index c.other-item.result (omega arith) c.other-item.is) at c.loop-other.invariant.4 in
    let here = rw c.loop-other.invariant.1 at c.in-Err.ensures.outcome in (
      others-next _ _ so_far (search rules) here,
      c.in-Err.ensures.kept.theory ∙ c.loop-other.invariant.1,
      c.in-Err.ensures.kept.ready,
      g.met.L.Leaves.extends_twice _ _ _ c.loop-other.invariant.3 c.in-Err.ensures.kept.extends,
      further-posed _ _ (tactic_of c.other-item.result) (tactics_of (drop (c.loop-other.other-index + 1) c.args.rest.now)) here posed,
    )

pub run_others-returns-clause-outcome : goal.run_others-returns-clause-outcome
run_others-returns-clause-outcome g t c =
    let so_far = rw (drop_all c.loop-other.other-index c.args.rest.now (omega arith)) at c.loop-other.invariant.0 in others-end _ _ so_far

pub run_once-returns-then-not-is_caught-clause-outcome : goal.run_once-returns-then-not-is_caught-clause-outcome
run_once-returns-then-not-is_caught-clause-outcome g t c =
    (repeats-passed _ _ _ c.in-Err.ensures.outcome (search rules), search rules)

pub run_once-returns-in-Ok-refine-clause-outcome : goal.run_once-returns-in-Ok-refine-clause-outcome
run_once-returns-in-Ok-refine-clause-outcome g t c =
    repeats-stays _ _ _ _ c.in-Err.ensures.outcome (search rules) (rw c.in-Err.ensures.kept.theory at c.in-Ok-refine.ensures.outcome)

pub run_once-returns-in-Err-refine-clause-outcome : goal.run_once-returns-in-Err-refine-clause-outcome
run_once-returns-in-Err-refine-clause-outcome g t c =
    let stays = rw c.in-Err.ensures.kept.theory at c.in-Err-refine.ensures.outcome in
    (repeats-stays _ _ _ _ c.in-Err.ensures.outcome (search rules) stays, all-passes _ _ stays)

-- ---- REPEAT

pub run_repeat-returns-in_err-begin-in-Refined-clause-outcome : goal.run_repeat-returns-in_err-begin-in-Refined-clause-outcome
run_repeat-returns-in_err-begin-in-Refined-clause-outcome g t c =
    let p = err_from_is_err_and c.from_residual.result c.from_residual.ensures.1 in
    rw (p.1, p.2) (unbegun _ _ _ _ _ at_bottom c.in-Refined.ensures.outcome c.in_err-begin-in-Refined.ensures.err)

pub run_repeat-loop-frame-init : goal.run_repeat-loop-frame-init
run_repeat-loop-frame-init g t c = (
  rw (c.in_ok-begin-in-Refined.ensures.ok, c.new-stack.ensures.items) (begins _ _ _ _ _ at_bottom c.in-Refined.ensures.outcome),
  c.in-Refined.ensures.kept.theory,
  c.in-Refined.ensures.kept.ready,
  c.in-Refined.ensures.kept.extends,
  rw (c.in_ok-begin-in-Refined.ensures.ok, c.new-stack.ensures.items) (begun-posed _ _ (Some 0) c.in-Refined.ensures.outcome c.requires.posed),
)

pub run_repeat-loop-frame-smaller-in-Continue-branch-2 : goal.run_repeat-loop-frame-smaller-in-Continue-branch-2
run_repeat-loop-frame-smaller-in-Continue-branch-2 g t c =
    spent-on-frame _ _ c.in-Some.ensures c.in_ok-descend-in-Refined-once.ensures.ok (moves _ _ c.in-Refined-once.ensures.outcome)

pub run_repeat-loop-frame-preserved-in-Continue-branch-2 : goal.run_repeat-loop-frame-preserved-in-Continue-branch-2
run_repeat-loop-frame-preserved-in-Continue-branch-2 g t c =
    let waits = on_frame (rw (c.in-Some.ensures, c.in-Some-take_goal.ensures) at c.loop-frame.invariant.0) in
    let frames = rw (c.in-Some.ensures, c.in-Some-take_goal.ensures) at c.loop-frame.invariant.4 in
    let here = rw c.loop-frame.invariant.1 at c.in-Refined-once.ensures.outcome in (
      rw c.in_ok-descend-in-Refined-once.ensures.ok (begins _ _ _ _ _ waits here),
      c.in-Refined-once.ensures.kept.theory ∙ c.loop-frame.invariant.1,
      c.in-Refined-once.ensures.kept.ready,
      g.met.L.Leaves.extends_twice _ _ _ c.loop-frame.invariant.3 c.in-Refined-once.ensures.kept.extends,
      rw c.in_ok-descend-in-Refined-once.ensures.ok (descends-posed _ _ (next_above (frame_of c.take_goal.new.frame)) here (next-posed _ _ frames) (taken-posed _ _ frames)),
    )

pub run_repeat-returns-in_err-descend-in-Refined-once-clause-outcome : goal.run_repeat-returns-in_err-descend-in-Refined-once-clause-outcome
run_repeat-returns-in_err-descend-in-Refined-once-clause-outcome g t c =
    let waits = on_frame (rw (c.in-Some.ensures, c.in-Some-take_goal.ensures) at c.loop-frame.invariant.0) in
    let here = rw c.loop-frame.invariant.1 at c.in-Refined-once.ensures.outcome in
    let p = err_from_is_err_and c.from_residual-in_err-descend-in-Refined-once.result c.from_residual-in_err-descend-in-Refined-once.ensures.1 in
    rw (p.1, p.2) (unbegun _ _ _ _ _ waits here c.in_err-descend-in-Refined-once.ensures.err)

pub run_repeat-loop-frame-smaller-in-Continue-branch-3 : goal.run_repeat-loop-frame-smaller-in-Continue-branch-3
run_repeat-loop-frame-smaller-in-Continue-branch-3 g t c =
    spent-on-step _ _ c.in-Some.ensures c.in_ok-resume-in-Stays-once.ensures.ok (moves _ _ c.in-Stays-once.ensures.outcome)

pub run_repeat-loop-frame-preserved-in-Continue-branch-3 : goal.run_repeat-loop-frame-preserved-in-Continue-branch-3
run_repeat-loop-frame-preserved-in-Continue-branch-3 g t c =
    let waits = on_frame (rw (c.in-Some.ensures, c.in-Some-take_goal.ensures) at c.loop-frame.invariant.0) in
    let frames = rw (c.in-Some.ensures, c.in-Some-take_goal.ensures) at c.loop-frame.invariant.4 in
    let here = rw c.loop-frame.invariant.1 at c.in-Stays-once.ensures.outcome in (
      rw c.in_ok-resume-in-Stays-once.ensures.ok (resumes _ _ _ _ _ waits here),
      c.in-Stays-once.ensures.kept.theory ∙ c.loop-frame.invariant.1,
      c.in-Stays-once.ensures.kept.ready,
      g.met.L.Leaves.extends_twice _ _ _ c.loop-frame.invariant.3 c.in-Stays-once.ensures.kept.extends,
      rw c.in_ok-resume-in-Stays-once.ensures.ok (resumes-posed _ _ here (taken-posed _ _ frames)),
    )

pub run_repeat-returns-in_err-resume-in-Stays-once-clause-outcome : goal.run_repeat-returns-in_err-resume-in-Stays-once-clause-outcome
run_repeat-returns-in_err-resume-in-Stays-once-clause-outcome g t c =
    let waits = on_frame (rw (c.in-Some.ensures, c.in-Some-take_goal.ensures) at c.loop-frame.invariant.0) in
    let here = rw c.loop-frame.invariant.1 at c.in-Stays-once.ensures.outcome in
    let p = err_from_is_err_and c.from_residual-in_err-resume-in-Stays-once.result c.from_residual-in_err-resume-in-Stays-once.ensures.1 in
    rw (p.1, p.2, c.in_err-resume-in-Stays-once.ensures.err) (starved _ _ _ _ _ (resumes _ _ _ _ _ waits here))

pub run_repeat-returns-in-Refused-once-clause-outcome : goal.run_repeat-returns-in-Refused-once-clause-outcome
run_repeat-returns-in-Refused-once-clause-outcome g t c =
    let waits = on_frame (rw (c.in-Some.ensures, c.in-Some-take_goal.ensures) at c.loop-frame.invariant.0) in
    let here = rw c.loop-frame.invariant.1 at c.in-Refused-once.ensures.outcome in
    refuses _ _ _ _ _ waits here.0 here.1

pub run_repeat-returns-in_err-made-clause-outcome : goal.run_repeat-returns-in_err-made-clause-outcome
run_repeat-returns-in_err-made-clause-outcome g t c =
    let same : frame_of c.take_goal.new.frame ≡ frame_of c.in-Some.frame = search rules in
    let none : (frame_of c.in-Some.frame).left ≡ [] = search rules in
    let open_now = rw (c.in-Some.ensures, ← same) at c.loop-frame.invariant.0 in
    let p = err_from_is_err_and c.from_residual-in_err-made.result c.from_residual-in_err-made.ensures.1 in
    rw (p.1, p.2) (unspliced _ _ _ _ _ open_now (none-left same none) c.in_err-made.ensures)

pub run_repeat-returns-in_default-pop-clause-outcome : goal.run_repeat-returns-in_default-pop-clause-outcome
run_repeat-returns-in_default-pop-clause-outcome g t c =
    let same : frame_of c.take_goal.new.frame ≡ frame_of c.in-Some.frame = search rules in
    let none : (frame_of c.in-Some.frame).left ≡ [] = search rules in
    let open_now = rw (c.in-Some.ensures, c.in_default-pop.ensures, ← same) at c.loop-frame.invariant.0 in
    closes _ _ _ _ _ open_now (none-left same none) c.in_ok-made.ensures

pub run_repeat-returns-in_err-resume-clause-outcome : goal.run_repeat-returns-in_err-resume-clause-outcome
run_repeat-returns-in_err-resume-clause-outcome g t c =
    let same : frame_of c.take_goal.new.frame ≡ frame_of c.in-Some.frame = search rules in
    let none : (frame_of c.in-Some.frame).left ≡ [] = search rules in
    let open_now = rw (c.in-Some.ensures, c.in-Some-pop.ensures, ← same) at c.loop-frame.invariant.0 in
    let p = err_from_is_err_and c.from_residual-in_err-resume.result c.from_residual-in_err-resume.ensures.1 in
    rw (p.1, p.2, c.in_err-resume.ensures.err) (starved _ _ _ _ _ (closes _ _ _ _ _ open_now (none-left same none) c.in_ok-made.ensures))

pub run_repeat-loop-frame-preserved : goal.run_repeat-loop-frame-preserved
run_repeat-loop-frame-preserved g t c =
    let same : frame_of c.take_goal.new.frame ≡ frame_of c.in-Some.frame = search rules in
    let none : (frame_of c.in-Some.frame).left ≡ [] = search rules in
    let open_now = rw (c.in-Some.ensures, c.in-Some-pop.ensures, ← same) at c.loop-frame.invariant.0 in
    let frames = rw (c.in-Some.ensures, c.in-Some-pop.ensures) at c.loop-frame.invariant.4 in (
      rw c.in_ok-resume.ensures.ok (closes _ _ _ _ _ open_now (none-left same none) c.in_ok-made.ensures),
      c.loop-frame.invariant.1,
      c.loop-frame.invariant.2,
      c.loop-frame.invariant.3,
      rw c.in_ok-resume.ensures.ok (closes-posed _ _ (step_of c.in_ok-made.made) frames),
    )
