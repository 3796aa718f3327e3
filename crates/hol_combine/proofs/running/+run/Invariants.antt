use Rattle.std.proofs.Common.{◌≡◌, ◌∷◌, [], ◌+◌, ◌*◌, drop, length, map}
use Rattle.hol_model.specs.Refining.Combinators.{at, on_all}
use Rattle.hol_model.specs.Refining.RefinerConditions.{HasKnownWitnesses, HaveKnownWitnesses, HaveKnownWitnessesInLinks}
use Rattle.hol_tactic_exprs.specs.Expressions.{tactic_of, tactics_of, links_of}
use Rattle.hol_just.specs.Steps.{goal_of, goals_of, step_of}
use Rattle.hol_host.specs.Host.{host_of}
use Rattle.hol_combine.specs.Posed.{ArePosed}
use Rattle.hol_combine.specs.Repeating.{frames_of}
use Rattle.hol_combine.proofs.Repeats.{Opened}
use Rattle.hol_combine.proofs.Runs.{OnSoFar, EachSoFar, OthersSoFar, PairedSoFar}
use Rattle.hol_combine.proofs.Posing.{FramesPosed}
use Rattle.hol_combine.proofs.running.+run.Given as goal

abbrev pub invariant-run_links-loop-link : goal.invariant-run_links-loop-link
invariant-run_links-loop-link g l =
    OnSoFar (g.L.Leaves.theory l.fn.leaves) (host_of (g.H.Refiners.refiners l.setting.host.now) (g.H.Converters.conversions l.setting.host.now))
    (at (g.L.Leaves.store l.fn.leaves) l.fn.fuel.left) (step_of l.fn.step) (links_of l.links)
    (at (g.L.Leaves.store l.leaves) l.fuel.left) (step_of l.step) (links_of (drop l.link-index l.links))
    × (g.L.Leaves.theory l.leaves ≡ g.L.Leaves.theory l.fn.leaves)
    × g.L.Leaves.is_ready l.leaves
    × g.L.Leaves.extends l.fn.leaves l.leaves
    × ArePosed (g.L.Leaves.theory l.fn.leaves) (g.L.Leaves.store l.leaves) (λ theory. HaveKnownWitnessesInLinks theory (links_of (drop l.link-index l.links))) (goals_of l.step.goals.items)

abbrev pub invariant-run_on_all-loop-goal : goal.invariant-run_on_all-loop-goal
invariant-run_on_all-loop-goal g l =
    EachSoFar (g.L.Leaves.theory l.fn.leaves) (host_of (g.H.Refiners.refiners l.setting.host.now) (g.H.Converters.conversions l.setting.host.now))
    (at (g.L.Leaves.store l.fn.leaves) l.fn.fuel.left) (on_all (tactic_of l.tac) (goals_of l.goals))
    (at (g.L.Leaves.store l.leaves) l.fuel.left) (on_all (tactic_of l.tac) (goals_of (drop l.goal-index l.goals))) (map step_of l.steps.items)
    × (g.L.Leaves.theory l.leaves ≡ g.L.Leaves.theory l.fn.leaves)
    × g.L.Leaves.is_ready l.leaves
    × g.L.Leaves.extends l.fn.leaves l.leaves
    × ArePosed (g.L.Leaves.theory l.fn.leaves) (g.L.Leaves.store l.leaves) (λ theory. HasKnownWitnesses theory (tactic_of l.tac)) (goals_of (drop l.goal-index l.goals))

abbrev pub invariant-run_on_each-loop-i : goal.invariant-run_on_each-loop-i
invariant-run_on_each-loop-i g l =
    PairedSoFar (g.L.Leaves.theory l.fn.leaves) (host_of (g.H.Refiners.refiners l.setting.host.now) (g.H.Converters.conversions l.setting.host.now))
    (at (g.L.Leaves.store l.fn.leaves) l.fn.fuel.left) (tactics_of l.tacs) (goals_of l.goals)
    (at (g.L.Leaves.store l.leaves) l.fuel.left) (tactics_of (drop l.i l.tacs)) (goals_of (drop l.i l.goals)) (map step_of l.steps.items)
    × (g.L.Leaves.theory l.leaves ≡ g.L.Leaves.theory l.fn.leaves)
    × g.L.Leaves.is_ready l.leaves
    × g.L.Leaves.extends l.fn.leaves l.leaves
    × ArePosed (g.L.Leaves.theory l.fn.leaves) (g.L.Leaves.store l.leaves) (λ theory. HaveKnownWitnesses theory (tactics_of (drop l.i l.tacs))) (goals_of (drop l.i l.goals))

abbrev pub invariant-run_others-loop-other : goal.invariant-run_others-loop-other
invariant-run_others-loop-other g l =
    OthersSoFar (g.L.Leaves.theory l.fn.leaves) (host_of (g.H.Refiners.refiners l.setting.host.now) (g.H.Converters.conversions l.setting.host.now))
    (at (g.L.Leaves.store l.fn.leaves) l.fn.fuel.left) l.fn.fault (tactics_of l.rest) (goal_of l.goal)
    (at (g.L.Leaves.store l.leaves) l.fuel.left) l.fault (tactics_of (drop l.other-index l.rest))
    × (g.L.Leaves.theory l.leaves ≡ g.L.Leaves.theory l.fn.leaves)
    × g.L.Leaves.is_ready l.leaves
    × g.L.Leaves.extends l.fn.leaves l.leaves
    × ArePosed (g.L.Leaves.theory l.fn.leaves) (g.L.Leaves.store l.leaves) (λ theory. HaveKnownWitnesses theory (tactics_of (drop l.other-index l.rest))) (goal_of l.goal ∷ [])

abbrev pub invariant-run_repeat-loop-frame : goal.invariant-run_repeat-loop-frame
invariant-run_repeat-loop-frame g l =
    Opened (g.L.Leaves.theory l.fn.leaves) (host_of (g.H.Refiners.refiners l.setting.host.now) (g.H.Converters.conversions l.setting.host.now)) (tactic_of l.again)
    (at (g.L.Leaves.store l.fn.leaves) l.fn.fuel.left) (goal_of l.goal) (frames_of l.stack.items)
    (at (g.L.Leaves.store l.leaves) l.fuel.left)
    × (g.L.Leaves.theory l.leaves ≡ g.L.Leaves.theory l.fn.leaves)
    × g.L.Leaves.is_ready l.leaves
    × g.L.Leaves.extends l.fn.leaves l.leaves
    × FramesPosed (g.L.Leaves.theory l.fn.leaves) (host_of (g.H.Refiners.refiners l.setting.host.now) (g.H.Converters.conversions l.setting.host.now)) (g.L.Leaves.store l.leaves) (tactic_of l.again) (frames_of l.stack.items)

abbrev pub decreases-run_repeat-loop-frame : goal.decreases-run_repeat-loop-frame
decreases-run_repeat-loop-frame g l = 2 * l.fuel.left + length (frames_of l.stack.items)
