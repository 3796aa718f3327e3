-- A refiner that answers a step has spent one.
use Rattle.std.proofs.Common.{◌≡◌, ℕ, suc, ◌<◌, ◌≤◌, false, Option, Some, None, Result, Ok, Err, MatchResult, refl, subst, arith}
use Rattle.hol_model.specs.declared.fault.Fault.{Fault}
use Rattle.hol_model.specs.Logic.Theory.{Theory}
use Rattle.hol_model.specs.Goals.Goals.{Goal}
use Rattle.hol_model.specs.Goals.ValidSteps.{Step}
use Rattle.hol_model.specs.Refining.HostFunctions.{Host}
use Rattle.hol_model.specs.Refining.Conversions.{is_caught}
use Rattle.hol_model.specs.Refining.Refiners.{StatedStep, all_tac}
use Rattle.hol_model.specs.Refining.Combinators.{Tactic, Stage, leaf, Runs, no_step_is_left, leaf_refines, leaf_is_refused, conversion_is_refused, conversion_is_not_assumed}
use Rattle.hol_model.specs.Refining.Combinators.{conversion_refines, taut_refines, host_refines, first_goes_on, first_answers, first_is_caught, runs_as_defined, finds_no_memory}
use Rattle.hol_laws_refiners.proofs.Spending.{converts-spends}
use Rattle.hol_laws_refiners.proofs.Later.{runs-later, runs_on-later}

one-less : (left : ℕ) → left < suc left
one-less left = omega arith

less : (left steps : ℕ) → left ≤ steps → left < suc steps
less left steps le = omega arith

then-less : (after mid before : ℕ) → after ≤ mid → mid < before → after < before
then-less after mid before le less = omega arith

less-then : (after mid before : ℕ) → after < mid → mid ≤ before → after < before
less-then after mid before less le = omega arith

module _ (theory : Theory) (host : Host) where
  pub moves : {before after : Stage} {t : Tactic} {goal : Goal} {step : Step} → Runs theory host before t goal (Ok step) after → after.steps < before.steps
  moves (leaf_refines {left} listed is) = one-less left
  moves (conversion_refines {store} {steps} {left} by r assumed proved dest equates is) = less left steps (converts-spends theory store host.conversions r)
  moves (taut_refines {left} answers proved is) = one-less left
  moves (host_refines {left} answered is says answers) = one-less left
  moves (first_goes_on {before} {mid} {after} r s) = let later = runs_on-later theory host s in then-less after.steps mid.steps before.steps later.steps (moves r)
  moves (first_answers r) = moves r
  moves (first_is_caught {before} {mid} {after} r caught s) = let later = runs-later theory host r in less-then after.steps mid.steps before.steps (moves s) later.steps
  moves (runs_as_defined is r) = moves r

  no-value : {u : Tactic} → None ≡ Some u → ⊥
  no-value {u} is = subst (λ (found : Option Tactic). go found) is tt
    where
      go : Option Tactic → Type 0
      go None = Unit {0}
      go (Some other) = ⊥

  no-refusal : {stated : StatedStep} {fault : Fault} → Ok stated ≡ Err fault → ⊥
  no-refusal {stated} {fault} is = subst (λ (answer : Result StatedStep Fault). MatchResult answer (λ x. Unit {0}) (λ e. ⊥)) is tt

  -- ALL_TAC is refused for want of steps or of memory alone
  pub all-passes : {before after : Stage} {goal : Goal} {fault : Fault} → Runs theory host before (leaf all_tac) goal (Err fault) after → is_caught fault ≡ false
  all-passes (no_step_is_left is) = refl
  all-passes (leaf_refines listed is) = absurd (no-refusal is.1)
  all-passes (leaf_is_refused is) = absurd is
  all-passes (conversion_is_refused by r) = absurd by
  all-passes (conversion_is_not_assumed by r foreign) = absurd by
  all-passes (runs_as_defined is r) = absurd (no-value is)
  all-passes (finds_no_memory later) = refl
