-- A step is spent, and then the refiner answers.
use Rattle.std.proofs.Common.{◌≡◌, ℕ, suc, Result, Ok, Err, refl, sym, subst}
use Rattle.hol_model.specs.declared.fault.Fault.{Fault}
use Rattle.hol_model.specs.declared.fault.Fault.TheVariants.{StepLimit}
use Rattle.hol_model.specs.Terms.NamedTerm.{NamedTerm}
use Rattle.hol_model.specs.Logic.Theory.{Theory}
use Rattle.hol_model.specs.Kernel.Theorem.{Theorem}
use Rattle.hol_model.specs.Goals.Goals.{Goal}
use Rattle.hol_model.specs.Goals.ValidSteps.{Step}
use Rattle.hol_model.specs.Goals.Replays.{Store}
use Rattle.hol_model.specs.Refining.HostFunctions.{Host, HostConversions}
use Rattle.hol_model.specs.Refining.Conversions.{Conversion, Converts}
use Rattle.hol_model.specs.Refining.Refiners.{Leaf}
use Rattle.hol_model.specs.Refining.Combinators.{leaf, at, Runs, no_step_is_left}
use Rattle.hol_just.specs.declared.goal.Step as code_step
use Rattle.hol_refine.specs.TableAnswers.{step_in}
use Rattle.hol_combine.specs.Answers.{answer_of}

-- what a conversion answers over the same theory and store
pub converts-before : (theory other : Theory) (store mid : Store) (hosts : HostConversions) (steps left : ℕ) (c : Conversion) (t : NamedTerm) (answer : Result Theorem Fault)
    → other ≡ theory → mid ≡ store → Converts other mid hosts 0 steps c t answer left → Converts theory store hosts 0 steps c t answer left
converts-before theory other store mid hosts steps left c t answer same_theory same_store r =
    subst (λ (s : Store). Converts theory s hosts 0 steps c t answer left) same_store
    (subst (λ (over : Theory). Converts over mid hosts 0 steps c t answer left) same_theory r)

module _ (theory : Theory) (host : Host) where
  pub out-of-steps : (store : Store) (steps left : ℕ) (l : Leaf) (goal : Goal) → (steps ≡ 0) × (left ≡ 0)
      → Runs theory host (at store steps) (leaf l) goal (Err StepLimit) (at store left)
  out-of-steps store steps left l goal is =
      subst (λ (n : ℕ). Runs theory host (at store n) (leaf l) goal (Err StepLimit) (at store left)) (sym is.0)
      (subst (λ (n : ℕ). Runs theory host (at store 0) (leaf l) goal (Err StepLimit) (at store n)) (sym is.1) (no_step_is_left refl))

  counted : (before after : Store) (steps mid left : ℕ) (l : Leaf) (goal : Goal) (answer : Result Step Fault) → steps ≡ suc mid
      → Runs theory host (at before (suc mid)) (leaf l) goal answer (at after left) → Runs theory host (at before steps) (leaf l) goal answer (at after left)
  counted before after steps mid left l goal answer is r = subst (λ (n : ℕ). Runs theory host (at before n) (leaf l) goal answer (at after left)) (sym is) r

  -- the code's answer, a step earlier
  pub step-spent : (before after : Store) (steps mid left : ℕ) (l : Leaf) (goal : Goal) (result : Result code_step.Step Fault) → steps ≡ suc mid
      → Runs theory host (at before (suc mid)) (leaf l) goal (step_in result) (at after left)
      → Runs theory host (at before steps) (leaf l) goal (answer_of result) (at after left)
  step-spent before after steps mid left l goal (Ok step) is r = counted before after steps mid left l goal (answer_of (Ok step)) is r
  step-spent before after steps mid left l goal (Err fault) is r = counted before after steps mid left l goal (answer_of (Err fault)) is r
