-- A refiner spends no more steps than there are, and leaves further lemmas alone.
use Rattle.std.proofs.Common.{ℕ, suc, ◌≤◌, List, [], ◌∷◌, ◌++◌, Result, refl, sym, ◌∙◌, ap, subst, arith, append-nil, append_assoc, ◌⊎◌, inl, inr}
use Rattle.hol_model.specs.declared.fault.Fault.{Fault}
use Rattle.hol_model.specs.Logic.Theory.{Theory}
use Rattle.hol_model.specs.Logic.Derivable.{IsMember}
use Rattle.hol_model.specs.Kernel.Theorem.{Theorem}
use Rattle.hol_model.specs.Goals.Goals.{Goal}
use Rattle.hol_model.proofs.Terms.Membership.{of_append}
use Rattle.hol_model.specs.Goals.ValidSteps.{Step}
use Rattle.hol_model.specs.Goals.Replays.{Store, with_lemma, IsProvedOver}
use Rattle.hol_model.specs.Refining.HostFunctions.{Host}
use Rattle.hol_model.specs.Refining.Combinators.{Tactic, Links, Stage, at, IsLater, Runs, RunsOn, RunsEach, RepeatsSoFar, no_step_is_left, leaf_refines, leaf_is_refused, conversion_is_refused}
use Rattle.hol_model.specs.Refining.Combinators.{conversion_is_not_assumed, conversion_refines, taut_is_refused, taut_refines, host_is_unknown, host_fails, host_refines, first_is_refused}
use Rattle.hol_model.specs.Refining.Combinators.{first_goes_on, first_answers, first_is_not_caught, last_is_refused, first_is_caught, repeat_is_too_deep, runs_as_defined, finds_no_memory, ends}
use Rattle.hol_model.specs.Refining.Combinators.{lengths_differ, next_is_refused, splice_is_too_deep, next_goes_on, goes_on_without_memory, none_is_left, one_is_refused, one_is_done}
use Rattle.hol_model.specs.Refining.Combinators.{each_finds_no_memory, has_run, goes_down}
use Rattle.hol_laws_refiners.proofs.Spending.{converts-spends}

module _ (theory : Theory) where
  -- the same lemmas, and no more steps
  later-spent : (store : Store) (left steps : ℕ) → left ≤ steps → IsLater theory (at store steps) (at store left)
  later-spent store left steps le = record { steps = le; named = refl; added = []; lemmas = sym (append-nil store.lemmas); proved = λ theorem member. absurd member }

  later-step : (store : Store) (left : ℕ) → IsLater theory (at store (suc left)) (at store left)
  later-step store left = later-spent store left (suc left) (omega arith)

  pub later-same : (stage : Stage) → IsLater theory stage stage
  later-same stage = later-spent stage.store stage.steps stage.steps (omega arith)

  -- a step and then so many, and one more lemma
  later-lemma : (store : Store) (left steps : ℕ) (theorem : Theorem) → left ≤ steps → IsProvedOver theory theorem → IsLater theory (at store (suc steps)) (at (with_lemma store theorem) left)
  later-lemma store left steps theorem le proved =
      let falls : left ≤ suc steps = omega arith in
      record { steps = falls; named = refl; added = theorem ∷ []; lemmas = refl; proved = only theorem proved }
    where
      only : (one : Theorem) → IsProvedOver theory one → (other : Theorem) → IsMember other (one ∷ []) → IsProvedOver theory other
      only one proved other (inl is) = subst (IsProvedOver theory) (sym is) proved
      only one proved other (inr in_none) = absurd in_none

  later-falls : (store : Store) (left steps : ℕ) → left ≤ steps → IsLater theory (at store (suc steps)) (at store left)
  later-falls store left steps le = later-spent store left (suc steps) (omega arith)

  pub later-twice : (first second third : Stage) → IsLater theory first second → IsLater theory second third → IsLater theory first third
  later-twice first second third h k =
      let falls : third.steps ≤ first.steps = omega (arith, h.steps, k.steps) in
      record {
        steps = falls;
        named = k.named ∙ h.named;
        added = h.added ++ k.added;
        lemmas = k.lemmas ∙ ap (λ lemmas. lemmas ++ k.added) h.lemmas ∙ append_assoc first.store.lemmas h.added k.added;
        proved = λ theorem member. go theorem (of_append theorem h.added k.added member);
      }
    where
      go : (theorem : Theorem) → IsMember theorem h.added ⊎ IsMember theorem k.added → IsProvedOver theory theorem
      go theorem (inl member) = h.proved theorem member
      go theorem (inr member) = k.proved theorem member

  module _ (host : Host) where
    mutual
      pub runs-later : {before after : Stage} {t : Tactic} {goal : Goal} {answer : Result Step Fault} → Runs theory host before t goal answer after → IsLater theory before after
      runs-later (no_step_is_left {store} spends) = later-same (at store 0)
      runs-later (leaf_refines {store} {left} listed is) = later-step store left
      runs-later (leaf_is_refused {store} {left} is) = later-step store left
      runs-later (conversion_is_refused {store} {steps} {left} by r) = later-falls store left steps (converts-spends theory store host.conversions r)
      runs-later (conversion_is_not_assumed {store} {steps} {left} by r foreign) = later-falls store left steps (converts-spends theory store host.conversions r)
      runs-later (conversion_refines {store} {steps} {left} {theorem} by r assumed proved dest equates is) =
          later-lemma store left steps theorem (converts-spends theory store host.conversions r) proved
      runs-later (taut_is_refused {store} {left} is) = later-step store left
      runs-later (taut_refines {store} {left} {theorem} answers proved is) = let le : left ≤ left = omega arith in later-lemma store left left theorem le proved
      runs-later (host_is_unknown {store} {left} lacks) = later-step store left
      runs-later (host_fails {store} {left} is fails) = later-step store left
      runs-later (host_refines {store} {left} answered is says answers) = later-step store left
      runs-later (first_is_refused r) = runs-later r
      runs-later (first_goes_on {before} {mid} {after} r s) = later-twice before mid after (runs-later r) (runs_on-later s)
      runs-later (first_answers r) = runs-later r
      runs-later (first_is_not_caught r passes) = runs-later r
      runs-later (last_is_refused r) = runs-later r
      runs-later (first_is_caught {before} {mid} {after} r caught s) = later-twice before mid after (runs-later r) (runs-later s)
      runs-later (repeat_is_too_deep r deep) = repeats-later r
      runs-later (runs_as_defined is r) = runs-later r
      runs-later (finds_no_memory later) = later

      pub runs_on-later : {before after : Stage} {step : Step} {links : Links} {answer : Result Step Fault} → RunsOn theory host before step links answer after → IsLater theory before after
      runs_on-later (ends {stage}) = later-same stage
      runs_on-later (lengths_differ {stage} differ) = later-same stage
      runs_on-later (next_is_refused is r) = runs_each-later r
      runs_on-later (splice_is_too_deep is r deep) = runs_each-later r
      runs_on-later (next_goes_on {before} {mid} {after} is r fits s) = later-twice before mid after (runs_each-later r) (runs_on-later s)
      runs_on-later (goes_on_without_memory later) = later

      pub runs_each-later : {before after : Stage} {tasks : List (Tactic × Goal)} {answer : Result (List Step) Fault} → RunsEach theory host before tasks answer after
          → IsLater theory before after
      runs_each-later (none_is_left {stage}) = later-same stage
      runs_each-later (one_is_refused r) = runs-later r
      runs_each-later (one_is_done {before} {mid} {after} r s is) = later-twice before mid after (runs-later r) (runs_each-later s)
      runs_each-later (each_finds_no_memory later) = later

      repeats-later : {before after : Stage} {t : Tactic} {goal : Goal} {step : Step} → RepeatsSoFar theory host before t goal step after → IsLater theory before after
      repeats-later (has_run r) = runs-later r
      repeats-later (goes_down {before} {mid} {later} {after} firsts others r is each s) =
          later-twice before mid after (runs-later r) (later-twice mid later after (runs_each-later each) (repeats-later s))
