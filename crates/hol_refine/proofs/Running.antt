-- What the calls on the way answer makes a run of the refiner.
use Rattle.std.proofs.Common.{◌≡◌, ◌⊎◌, ℕ, suc, ◌≤◌, [], true, Result, Ok, Err, refl, sym, subst, inl, inr, append-nil, arith}
use Rattle.hol_model.specs.declared.fault.Fault.{Fault}
use Rattle.hol_model.specs.declared.fault.Fault.TheVariants.{Memory}
use Rattle.hol_model.specs.Logic.Theory.{Theory}
use Rattle.hol_model.specs.Kernel.Theorem.{Theorem}
use Rattle.hol_model.specs.Goals.Goals.{Goal}
use Rattle.hol_model.specs.Goals.ValidSteps.{Step}
use Rattle.hol_model.specs.Goals.Replays.{Store}
use Rattle.hol_model.specs.Refining.HostFunctions.{Host}
use Rattle.hol_model.specs.Refining.Conversions.{Conversion, Converts}
use Rattle.hol_model.specs.Refining.Refiners.{Leaf, taut_tac, is_in_table, AnswersTable, GoesBy, IsRefusedBefore, AnswersTautology}
use Rattle.hol_model.specs.Refining.Combinators.{leaf, at, IsLater, Runs, leaf_refines, leaf_is_refused, conversion_is_refused, conversion_is_not_assumed, conversion_refines}
use Rattle.hol_model.specs.Refining.Combinators.{taut_is_refused, taut_refines, finds_no_memory}
use Rattle.hol_laws_refiners.proofs.Spending.{converts-spends}
use Rattle.hol_refine.specs.Answers.{IsConverted, IsProvedStep, IsRefusal, IsUnassumed, AnswersConverted, AnswersProved, AnswersTaut, taut_refuses, taut_answers}

module _ (theory : Theory) (host : Host) where
  -- a step less, or more of them
  spent : (store : Store) (left steps : ℕ) → left ≤ steps → IsLater theory (at store (suc steps)) (at store left)
  spent store left steps le =
      let falls : left ≤ suc steps = omega arith in
      record { steps = falls; named = refl; added = []; lemmas = sym (append-nil store.lemmas); proved = λ theorem member. absurd member }

  same-steps : (left : ℕ) → left ≤ left
  same-steps left = omega arith

  starved : (store : Store) (left steps : ℕ) (l : Leaf) (goal : Goal) (fault : Fault) → left ≤ steps → fault ≡ Memory
      → Runs theory host (at store (suc steps)) (leaf l) goal (Err fault) (at store left)
  starved store left steps l goal fault le is =
      subst (λ (f : Fault). Runs theory host (at store (suc steps)) (leaf l) goal (Err f) (at store left)) (sym is) (finds_no_memory (spent store left steps le))

  -- a refiner of the table
  pub by-table : (store : Store) (left : ℕ) (l : Leaf) (goal : Goal) (result : Result Step Fault) → is_in_table l ≡ true
      → AnswersTable theory store l goal result ⊎ (result ≡ Err Memory) → Runs theory host (at store (suc left)) (leaf l) goal result (at store left)
  by-table store left l goal result listed (inl answers) = leaf_refines listed answers
  by-table store left l goal result listed (inr memory) =
      subst (λ (r : Result Step Fault). Runs theory host (at store (suc left)) (leaf l) goal r (at store left)) (sym memory)
      (finds_no_memory (spent store left left (same-steps left)))

  -- CONV_TAC and REWRITE_TAC, by what the conversion answers
  pub not-converted : (store after : Store) (steps left : ℕ) (l : Leaf) (goal : Goal) (c : Conversion) (fault : Fault) → GoesBy store l c
      → Converts theory store host.conversions 0 steps c goal.target (Err fault) left → after ≡ store
      → Runs theory host (at store (suc steps)) (leaf l) goal (Err fault) (at after left)
  not-converted store after steps left l goal c fault by r same =
      subst (λ (s : Store). Runs theory host (at store (suc steps)) (leaf l) goal (Err fault) (at s left)) (sym same) (conversion_is_refused by r)

  converted-step : (store after : Store) (steps left : ℕ) (l : Leaf) (goal : Goal) (c : Conversion) (theorem : Theorem) (step : Step) → GoesBy store l c
      → Converts theory store host.conversions 0 steps c goal.target (Ok theorem) left → IsConverted theory store goal theorem step after
      → Runs theory host (at store (suc steps)) (leaf l) goal (Ok step) (at after left)
  converted-step store after steps left l goal c theorem step by r is =
      subst (λ (s : Store). Runs theory host (at store (suc steps)) (leaf l) goal (Ok step) (at s left)) (sym is.stored)
      (conversion_refines by r is.assumed is.proved is.is_equation is.equates is.is_step)

  unassumed : (store : Store) (steps left : ℕ) (l : Leaf) (goal : Goal) (c : Conversion) (theorem : Theorem) (fault : Fault) → GoesBy store l c
      → Converts theory store host.conversions 0 steps c goal.target (Ok theorem) left → IsUnassumed goal theorem fault
      → Runs theory host (at store (suc steps)) (leaf l) goal (Err fault) (at store left)
  unassumed store steps left l goal c theorem fault by r (inl memory) = starved store left steps l goal fault (converts-spends theory store host.conversions r) memory
  unassumed store steps left l goal c theorem fault by r (inr foreign) =
      subst (λ (f : Fault). Runs theory host (at store (suc steps)) (leaf l) goal (Err f) (at store left)) (sym foreign.0) (conversion_is_not_assumed by r foreign.1)

  unconverted : (store after : Store) (steps left : ℕ) (l : Leaf) (goal : Goal) (c : Conversion) (theorem : Theorem) (fault : Fault) → GoesBy store l c
      → Converts theory store host.conversions 0 steps c goal.target (Ok theorem) left → IsRefusal store (IsUnassumed goal theorem) fault after
      → Runs theory host (at store (suc steps)) (leaf l) goal (Err fault) (at after left)
  unconverted store after steps left l goal c theorem fault by r is =
      subst (λ (s : Store). Runs theory host (at store (suc steps)) (leaf l) goal (Err fault) (at s left)) (sym is.stored)
      (unassumed store steps left l goal c theorem fault by r is.cause)

  converted-here : (store after : Store) (steps left : ℕ) (l : Leaf) (goal : Goal) (c : Conversion) (theorem : Theorem) (result : Result Step Fault) → GoesBy store l c
      → Converts theory store host.conversions 0 steps c goal.target (Ok theorem) left → AnswersConverted theory store goal theorem result after
      → Runs theory host (at store (suc steps)) (leaf l) goal result (at after left)
  converted-here store after steps left l goal c theorem (Ok step) by r is = converted-step store after steps left l goal c theorem step by r is
  converted-here store after steps left l goal c theorem (Err fault) by r is = unconverted store after steps left l goal c theorem fault by r is

  -- the store is the same before the theorem becomes a lemma, and so is the theory
  pub by-conversion : (store mid after : Store) (other : Theory) (steps left : ℕ) (l : Leaf) (goal : Goal) (c : Conversion) (theorem : Theorem) (result : Result Step Fault)
      → GoesBy store l c → Converts theory store host.conversions 0 steps c goal.target (Ok theorem) left → mid ≡ store → other ≡ theory
      → AnswersConverted other mid goal theorem result after → Runs theory host (at store (suc steps)) (leaf l) goal result (at after left)
  by-conversion store mid after other steps left l goal c theorem result by r same_store same_theory is =
      let here = subst (λ (t : Theory). AnswersConverted t mid goal theorem result after) same_theory is in
      converted-here store after steps left l goal c theorem result by r (subst (λ (s : Store). AnswersConverted theory s goal theorem result after) same_store here)

  -- REWRITE_TAC, where a name stands for nothing, or there is no room for the rules
  not-begun-here : (store : Store) (left : ℕ) (l : Leaf) (goal : Goal) (fault : Fault) → (fault ≡ Memory) ⊎ IsRefusedBefore store l fault
      → Runs theory host (at store (suc left)) (leaf l) goal (Err fault) (at store left)
  not-begun-here store left l goal fault (inl memory) = starved store left left l goal fault (same-steps left) memory
  not-begun-here store left l goal fault (inr refused) = leaf_is_refused refused

  pub not-begun : (store after : Store) (left : ℕ) (l : Leaf) (goal : Goal) (fault : Fault) → (fault ≡ Memory) ⊎ IsRefusedBefore store l fault → after ≡ store
      → Runs theory host (at store (suc left)) (leaf l) goal (Err fault) (at after left)
  not-begun store after left l goal fault cause same =
      subst (λ (s : Store). Runs theory host (at store (suc left)) (leaf l) goal (Err fault) (at s left)) (sym same) (not-begun-here store left l goal fault cause)

  -- TAUT_TAC
  proved-step : (store after : Store) (left : ℕ) (goal : Goal) (theorem : Theorem) (step : Step) → AnswersTautology theory goal.target (Ok theorem)
      → IsProvedStep theory store theorem step after → Runs theory host (at store (suc left)) (leaf taut_tac) goal (Ok step) (at after left)
  proved-step store after left goal theorem step says is =
      subst (λ (s : Store). Runs theory host (at store (suc left)) (leaf taut_tac) goal (Ok step) (at s left)) (sym is.stored) (taut_refines says is.proved is.is_step)

  unproved : (store after : Store) (left : ℕ) (goal : Goal) (fault : Fault) → IsRefusal store (λ f. f ≡ Memory) fault after
      → Runs theory host (at store (suc left)) (leaf taut_tac) goal (Err fault) (at after left)
  unproved store after left goal fault is =
      subst (λ (s : Store). Runs theory host (at store (suc left)) (leaf taut_tac) goal (Err fault) (at s left)) (sym is.stored)
      (starved store left left taut_tac goal fault (same-steps left) is.cause)

  proved-here : (store after : Store) (left : ℕ) (goal : Goal) (theorem : Theorem) (result : Result Step Fault) → AnswersTautology theory goal.target (Ok theorem)
      → AnswersProved theory store theorem result after → Runs theory host (at store (suc left)) (leaf taut_tac) goal result (at after left)
  proved-here store after left goal theorem (Ok step) says is = proved-step store after left goal theorem step says is
  proved-here store after left goal theorem (Err fault) says is = unproved store after left goal fault is

  refused-tautology : (store after : Store) (left : ℕ) (goal : Goal) (fault : Fault) → AnswersTautology theory goal.target (Err fault) → after ≡ store
      → Runs theory host (at store (suc left)) (leaf taut_tac) goal (Err fault) (at after left)
  refused-tautology store after left goal fault says same =
      subst (λ (s : Store). Runs theory host (at store (suc left)) (leaf taut_tac) goal (Err fault) (at s left)) (sym same) (taut_is_refused says)

  pub by-tautology : (store after : Store) (left : ℕ) (goal : Goal) (result : Result Step Fault) → AnswersTaut theory store goal result after
      → Runs theory host (at store (suc left)) (leaf taut_tac) goal result (at after left)
  by-tautology store after left goal result (taut_refuses {fault} says same) = refused-tautology store after left goal fault says same
  by-tautology store after left goal result (taut_answers theorem says same is) =
      proved-here store after left goal theorem result says (subst (λ (s : Store). AnswersProved theory s theorem result after) same is)
