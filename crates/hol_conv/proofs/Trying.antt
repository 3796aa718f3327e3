-- Conversions without parts: what they answer for a step, and where no step is left.
use Rattle.std.proofs.Common.{◌≡◌, ℕ, suc, true, refl, sym, subst, Result, Err}
use Rattle.hol_model.specs.declared.fault.Fault.{Fault}
use Rattle.hol_model.specs.declared.fault.Fault.TheVariants.{StepLimit}
use Rattle.hol_model.specs.Terms.NamedTerm.{NamedTerm}
use Rattle.hol_model.specs.Logic.Theory.{Theory}
use Rattle.hol_model.specs.Kernel.Theorem.{Theorem}
use Rattle.hol_model.specs.Goals.Replays.{Store}
use Rattle.hol_model.specs.Refining.HostFunctions.{HostConversions}
use Rattle.hol_model.specs.Refining.Conversions.{Conversion, Converts, spends_step, no_step_is_left}
use Rattle.hol_tactic_exprs.specs.Expressions.{conversion_of}
use Rattle.hol_tactic_exprs.specs.declared.conv.Conv.{Conv, All, No, Beta, Rewr, Host, Then', OrElse', Prefixed'}
use Rattle.hol_conv.specs.OneStep.{ConvertsInStep}
use Rattle.hol_conv.specs.Leaves.{stands_for, IsLeaf}
use Rattle.hol_conv.proofs.Expressions.{with-same-leaves}

-- a conversion without parts spends a step
leaf-spends : (leaf : Conv) (t : NamedTerm) → IsLeaf leaf → spends_step (conversion_of leaf) t ≡ true
leaf-spends All t is = refl
leaf-spends No t is = refl
leaf-spends Beta t is = refl
leaf-spends (Rewr name) t is = refl
leaf-spends (Host name) t is = refl
leaf-spends (Then' p first shape others) t is = absurd is
leaf-spends (OrElse' p first shape others) t is = absurd is
leaf-spends (Prefixed' prefix p c) t is = absurd is

-- where each of them stands for the same, so does this
pub leaf-stands : (c : Conversion) (leaf : Conv) → IsLeaf leaf → stands_for (λ other. c) leaf ≡ c
leaf-stands c All is = refl
leaf-stands c No is = refl
leaf-stands c Beta is = refl
leaf-stands c (Rewr name) is = refl
leaf-stands c (Host name) is = refl
leaf-stands c (Then' p first shape others) is = absurd is
leaf-stands c (OrElse' p first shape others) is = absurd is
leaf-stands c (Prefixed' prefix p d) is = absurd is

-- an expression whose leaves stand for themselves
pub stands-as-itself : (conv : Conv) → stands_for (λ leaf. leaf) conv ≡ conversion_of conv
stands-as-itself conv = with-same-leaves (conversion_of conv)

module _ (theory : Theory) (store : Store) (hosts : HostConversions) where
  -- what is answered for a step, behind a step that was spent
  tried : (c : Conversion) (t : NamedTerm) (answer : Result Theorem Fault) (steps left : ℕ) → steps ≡ suc left → ConvertsInStep theory store hosts c t answer → (depth : ℕ)
      → Converts theory store hosts depth steps c t answer left
  tried c t answer steps left spent converts depth = subst (λ (n : ℕ). Converts theory store hosts depth n c t answer left) (sym spent) (converts depth left)

  -- no step was left
  untried : (c : Conversion) (t : NamedTerm) (steps left : ℕ) → spends_step c t ≡ true → (steps ≡ 0) × (left ≡ 0) → (depth : ℕ)
      → Converts theory store hosts depth steps c t (Err StepLimit) left
  untried c t steps left spends none depth =
      subst (λ (n : ℕ). Converts theory store hosts depth n c t (Err StepLimit) left) (sym none.0)
      (subst (λ (n : ℕ). Converts theory store hosts depth 0 c t (Err StepLimit) n) (sym none.1) (no_step_is_left spends))

  same-conv : (c d : Conversion) (t : NamedTerm) (answer : Result Theorem Fault) (depth steps left : ℕ) → c ≡ d → Converts theory store hosts depth steps d t answer left
      → Converts theory store hosts depth steps c t answer left
  same-conv c d t answer depth steps left is r = subst (λ (e : Conversion). Converts theory store hosts depth steps e t answer left) (sym is) r

  -- ---- conversions of an expression

  pub leaf-tried : (leaf : Conv) (t : NamedTerm) (answer : Result Theorem Fault) (steps left : ℕ) → steps ≡ suc left
      → ConvertsInStep theory store hosts (conversion_of leaf) t answer → (depth : ℕ) → Converts theory store hosts depth steps (stands_for (λ other. other) leaf) t answer left
  leaf-tried leaf t answer steps left spent converts depth =
      same-conv (stands_for (λ other. other) leaf) (conversion_of leaf) t answer depth steps left (stands-as-itself leaf)
      (tried (conversion_of leaf) t answer steps left spent converts depth)

  pub leaf-untried : (leaf : Conv) (t : NamedTerm) (steps left : ℕ) → IsLeaf leaf → (steps ≡ 0) × (left ≡ 0) → (depth : ℕ)
      → Converts theory store hosts depth steps (stands_for (λ other. other) leaf) t (Err StepLimit) left
  leaf-untried leaf t steps left is none depth =
      same-conv (stands_for (λ other. other) leaf) (conversion_of leaf) t (Err StepLimit) depth steps left (stands-as-itself leaf)
      (untried (conversion_of leaf) t steps left (leaf-spends leaf t is) none depth)

  -- ---- another in place of each

  pub other-tried : (c : Conversion) (leaf : Conv) (t : NamedTerm) (answer : Result Theorem Fault) (steps left : ℕ) → IsLeaf leaf → steps ≡ suc left
      → ConvertsInStep theory store hosts c t answer → (depth : ℕ) → Converts theory store hosts depth steps (stands_for (λ other. c) leaf) t answer left
  other-tried c leaf t answer steps left is spent converts depth =
      same-conv (stands_for (λ other. c) leaf) c t answer depth steps left (leaf-stands c leaf is) (tried c t answer steps left spent converts depth)

  pub other-untried : (c : Conversion) (leaf : Conv) (t : NamedTerm) (steps left : ℕ) → IsLeaf leaf → spends_step c t ≡ true → (steps ≡ 0) × (left ≡ 0) → (depth : ℕ)
      → Converts theory store hosts depth steps (stands_for (λ other. c) leaf) t (Err StepLimit) left
  other-untried c leaf t steps left is spends none depth =
      same-conv (stands_for (λ other. c) leaf) c t (Err StepLimit) depth steps left (leaf-stands c leaf is) (untried c t steps left spends none depth)

  -- ---- the whole of an expression

  pub expression-converts : (conv : Conv) (t : NamedTerm) (answer : Result Theorem Fault) (depth steps left : ℕ)
      → Converts theory store hosts depth steps (stands_for (λ leaf. leaf) conv) t answer left → Converts theory store hosts depth steps (conversion_of conv) t answer left
  expression-converts conv t answer depth steps left r =
      subst (λ (c : Conversion). Converts theory store hosts depth steps c t answer left) (stands-as-itself conv) r
