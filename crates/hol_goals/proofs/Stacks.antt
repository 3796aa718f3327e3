-- The stages of a stack, and what its calls make of them.
use Rattle.std.proofs.Common.{◌≡◌, ℕ, zero, suc, ◌+◌, ◌-◌, ◌<◌, List, [], ◌∷◌, length, map, take, refl, sym, ◌∙◌, ap, subst, Option, None, Some, arith}
use Rattle.std.proofs.lemmas.List.{take-map, drop-map}
use Rattle.hol_model.specs.declared.limits.TheConstants.{KEPT_EXPANSIONS_LIMIT}
use Rattle.hol_model.specs.declared.fault.Fault.TheVariants.{NoGoal, NothingToUndo}
use Rattle.std.specs.Prelude.{Ok, Err, slice_get}
use Rattle.std.specs.Option.{option_map}
use Rattle.hol_model.specs.Goals.Goals.{Goal}
use Rattle.hol_model.specs.Goals.GoalStates as states
use Rattle.hol_goals.specs.declared.stage.Stage.{Stage}
use Rattle.hol_goals.specs.declared.attempt.Change.{Change}
use Rattle.hol_goals.specs.declared.attempt.Change.TheVariants.{Nothing, Forward, Back}
use Rattle.hol_goals.specs.Stages.{stage_of, before_change, proof_at, shown, stack_at, GoesOn}

take-again : {A : Type 0} (n : ℕ) (xs : List A) → take n (take n xs) ≡ take n xs
take-again zero xs = refl
take-again (suc n) [] = refl
take-again (suc n) (x ∷ xs) = ap (λ rest. x ∷ rest) (take-again n xs)

take-longer : {A : Type 0} (n : ℕ) (xs : List A) → take (suc n) (take n xs) ≡ take n xs
take-longer zero xs = refl
take-longer (suc n) [] = refl
take-longer (suc n) (x ∷ xs) = ap (λ rest. x ∷ rest) (take-longer n xs)

shown-map : {A B : Type 0} (f : A → B) (change : Change) (xs : List A) → shown change (map f xs) ≡ map f (shown change xs)
shown-map f Nothing xs = refl
shown-map f Forward xs = refl
shown-map f Back xs = drop-map f 1 xs

-- one stage further

further : (goal : Goal) (change : Change) (stages : List states.Stage) (stage : states.Stage)
    → GoesOn (stack_at change goal stages) (stack_at Forward goal (take (KEPT_EXPANSIONS_LIMIT + 2) (stage ∷ shown change stages))) stage
further goal change stages stage = go (shown change stages) (before_change change goal stages)
  where
    go : (list : List states.Stage) (before : Option states.Proof) (proof : states.Proof) → proof_at goal list ≡ Some proof
        → stack_at Forward goal (take (KEPT_EXPANSIONS_LIMIT + 2) (stage ∷ list)) ≡ states.changed_stack (record { proof = proof_at goal list; before = before }) (states.advanced proof stage)
    go [] before proof same = cc
    go (first ∷ kept) before proof same =
        let old : states.Proof = record { goal = goal; stage = first; kept = take KEPT_EXPANSIONS_LIMIT kept } in
        let one : proof ≡ old = cc in
        let short : take KEPT_EXPANSIONS_LIMIT (take KEPT_EXPANSIONS_LIMIT kept) ≡ take KEPT_EXPANSIONS_LIMIT kept = take-again KEPT_EXPANSIONS_LIMIT kept in
        subst (λ (p : states.Proof). stack_at Forward goal (take (KEPT_EXPANSIONS_LIMIT + 2) (stage ∷ first ∷ kept)) ≡ states.changed_stack
        (record { proof = proof_at goal (first ∷ kept); before = before }) (states.advanced p stage))
        (sym one) (ap (λ (k : List states.Stage). record { proof = Some (states.advanced old stage); before = Some (record { goal = goal; stage = first; kept = k }) }) short)

pub goes-on : (goal : Goal) (change : Change) (old new : List Stage) (stage : Stage) → new ≡ take (KEPT_EXPANSIONS_LIMIT + 2) (stage ∷ shown change old)
    → GoesOn (stack_at change goal (map stage_of old)) (stack_at Forward goal (map stage_of new)) (stage_of stage)
goes-on goal change old new stage same =
    let moved : map stage_of new ≡ take (KEPT_EXPANSIONS_LIMIT + 2) (stage_of stage ∷ shown change (map stage_of old)) =
    ap (map stage_of) same ∙ sym (take-map stage_of (KEPT_EXPANSIONS_LIMIT + 2) (stage ∷ shown change old))
    ∙ ap (λ l. take (KEPT_EXPANSIONS_LIMIT + 2) (stage_of stage ∷ l)) (sym (shown-map stage_of change old)) in
    subst (λ (l : List states.Stage). GoesOn (stack_at change goal (map stage_of old)) (stack_at Forward goal l) (stage_of stage)) (sym moved)
    (further goal change (map stage_of old) (stage_of stage))

-- the last stage taken back

no-proof : (goal : Goal) (change : Change) (stages : List Stage) → length (shown change stages) ≡ 0 → proof_at goal (shown change (map stage_of stages)) ≡ None
no-proof goal change stages none = subst (λ (l : List states.Stage). proof_at goal l ≡ None) (sym (shown-map stage_of change stages)) (go (shown change stages) none)
  where
    go : (list : List Stage) → length list ≡ 0 → proof_at goal (map stage_of list) ≡ None
    go [] none = refl
    go (first ∷ rest) none = cc

pub has_none : (goal : Goal) (change : Change) (stages : List Stage) → length (shown change stages) ≡ 0
    → states.back_outcome (stack_at change goal (map stage_of stages)).proof ≡ Err NoGoal
has_none goal change stages none = ap states.back_outcome (no-proof goal change stages none)

pub has_one : (goal : Goal) (change : Change) (stages : List Stage) → length (shown change stages) ≡ 1
    → states.back_outcome (stack_at change goal (map stage_of stages)).proof ≡ Err NothingToUndo
has_one goal change stages one =
    subst (λ (l : List states.Stage). states.back_outcome (proof_at goal l) ≡ Err NothingToUndo) (sym (shown-map stage_of change stages)) (go (shown change stages) one)
  where
    go : (list : List Stage) → length list ≡ 1 → states.back_outcome (proof_at goal (map stage_of list)) ≡ Err NothingToUndo
    go [] one = cc
    go (first ∷ []) one = refl
    go (first ∷ second ∷ rest) one = cc

abbrev pub Backward : states.Stack → states.Stack → Type 0
Backward old new = (proof : states.Proof) × (states.back_outcome old.proof ≡ Ok proof) × (new ≡ states.changed_stack old proof)

backward : (goal : Goal) (list : List states.Stage) (before : Option states.Proof) → 1 < length list
    → Backward (record { proof = proof_at goal list; before = before }) (stack_at Back goal (take (KEPT_EXPANSIONS_LIMIT + 1) list))
backward goal [] before more = absurd (omega (arith, more))
backward goal (first ∷ []) before more = absurd (omega (arith, more))
backward goal (first ∷ second ∷ rest) before more =
    let new : states.Proof = record { goal = goal; stage = second; kept = take (KEPT_EXPANSIONS_LIMIT - 1) rest } in (
      new,
      refl,
      λ i. record {
        proof = Some (record { goal = goal; stage = second; kept = take-longer (KEPT_EXPANSIONS_LIMIT - 1) rest i });
        before = Some (record { goal = goal; stage = first; kept = second ∷ take-again (KEPT_EXPANSIONS_LIMIT - 1) rest i });
      },
    )

pub goes-back : (goal : Goal) (change : Change) (old new : List Stage) → new ≡ take (KEPT_EXPANSIONS_LIMIT + 1) (shown change old) → 1 < length (shown change old)
    → Backward (stack_at change goal (map stage_of old)) (stack_at Back goal (map stage_of new))
goes-back goal change old new same more =
    let moved : map stage_of new ≡ take (KEPT_EXPANSIONS_LIMIT + 1) (shown change (map stage_of old)) =
    ap (map stage_of) same ∙ sym (take-map stage_of (KEPT_EXPANSIONS_LIMIT + 1) (shown change old))
    ∙ ap (take (KEPT_EXPANSIONS_LIMIT + 1)) (sym (shown-map stage_of change old)) in
    let long : 1 < length (shown change (map stage_of old)) = subst (λ (l : List states.Stage). 1 < length l) (sym (shown-map stage_of change old)) (mapped (shown change old) more) in
    subst (λ (l : List states.Stage). Backward (stack_at change goal (map stage_of old)) (stack_at Back goal l)) (sym moved)
    (backward goal (shown change (map stage_of old)) (before_change change goal (map stage_of old)) long)
  where
    mapped : (list : List Stage) → 1 < length list → 1 < length (map stage_of list)
    mapped [] more = more
    mapped (first ∷ []) more = absurd (omega (arith, more))
    mapped (first ∷ second ∷ rest) more = omega arith

-- the last change undone

-- the stage at hand

pub stage_there : (goal : Goal) (change : Change) (stages : List Stage)
    → option_map stage_of (slice_get (shown change stages) 0) ≡ option_map (λ (proof : states.Proof). proof.stage) (stack_at change goal (map stage_of stages)).proof
stage_there goal change stages =
    subst (λ (l : List states.Stage). option_map stage_of (slice_get (shown change stages) 0) ≡ option_map (λ (proof : states.Proof). proof.stage) (proof_at goal l))
    (sym (shown-map stage_of change stages)) (go (shown change stages))
  where
    go : (list : List Stage) → option_map stage_of (slice_get list 0) ≡ option_map (λ (proof : states.Proof). proof.stage) (proof_at goal (map stage_of list))
    go [] = refl
    go (first ∷ rest) = refl
