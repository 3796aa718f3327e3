-- The theorems that a stack keeps are the recorder's.
use Rattle.std.proofs.Common.{◌≡◌, ℕ, zero, suc, ◌+◌, List, [], ◌∷◌, map, take, drop, sym, subst, Option, None, Some, Bor}
use Rattle.std.specs.Prelude.{slice_get, IfSome}
use Rattle.std.specs.Option.{option_map}
use Rattle.hol_model.specs.declared.limits.TheConstants.{KEPT_EXPANSIONS_LIMIT}
use Rattle.hol_journal.specs.Journal.{Journal}
use Rattle.hol_goals.specs.declared.stage.Stage.{Stage}
use Rattle.hol_goals.specs.declared.stage.Stage.TheVariants.{Underway, Proved}
use Rattle.hol_goals.specs.declared.attempt.Attempt.{Attempt}
use Rattle.hol_goals.specs.declared.attempt.Change.{Change}
use Rattle.hol_goals.specs.declared.attempt.Change.TheVariants.{Nothing, Forward, Back}
use Rattle.hol_goals.specs.declared.stack.Stack.{Stack}
use Rattle.hol_goals.specs.Stages.{shown}
use Rattle.hol_goals.specs.Made.{StaysMade, IsStageMade, AreStagesMade, IsAttemptMade, KeepsMade, KeptStayMade}

-- ---- parts of the stages

take-made : (journal : Journal) (n : ℕ) (stages : List Stage) → AreStagesMade journal stages → AreStagesMade journal (take n stages)
take-made journal zero [] made = tt
take-made journal zero (stage ∷ stages) made = tt
take-made journal (suc n) [] made = tt
take-made journal (suc n) (stage ∷ stages) made = (made.0, take-made journal n stages made.1)

rest-made : (journal : Journal) (stages : List Stage) → AreStagesMade journal stages → AreStagesMade journal (drop 1 stages)
rest-made journal [] made = tt
rest-made journal (stage ∷ stages) made = made.1

shown-made : (journal : Journal) (change : Change) (stages : List Stage) → AreStagesMade journal stages → AreStagesMade journal (shown change stages)
shown-made journal Nothing stages made = made
shown-made journal Forward stages made = made
shown-made journal Back stages made = rest-made journal stages made

-- one stage further
pub further_made : (journal : Journal) (change : Change) (old new : List Stage) (stage : Stage) → new ≡ take (KEPT_EXPANSIONS_LIMIT + 2) (stage ∷ shown change old)
    → AreStagesMade journal old → IsStageMade journal stage → AreStagesMade journal new
further_made journal change old new stage same made next =
    subst (AreStagesMade journal) (sym same) (take-made journal (KEPT_EXPANSIONS_LIMIT + 2) (stage ∷ shown change old) (next, shown-made journal change old made))

-- the last stage taken back
pub back_made : (journal : Journal) (change : Change) (old new : List Stage) → new ≡ take (KEPT_EXPANSIONS_LIMIT + 1) (shown change old)
    → AreStagesMade journal old → AreStagesMade journal new
back_made journal change old new same made =
    subst (AreStagesMade journal) (sym same) (take-made journal (KEPT_EXPANSIONS_LIMIT + 1) (shown change old) (shown-made journal change old made))

-- the stage at hand, where one is lent
pub stage_made : (journal : Journal) (attempt : Attempt) (lent : Option (Bor Stage)) → option_map (λ (stage : Bor Stage). stage.now) lent ≡ slice_get (shown attempt.change attempt.stages.items) 0
    → IsAttemptMade journal attempt → IfSome lent (λ stage. IsStageMade journal stage.now)
stage_made journal attempt None same made = tt
stage_made journal attempt (Some stage) same made =
    subst (λ (found : Option Stage). IfSome found (IsStageMade journal)) (sym same)
    (first (shown attempt.change attempt.stages.items) (shown-made journal attempt.change attempt.stages.items made.stages))
  where
    first : (list : List Stage) → AreStagesMade journal list → IfSome (slice_get list 0) (IsStageMade journal)
    first [] made = tt
    first (stage ∷ rest) made = made.0

-- ---- the attempt of a stack

pub kept_attempt : (journal : Journal) (stack : Stack) (attempt : Attempt) → stack.attempt ≡ Some attempt → KeepsMade journal stack → IsAttemptMade journal attempt
kept_attempt journal stack attempt there made = subst (λ (found : Option Attempt). IfSome found (IsAttemptMade journal)) there made

-- ---- the recorder goes on

stage-stays : (old new : Journal) → StaysMade old new → (stage : Stage) → IsStageMade old stage → IsStageMade new stage
stage-stays old new stays (Underway opening) made = tt
stage-stays old new stays (Proved theorem) made = stays theorem made

stages-stay : (old new : Journal) → StaysMade old new → (stages : List Stage) → AreStagesMade old stages → AreStagesMade new stages
stages-stay old new stays [] made = tt
stages-stay old new stays (stage ∷ stages) made = (stage-stays old new stays stage made.0, stages-stay old new stays stages made.1)

pub attempt_stays : (old new : Journal) (attempt : Attempt) → StaysMade old new → IsAttemptMade old attempt → IsAttemptMade new attempt
attempt_stays old new attempt stays made = record { stages = stages-stay old new stays attempt.stages.items made.stages }

pub kept_stay_made : KeptStayMade
kept_stay_made old new stack stays made = go stack.attempt made
  where
    go : (found : Option Attempt) → IfSome found (IsAttemptMade old) → IfSome found (IsAttemptMade new)
    go None made = tt
    go (Some attempt) made = attempt_stays old new attempt stays made
