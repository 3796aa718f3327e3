-- Theorems stay the recorder's, and those that a stack keeps are.
use Rattle.std.specs.Prelude.{List, [], ◌∷◌, IfSome}
use Rattle.hol_journal.specs.Journal.{Journal, Recorded, IsMade}
use Rattle.hol_goals.specs.declared.stage.Stage.{Stage}
use Rattle.hol_goals.specs.declared.stage.Stage.TheVariants.{Underway, Proved}
use Rattle.hol_goals.specs.declared.attempt.Attempt.{Attempt}
use Rattle.hol_goals.specs.declared.stack.Stack.{Stack}

-- what the first recorder made, the second made
abbrev pub StaysMade : Journal → Journal → Type 0
StaysMade old new = (made : Recorded) → IsMade old made → IsMade new made

-- the theorem of the goal, where the stage is one, is the recorder's
abbrev pub IsStageMade : Journal → Stage → Type 0
IsStageMade journal (Underway opening) = Unit {0}
IsStageMade journal (Proved made) = IsMade journal made

abbrev pub AreStagesMade : Journal → List Stage → Type 0
AreStagesMade journal [] = Unit {0}
AreStagesMade journal (stage ∷ stages) = IsStageMade journal stage × AreStagesMade journal stages

-- so is that of each stage of the attempt, taken back or not
pub record IsAttemptMade (journal : Journal) (attempt : Attempt) : Type 0 where
  pub stages : AreStagesMade journal attempt.stages.items

-- so is each theorem that the stack keeps; there is none where no goal is set
abbrev pub KeepsMade : Journal → Stack → Type 0
KeepsMade journal stack = IfSome stack.attempt (IsAttemptMade journal)

-- and it stays so while the recorder goes on
abbrev pub KeptStayMade : Type 0
KeptStayMade = (old new : Journal) (stack : Stack) → StaysMade old new → KeepsMade old stack → KeepsMade new stack
