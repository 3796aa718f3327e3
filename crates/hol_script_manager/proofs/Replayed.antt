-- A replayed theorem with the goal's own term.
use Rattle.std.proofs.Common.{◌≡◌, inl, inr, [], refl, sym, subst, Result, Ok, Err}
use Rattle.hol_model.specs.declared.fault.Fault.{Fault}
use Rattle.hol_model.specs.Logic.Theory.{Theory}
use Rattle.hol_model.specs.Kernel.Theorem.{Theorem}
use Rattle.hol_model.specs.Kernel.Outcome.{Answers}
use Rattle.hol_model.specs.Kernel.Answers.{goes_on, stops}
use Rattle.hol_model.specs.Goals.Goals.{Goal}
use Rattle.hol_model.specs.Goals.Justifications.{Justification}
use Rattle.hol_model.specs.Goals.Replays.{Store, IsReplay}
use Rattle.hol_model.specs.Goals.GoalStates.{closing_outcome}
use Rattle.hol_goals.specs.Expansions.{Proves}

-- the justification is not replayed
pub not_replayed : (theory : Theory) (store : Store) (goal : Goal) (justification : Justification) (fault : Fault) → IsReplay theory store [] justification (Err fault)
    → Proves theory store goal justification (Err fault)
not_replayed theory store goal justification fault replayed = inr (stops fault replayed refl)

-- it is, over a theory that stays
pub replayed : (theory now : Theory) (store : Store) (goal : Goal) (justification : Justification) (theorem : Theorem) (answer : Result Theorem Fault) → now ≡ theory
    → IsReplay theory store [] justification (Ok theorem) → Answers answer (closing_outcome now goal theorem) → Proves theory store goal justification answer
replayed theory now store goal justification theorem answer same is closes =
    go answer (subst (λ (t : Theory). Answers answer (closing_outcome t goal theorem)) same closes)
  where
    go : (answer : Result Theorem Fault) → Answers answer (closing_outcome theory goal theorem) → Proves theory store goal justification answer
    go (Ok made) closes = goes_on theorem is (sym closes)
    go (Err fault) (inl memory) = inl memory
    go (Err fault) (inr closes) = inr (goes_on theorem is (sym closes))
