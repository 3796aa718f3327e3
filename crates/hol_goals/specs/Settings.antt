-- The test whether a goal can be set.
use Rattle.std.specs.Prelude.{◌≡◌, ◌⊎◌, Result, Ok, Err}
use Rattle.hol_model.specs.declared.fault.Fault.{Fault}
use Rattle.hol_model.specs.declared.fault.Fault.TheVariants.{Memory}
use Rattle.hol_model.specs.Goals.GoalStates.{Proof}

-- where the call succeeds, the outcome is this proof, and where it is refused the outcome is, or there is no memory
abbrev pub IsDecided : {A : Type 0} → Result Proof Fault → Proof → Result A Fault → Type 0
IsDecided outcome proof (Ok x) = outcome ≡ Ok proof
IsDecided outcome proof (Err fault) = (fault ≡ Memory) ⊎ (outcome ≡ Err fault)
