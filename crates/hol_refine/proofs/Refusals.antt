-- Why REWRITE_TAC cannot begin.
use Rattle.std.proofs.Common.{◌≡◌, ◌⊎◌, ℕ, List, Some, Err, inl, inr}
use Rattle.hol_model.specs.declared.fault.Fault.{Fault}
use Rattle.hol_model.specs.declared.fault.Fault.TheVariants.{Memory}
use Rattle.hol_model.specs.Kernel.Theorem.{Theorem}
use Rattle.hol_model.specs.Goals.Replays.{Store}
use Rattle.hol_model.specs.Refining.Refiners.{theorems_named, AnswersAllRules, IsRefusedBefore, rewrite_tac}
use Rattle.hol_refine.specs.Answers.{IsUnnamed}

pub no-names : (store : Store) (names : List (List ℕ)) (fault : Fault) → IsUnnamed (theorems_named store names) fault
    → (fault ≡ Memory) ⊎ IsRefusedBefore store (rewrite_tac names) fault
no-names store names fault (inl memory) = inl memory
no-names store names fault (inr unknown) = inr (inl (unknown.1, unknown.0))

pub no-rules : (store : Store) (names : List (List ℕ)) (found : List Theorem) (fault : Fault) → theorems_named store names ≡ Some found
    → (fault ≡ Memory) ⊎ AnswersAllRules found (Err fault) → (fault ≡ Memory) ⊎ IsRefusedBefore store (rewrite_tac names) fault
no-rules store names found fault named (inl memory) = inl memory
no-rules store names found fault named (inr refused) = inr (inr (found, named, refused))
