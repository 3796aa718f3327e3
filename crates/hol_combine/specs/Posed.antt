-- What is asked before a refiner runs.
use Rattle.std.specs.Prelude.{◌≡◌, List}
use Rattle.hol_model.specs.Logic.Theory.{Theory}
use Rattle.hol_model.specs.Goals.Goals.{Goal}
use Rattle.hol_model.specs.Goals.Replays.{Store, IsStoreOver, IsKnownGoal, AreKnownGoals}
use Rattle.hol_model.specs.Refining.Combinators.{Tactic}
use Rattle.hol_model.specs.Refining.RefinerConditions.{HasLogic, HasKnownWitnesses}

-- the theory has the logical constants, and the theorems of the store are proved over it
pub record IsGrounded (theory : Theory) (store : Store) : Type 0 where
  pub logic : HasLogic theory
  pub proved : IsStoreOver theory store

-- a known goal for a refiner whose witnesses are known terms
pub record IsPosed (theory : Theory) (store : Store) (t : Tactic) (goal : Goal) : Type 0 where
  pub grounded : IsGrounded theory store
  pub witnesses : HasKnownWitnesses theory t
  pub known : IsKnownGoal theory goal

-- known goals for refiners of whose witnesses this is known
pub record ArePosed (theory : Theory) (store : Store) (AreKnown : Theory → Type 0) (goals : List Goal) : Type 0 where
  pub grounded : IsGrounded theory store
  pub witnesses : AreKnown theory
  pub known : AreKnownGoals theory goals

-- what a run keeps: the theory, and what its caller knows of what stands in front of the refiners without parts
pub record IsKept (old new : Theory) (IsReady Extends : Type 0) : Type 0 where
  pub theory : new ≡ old
  pub ready : IsReady
  pub extends : Extends
