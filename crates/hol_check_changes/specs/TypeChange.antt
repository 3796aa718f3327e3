-- Changes of types by numbers, and what was worked out for types before.
use Rattle.std.specs.Prelude.{◌≡◌, ◌⊎◌, ℕ, ◌<◌, List, Some, Result, slice_get, length, IfOk, IfErr}
use Rattle.hol_model.specs.declared.fault.Fault.{Fault}
use Rattle.hol_model.specs.declared.fault.Fault.TheVariants.{Memory, TooLarge}
use Rattle.hol_model.specs.declared.limits.TheConstants.{TYPE_NODES_LIMIT}
use Rattle.hol_model.specs.Terms.HolType.{HolType, type_nodes, instantiate_type, type_instance_of}
use Rattle.hol_check_terms.specs.Terms.{type_at}
use Rattle.hol_check_terms.specs.Entries.{IsEntry}
use Rattle.hol_check_changes.specs.Pairs.{ArePairs}

-- the number is that of the changed type
pub record IsChangedType (types : List HolType) (change : HolType → HolType) (old new : ℕ) : Type 0 where
  pub within : old < length types
  pub is_changed : slice_get types new ≡ Some (change (type_at types old))

abbrev pub IsTypeMemo : List HolType → (HolType → HolType) → List (ℕ × ℕ) → Type 0
IsTypeMemo types change entries = (old new : ℕ) → IsEntry entries old new → IsChangedType types change old new

-- a type's change has its number; only memory that is used up, or a limit that the changed type passes, refuses it
pub record AnswersType (wanted : HolType) (result : Result ℕ Fault) (types : List HolType) (change : HolType → HolType) (entries : List (ℕ × ℕ)) : Type 0 where
  pub number : IfOk result (λ new. slice_get types new ≡ Some wanted)
  pub refused : IfErr result (λ fault. (fault ≡ Memory) ⊎ ((fault ≡ TooLarge) × (TYPE_NODES_LIMIT < type_nodes wanted)))
  pub memo : IsTypeMemo types change entries

-- types for type variables, by pairs of numbers
abbrev pub type_change : List (HolType × HolType) → HolType → HolType
type_change theta ty = instantiate_type (type_instance_of theta) ty

-- pairs that name types, with what was worked out before
pub record IsInstanceWork (types : List HolType) (pairs entries : List (ℕ × ℕ)) : Type 0 where
  pub theta : List (HolType × HolType)
  pub are_pairs : ArePairs types pairs theta
  pub memo : IsTypeMemo types (type_change theta) entries
