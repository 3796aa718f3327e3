-- Changes of terms part by part, and what was worked out for parts before.
use Rattle.std.specs.Prelude.{◌≡◌, ◌⊎◌, ℕ, suc, ◌<◌, List, Bool, true, false, Some, Result, if◌then◌else◌, nat_eq, slice_get, length, IfOk, IfErr}
use Rattle.hol_model.specs.declared.fault.Fault.{Fault}
use Rattle.hol_model.specs.declared.fault.Fault.TheVariants.{Memory, TooLarge}
use Rattle.hol_model.specs.declared.limits.TheConstants.{TYPE_NODES_LIMIT}
use Rattle.hol_model.specs.Terms.HolType.{HolType, TypeInstance, type_nodes, instantiate_type, type_instance_of}
use Rattle.hol_model.specs.Terms.NamedTerm.{same_variable}
use Rattle.hol_model.specs.Terms.Nameless.{Nameless, free, const, bound, app, lam}
use Rattle.hol_model.specs.Terms.Measures.{nameless_within_limits}
use Rattle.hol_model.specs.Terms.Substitution.{TermInstance}
use Rattle.hol_model.specs.Logs.LogSequents.{term_instance_of}
use Rattle.hol_check_terms.specs.Terms.{TermTable, term_at, IsTooLarge}
use Rattle.hol_check_terms.specs.Entries.{IsEntry}
use Rattle.hol_check_changes.specs.Pairs.{ArePairs}
use Rattle.hol_check_changes.specs.TypeChange.{IsTypeMemo}
use Rattle.hol_check_changes.specs.declared.leaves.Change.{Change}
use Rattle.hol_check_changes.specs.declared.leaves.Change.TheVariants.{Close, Fill, Put, Instantiate}
use Rattle.hol_check_terms.specs.declared.memo.Place.{Place}

-- what becomes of free variables, of bound variables and of types, and how the binders around a part are counted
pub record PartChange : Type 0 where
  pub on_free : ℕ → List ℕ → HolType → Nameless
  pub on_bound : ℕ → ℕ → Nameless
  pub on_type : HolType → HolType
  pub under : ℕ → ℕ

-- the change of a part that stands under the passed binders
abbrev pub changed : PartChange → ℕ → Nameless → Nameless
changed change passed (free name ty) = change.on_free passed name ty
changed change passed (const name ty) = const name (change.on_type ty)
changed change passed (bound index) = change.on_bound passed index
changed change passed (app function argument) = app (changed change passed function) (changed change passed argument)
changed change passed (lam ty body) = lam (change.on_type ty) (changed change (change.under passed) body)

-- the variable becomes that of the binder outside those that are passed
abbrev pub closing : List ℕ → HolType → PartChange
closing name ty = record {
  on_free = λ passed other s. if same_variable name ty other s then bound passed else free other s;
  on_bound = λ passed index. bound index;
  on_type = λ s. s;
  under = suc;
}

-- the variable of the binder outside those that are passed becomes a term
abbrev pub filling : Nameless → PartChange
filling new = record {
  on_free = λ passed name ty. free name ty;
  on_bound = λ passed index. if nat_eq index passed then new else bound index;
  on_type = λ s. s;
  under = suc;
}

-- free variables become terms
abbrev pub putting : TermInstance → PartChange
putting theta = record {
  on_free = λ passed name ty. theta name ty;
  on_bound = λ passed index. bound index;
  on_type = λ s. s;
  under = λ passed. passed;
}

-- type variables become types
abbrev pub instantiating : TypeInstance → PartChange
instantiating tau = record {
  on_free = λ passed name ty. free name (instantiate_type tau ty);
  on_bound = λ passed index. bound index;
  on_type = instantiate_type tau;
  under = λ passed. passed;
}

-- changes by numbers

pub record IsClosing (table : TermTable) (variable : ℕ) (meaning : PartChange) : Type 0 where
  pub name : List ℕ
  pub ty : HolType
  pub is_variable : slice_get table.terms variable ≡ Some (free name ty)
  pub is_meant : meaning ≡ closing name ty

pub record IsFilling (table : TermTable) (new : ℕ) (meaning : PartChange) : Type 0 where
  pub term : Nameless
  pub is_term : slice_get table.terms new ≡ Some term
  pub is_meant : meaning ≡ filling term

pub record IsPutting (table : TermTable) (pairs : List (ℕ × ℕ)) (meaning : PartChange) : Type 0 where
  pub theta : List (Nameless × Nameless)
  pub are_pairs : ArePairs table.terms pairs theta
  pub is_meant : meaning ≡ putting (term_instance_of theta)

pub record IsInstantiating (table : TermTable) (pairs : List (ℕ × ℕ)) (meaning : PartChange) : Type 0 where
  pub theta : List (HolType × HolType)
  pub are_pairs : ArePairs table.types pairs theta
  pub is_meant : meaning ≡ instantiating (type_instance_of theta)

-- what a change by numbers means
abbrev pub IsMeant : TermTable → Change → PartChange → Type 0
IsMeant table (Close variable) meaning = IsClosing table variable meaning
IsMeant table (Fill new) meaning = IsFilling table new meaning
IsMeant table (Put pairs) meaning = IsPutting table pairs.now meaning
IsMeant table (Instantiate pairs) meaning = IsInstantiating table pairs.now meaning

-- the change means something
pub record HasMeaning (table : TermTable) (change : Change) : Type 0 where
  pub meaning : PartChange
  pub meant : IsMeant table change meaning

-- the number is that of a free variable
pub record IsVariable (terms : List Nameless) (number : ℕ) : Type 0 where
  pub name : List ℕ
  pub ty : HolType
  pub is_free : slice_get terms number ≡ Some (free name ty)

-- the change leaves terms without free variables as they are
abbrev pub spares : Change → Bool
spares (Close variable) = true
spares (Fill new) = false
spares (Put pairs) = true
spares (Instantiate pairs) = false

-- the change counts the binders around a part
abbrev pub counts : Change → Bool
counts (Close variable) = true
counts (Fill new) = true
counts (Put pairs) = false
counts (Instantiate pairs) = false

-- limits

-- a type that is written in the term passes the limit
abbrev pub WritesLargeType : Nameless → Type 0
WritesLargeType (free name ty) = TYPE_NODES_LIMIT < type_nodes ty
WritesLargeType (const name ty) = TYPE_NODES_LIMIT < type_nodes ty
WritesLargeType (bound index) = ⊥
WritesLargeType (app function argument) = WritesLargeType function ⊎ WritesLargeType argument
WritesLargeType (lam ty body) = (TYPE_NODES_LIMIT < type_nodes ty) ⊎ WritesLargeType body

-- the term passes the limit on height, on nodes or on types
abbrev pub IsPastLimits : Nameless → Type 0
IsPastLimits term = IsTooLarge term ⊎ WritesLargeType term

-- what was worked out before, and what a change answers

-- the number is that of the changed part
pub record IsChangedPart (terms : List Nameless) (meaning : PartChange) (place : Place) (new : ℕ) : Type 0 where
  pub within : place.number < length terms
  pub is_changed : slice_get terms new ≡ Some (changed meaning place.passed (term_at terms place.number))

abbrev pub IsPartMemo : List Nameless → PartChange → List (Place × ℕ) → Type 0
IsPartMemo terms meaning entries = (place : Place) (new : ℕ) → IsEntry entries place new → IsChangedPart terms meaning place new

-- the meaning of a change, and what was worked out for types
pub record IsTypeHeld (table : TermTable) (change : Change) (types : List (ℕ × ℕ)) (meaning : PartChange) : Type 0 where
  pub meant : IsMeant table change meaning
  pub known_types : IsTypeMemo table.types meaning.on_type types

-- the same, and what was worked out for parts
pub record IsHeld (table : TermTable) (change : Change) (parts : List (Place × ℕ)) (types : List (ℕ × ℕ)) (meaning : PartChange) : Type 0 where
  pub held : IsTypeHeld table change types meaning
  pub known_parts : IsPartMemo table.terms meaning parts

pub record IsTypeWork (table : TermTable) (change : Change) (types : List (ℕ × ℕ)) : Type 0 where
  pub meaning : PartChange
  pub held : IsTypeHeld table change types meaning

pub record IsWork (table : TermTable) (change : Change) (parts : List (Place × ℕ)) (types : List (ℕ × ℕ)) : Type 0 where
  pub meaning : PartChange
  pub held : IsHeld table change parts types meaning

-- the wanted term has the number; only memory that is used up, or a limit that the term passes, refuses it
pub record IsAnswered (wanted : Nameless) (result : Result ℕ Fault) (terms : List Nameless) : Type 0 where
  pub number : IfOk result (λ new. slice_get terms new ≡ Some wanted)
  pub refused : IfErr result (λ fault. (fault ≡ Memory) ⊎ ((fault ≡ TooLarge) × IsPastLimits wanted))

pub record AnswersLeaf (wanted : Nameless) (result : Result ℕ Fault) (table : TermTable) (change : Change) (types : List (ℕ × ℕ)) (meaning : PartChange) : Type 0 where
  pub answered : IsAnswered wanted result table.terms
  pub held : IsTypeHeld table change types meaning

pub record Answers (wanted : Nameless) (result : Result ℕ Fault) (table : TermTable) (change : Change) (parts : List (Place × ℕ)) (types : List (ℕ × ℕ)) (meaning : PartChange) : Type 0 where
  pub answered : IsAnswered wanted result table.terms
  pub held : IsHeld table change parts types meaning

-- the same of a written type
pub record AnswersTypeOf (wanted : HolType) (result : Result ℕ Fault) (table : TermTable) (change : Change) (types : List (ℕ × ℕ)) (meaning : PartChange) : Type 0 where
  pub number : IfOk result (λ new. slice_get table.types new ≡ Some wanted)
  pub refused : IfErr result (λ fault. (fault ≡ Memory) ⊎ ((fault ≡ TooLarge) × (TYPE_NODES_LIMIT < type_nodes wanted)))
  pub held : IsTypeHeld table change types meaning

-- the same, with the limits as the logic states them
pub record IsMade (wanted : Nameless) (result : Result ℕ Fault) (terms : List Nameless) : Type 0 where
  pub number : IfOk result (λ new. slice_get terms new ≡ Some wanted)
  pub refused : IfErr result (λ fault. (fault ≡ Memory) ⊎ ((fault ≡ TooLarge) × (nameless_within_limits wanted ≡ false)))
