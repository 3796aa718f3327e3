-- What is known of the types of a term's variables, by their names.
use Rattle.std.specs.Prelude.{◌≡◌, ℕ, List, [], ◌∷◌, ◌++◌, Option, Some, None, Contains, Bool, true, false, if◌then◌else◌}
use Rattle.std.specs.List.{list_any}
use Rattle.std.specs.Option.{option_map}
use Rattle.std.specs.Str.{bytes_eq}
use Rattle.std.specs.declared.alloc.Global.{Global}
use Rattle.std.specs.declared.vec.Vec.{Vec}
use Rattle.indexmap.specs.IndexMap.{get_by_text}
use Rattle.hol_model.specs.Terms.HolType.{HolType, type_eq}
use Rattle.hol_model.specs.Terms.NamedTerm.{NamedTerm, variable, Binder}
use Rattle.hol_model.specs.Terms.Nameless.{binder_index}
use Rattle.hol_subst.specs.Occurrences.{IsFreeIn}
use Rattle.hol_subst.specs.declared.known_variables.KnownVariables.{KnownVariables, Listed, AndBound'}
use Rattle.hol_subst.specs.declared.variable_types.VariableTypes.{VariableTypes}

-- a name's variables may have the type: one of those that are known, or (`None`) any
abbrev pub Admits : Option (List HolType) → HolType → Type 0
Admits None ty = Unit {0}
Admits (Some known) ty = Contains known ty

-- the same as a test
abbrev pub admits : Option (List HolType) → HolType → Bool
admits None ty = true
admits (Some known) ty = list_any (type_eq ty) known

-- a table may have the variable that a term is
abbrev pub may_have : (List ℕ → Option (List HolType)) → NamedTerm → Bool
may_have table (variable name ty) = admits (table name) ty
may_have table _ = false

-- the second admits each type that the first does
pub record Widens (old new : Option (List HolType)) : Type 0 where
  pub kept : (ty : HolType) → Admits old ty → Admits new ty

-- a table from names to types has each variable that is free in a term
pub record HasVariables (table : List ℕ → Option (List HolType)) (term : NamedTerm) : Type 0 where
  pub has : (name : List ℕ) (ty : HolType) → IsFreeIn name ty term → Admits (table name) ty

-- the same, but for those that binders bind
pub record HasUnbound (table : List ℕ → Option (List HolType)) (binders : List Binder) (term : NamedTerm) : Type 0 where
  pub has : (name : List ℕ) (ty : HolType) → IsFreeIn name ty term → binder_index binders name ty ≡ None → Admits (table name) ty

-- what the first table has, the second has too
pub record Grows (old new : List ℕ → Option (List HolType)) : Type 0 where
  pub kept : (name : List ℕ) → Widens (old name) (new name)

-- the types that are kept for a name: of one that has none, no type
abbrev pub types_kept : Option (Option (Vec HolType Global)) → Option (List HolType)
types_kept None = Some []
types_kept (Some None) = None
types_kept (Some (Some known)) = Some known.items

-- the table of what is kept for each name
abbrev pub kept_types : (List ℕ → Option (Option (Vec HolType Global))) → List ℕ → Option (List HolType)
kept_types by_name name = types_kept (by_name name)

-- the table; where nothing is known, each name may have any type
abbrev pub table_of : VariableTypes → List ℕ → Option (List HolType)
table_of types name = if types.is_known then types_kept (get_by_text types.by_name name) else None

-- a table with one more type of a name
abbrev pub table_with : List ℕ → HolType → (List ℕ → Option (List HolType)) → List ℕ → Option (List HolType)
table_with name ty table other = if bytes_eq name other then option_map (λ known. known ++ ty ∷ []) (table other) else table other

-- the table of what is known
abbrev pub known_table : KnownVariables → List ℕ → Option (List HolType)
known_table (Listed types) = table_of types.now
known_table (AndBound' name ty p outer) = table_with name.now ty.now (known_table outer)
