-- Where a variable may become free: the classes of the names of variables that may become it, or bring it.
use Rattle.std.specs.Prelude.{◌≡◌, ℕ, List, Bool, true, false, not, ◌&&◌, if◌then◌else◌, fold, Option, Some, None, bit_and, bit_or}
use Rattle.hol_model.specs.Terms.HolType.{HolType, type_put}
use Rattle.hol_model.specs.Terms.NamedTerm.{NamedTerm, Binder, is_free, same_variable}
use Rattle.hol_model.specs.Terms.Nameless.{binder_index}
use Rattle.hol_terms.specs.Classes.{class_of_name, have_common_class, classes_of_names}
use Rattle.hol_subst.specs.Entries.{Entry, looked_up}
use Rattle.hol_subst.specs.Occurrences.{IsFreeIn}
use Rattle.hol_subst.specs.VariableTypes.{admits, may_have}

-- the variable is free in no term that replaces a variable of a table and of another class, but for those that binders bind
pub record IsBroughtFrom (table : List ℕ → Option (List HolType)) (classes : ℕ) (env : List Entry) (binders : List Binder) (name : List ℕ) (ty : HolType) : Type 0 where
  pub absent : (other : List ℕ) (s : HolType) (term : NamedTerm) → admits (table other) s ≡ true → bit_and classes (class_of_name other) ≡ 0
      → binder_index binders other s ≡ None → looked_up env other s ≡ Some term → is_free name ty term ≡ false

-- the classes that are given, and those of the variables of a table that a list of pairs (new, old) replaces by terms in which the variable is free
abbrev pub classes_brought : (List ℕ → Option (List HolType)) → List ℕ → HolType → ℕ → List (NamedTerm × NamedTerm) → ℕ
classes_brought table name ty start theta =
    fold (λ bits (pair : NamedTerm × NamedTerm). if is_free name ty pair.0 && may_have table pair.1 then bit_or bits (classes_of_names pair.1) else bits) start theta

-- the variable is free in no term that replaces a variable of another class that is free in a term under binders
pub record IsBroughtBy (classes : ℕ) (env : List Entry) (binders : List Binder) (name : List ℕ) (ty : HolType) (term : NamedTerm) : Type 0 where
  pub absent : (other : List ℕ) (s : HolType) (new : NamedTerm) → IsFreeIn other s term → bit_and classes (class_of_name other) ≡ 0 → binder_index binders other s ≡ None
      → looked_up env other s ≡ Some new → is_free name ty new ≡ false

-- no variable of another class that is free in a term under binders becomes the variable where it is kept
pub record IsKeptIn (classes : ℕ) (types : List (HolType × HolType)) (binders : List Binder) (name : List ℕ) (ty : HolType) (term : NamedTerm) : Type 0 where
  pub differs : (other : List ℕ) (s : HolType) → IsFreeIn other s term → bit_and classes (class_of_name other) ≡ 0 → binder_index binders other s ≡ None
      → same_variable name ty other (type_put types s) ≡ false

-- no variable of either set of classes stands in the term
abbrev pub is_apart : ℕ → ℕ → NamedTerm → Bool
is_apart brought kept term = not (have_common_class (bit_or brought kept) (classes_of_names term))
