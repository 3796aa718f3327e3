-- What a replacement may touch, told by the classes of names that terms keep.
use Rattle.std.specs.Prelude.{◌≡◌, ℕ, List, [], ◌∷◌, Bool, false, not, ◌&&◌, Some, None, bit_and}
use Rattle.std.specs.Coded.{Coded-set, coded_bool, coded_option}
use Rattle.hol_model.specs.Terms.HolType.{HolType, type_eq, type_put}
use Rattle.hol_model.specs.Terms.NamedTerm.{NamedTerm, variable, constant, combination, abstraction, is_free}
use Rattle.hol_model.specs.Terms.NamedTermCode.{term_code}
use Rattle.hol_types.specs.Variables as types_spec
use Rattle.hol_terms.specs.Classes.{class_of_name, have_common_class, classes_of_names}
use Rattle.hol_terms.specs.TypeVariables as terms_spec
use Rattle.hol_subst.specs.Entries.{Entry, looked_up}

-- the variable is free in no term that replaces another
pub record IsAbsent (env : List Entry) (name : List ℕ) (ty : HolType) : Type 0 where
  pub absent : (other : List ℕ) (s : HolType) (term : NamedTerm) → looked_up env other s ≡ Some term → is_free name ty term ≡ false

-- a variable of none of the first classes is kept, and one of none of the second is free in no new term
pub record Covers (old new : ℕ) (env : List Entry) : Type 0 where
  pub kept : (name : List ℕ) (ty : HolType) → bit_and old (class_of_name name) ≡ 0 → looked_up env name ty ≡ None
  pub absent : (name : List ℕ) (ty : HolType) → bit_and new (class_of_name name) ≡ 0 → IsAbsent env name ty

-- either fact has one proof
IsAbsent-prop : (env : List Entry) (name : List ℕ) (ty : HolType) → IsProp (IsAbsent env name ty)
IsAbsent-prop env name ty x y = λ i. record {
  absent = λ other s term looked. Coded-set coded_bool (is_free name ty term) false (x.absent other s term looked) (y.absent other s term looked) i;
}

pub Covers-prop : (old new : ℕ) (env : List Entry) → IsProp (Covers old new env)
Covers-prop old new env x y = λ i. record {
  kept = λ name ty apart. Coded-set (coded_option term_code) (looked_up env name ty) None (x.kept name ty apart) (y.kept name ty apart) i;
  absent = λ name ty apart. IsAbsent-prop env name ty (x.absent name ty apart) (y.absent name ty apart) i;
}

-- two lists of entries replace each variable alike
pub record ReplacesAlike (env other : List Entry) : Type 0 where
  pub alike : (name : List ℕ) (ty : HolType) → looked_up env name ty ≡ looked_up other name ty

-- a list of pairs (new, old) may change the type
abbrev pub changes_type : List (HolType × HolType) → HolType → Bool
changes_type [] ty = false
changes_type (pair ∷ rest) ty = types_spec.has_type_variables ty

-- a list of pairs (new, old) may change a type that the term is written with
abbrev pub changes_types : List (HolType × HolType) → NamedTerm → Bool
changes_types [] term = false
changes_types (pair ∷ rest) term = terms_spec.has_type_variables term

-- no variable of these classes and no type that changes stands in the term
abbrev pub stays : ℕ → List (HolType × HolType) → NamedTerm → Bool
stays old types term = not (have_common_class old (classes_of_names term)) && not (changes_types types term)

-- each type that the term is written with stays
abbrev pub keeps_all_types : List (HolType × HolType) → NamedTerm → Bool
keeps_all_types types (variable name ty) = type_eq ty (type_put types ty)
keeps_all_types types (constant name ty) = type_eq ty (type_put types ty)
keeps_all_types types (combination function argument) = keeps_all_types types function && keeps_all_types types argument
keeps_all_types types (abstraction name ty body) = type_eq ty (type_put types ty) && keeps_all_types types body
