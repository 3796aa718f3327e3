-- Closing a term without bound names over a variable, filling the place of a binder, and replacing free variables and
-- type variables. No bound name occurs, so nothing can be captured.
use Rattle.std.specs.Prelude.{◌≡◌, ◌⊎◌, ℕ, zero, suc, ◌<◌, List, [], ◌∷◌, ◌++◌, Bool, true, false, ◌||◌, if◌then◌else◌, nat_eq, Option, Some, None, find}
use Rattle.std.specs.List.{list_all, list_any}
use Rattle.std.specs.Option.{option_map_or}
use Rattle.hol_model.specs.Terms.HolType.{HolType, type_eq, TypeInstance, instantiate_type, OccursInType}
use Rattle.hol_model.specs.Terms.NamedTerm.{NamedTerm, variable, constant, combination, abstraction, same_variable, is_variable, is_free, type_of}
use Rattle.hol_model.specs.Terms.Nameless.{Nameless, free, const, bound, app, lam, HasType, image}

-- the variable becomes that of the binder outside the `passed` binders around the term
abbrev pub close_at : ℕ → List ℕ → HolType → Nameless → Nameless
close_at passed name ty (free other s) = if same_variable name ty other s then bound passed else free other s
close_at passed name ty (const other s) = const other s
close_at passed name ty (bound index) = bound index
close_at passed name ty (app function argument) = app (close_at passed name ty function) (close_at passed name ty argument)
close_at passed name ty (lam s body) = lam s (close_at (suc passed) name ty body)

-- the body of an abstraction over the variable
abbrev pub close : List ℕ → HolType → Nameless → Nameless
close name ty term = close_at zero name ty term

-- the variable of the binder outside the `passed` binders around the term is replaced by a closed term
abbrev pub fill_at : ℕ → Nameless → Nameless → Nameless
fill_at passed new (free name ty) = free name ty
fill_at passed new (const name ty) = const name ty
fill_at passed new (bound index) = if nat_eq index passed then new else bound index
fill_at passed new (app function argument) = app (fill_at passed new function) (fill_at passed new argument)
fill_at passed new (lam ty body) = lam ty (fill_at (suc passed) new body)

-- the body of an abstraction with a term in place of its variable
abbrev pub fill : Nameless → Nameless → Nameless
fill new body = fill_at zero new body

-- the terms that stand for free variables
abbrev pub TermInstance : Type 0
TermInstance = List ℕ → HolType → Nameless

-- each free variable replaced, all at once
abbrev pub put : TermInstance → Nameless → Nameless
put theta (free name ty) = theta name ty
put theta (const name ty) = const name ty
put theta (bound index) = bound index
put theta (app function argument) = app (put theta function) (put theta argument)
put theta (lam ty body) = lam ty (put theta body)

-- one variable replaced
abbrev pub only : List ℕ → HolType → Nameless → TermInstance
only name ty new other s = if same_variable name ty other s then new else free other s

-- one variable renamed at each free occurrence; binders keep their names, so one may capture the new name
abbrev pub with_new_name : List ℕ → HolType → List ℕ → NamedTerm → NamedTerm
with_new_name name ty fresh (variable other s) = variable (if same_variable name ty other s then fresh else other) s
with_new_name name ty fresh (constant other s) = constant other s
with_new_name name ty fresh (combination function argument) = combination (with_new_name name ty fresh function) (with_new_name name ty fresh argument)
with_new_name name ty fresh (abstraction other s body) = abstraction other s (if same_variable name ty other s then body else with_new_name name ty fresh body)

-- each type variable replaced in all types, all at once
abbrev pub instantiate : TypeInstance → Nameless → Nameless
instantiate tau (free name ty) = free name (instantiate_type tau ty)
instantiate tau (const name ty) = const name (instantiate_type tau ty)
instantiate tau (bound index) = bound index
instantiate tau (app function argument) = app (instantiate tau function) (instantiate tau argument)
instantiate tau (lam ty body) = lam (instantiate_type tau ty) (instantiate tau body)

-- the variable is free in a term
abbrev pub occurs_free : List ℕ → HolType → Nameless → Bool
occurs_free name ty (free other s) = same_variable name ty other s
occurs_free name ty (const other s) = false
occurs_free name ty (bound index) = false
occurs_free name ty (app function argument) = occurs_free name ty function || occurs_free name ty argument
occurs_free name ty (lam s body) = occurs_free name ty body

-- no variable is free in the term
abbrev pub HasNoFree : Nameless → Type 0
HasNoFree (free name ty) = ⊥
HasNoFree (const name ty) = Unit {0}
HasNoFree (bound index) = Unit {0}
HasNoFree (app function argument) = HasNoFree function × HasNoFree argument
HasNoFree (lam ty body) = HasNoFree body

-- the type variable stands in a type of the term
abbrev pub OccursInTerm : List ℕ → Nameless → Type 0
OccursInTerm name (free other ty) = OccursInType name ty
OccursInTerm name (const other ty) = OccursInType name ty
OccursInTerm name (bound index) = ⊥
OccursInTerm name (app function argument) = OccursInTerm name function ⊎ OccursInTerm name argument
OccursInTerm name (lam ty body) = OccursInType name ty ⊎ OccursInTerm name body

-- a term is the variable of this name and type
abbrev pub is_variable_named : List ℕ → HolType → NamedTerm → Bool
is_variable_named name ty (variable other s) = same_variable other s name ty
is_variable_named name ty _ = false

-- what a list of replacements (new, old) puts for a free variable: the first pair for it counts
abbrev pub replacement : List (NamedTerm × NamedTerm) → TermInstance
replacement theta name ty =
    option_map_or (λ pair. image pair.0) (find (λ pair. is_variable_named name ty pair.1) theta) (free name ty)

-- a term with its free variables replaced, all at once, by a list of replacements
abbrev pub put_all : List (NamedTerm × NamedTerm) → Nameless → Nameless
put_all theta term = put (replacement theta) term

-- every old part is a variable
abbrev pub replaces_variables : List (NamedTerm × NamedTerm) → Bool
replaces_variables theta = list_all (λ pair. is_variable pair.1) theta

-- two terms have types, and one type
abbrev pub same_type : Option HolType → Option HolType → Bool
same_type (Some a) (Some b) = type_eq a b
same_type (Some a) None = false
same_type None b = false

-- every new part has the type of its old one
abbrev pub keeps_types : List (NamedTerm × NamedTerm) → Bool
keeps_types theta = list_all (λ pair. same_type (type_of pair.0) (type_of pair.1)) theta

-- a name with so many primes at its end
abbrev pub primed : ℕ → List ℕ → List ℕ
primed zero name = name
primed (suc count) name = primed count name ++ 39 ∷ []

-- the variable of this name and type is free in some term of a list
abbrev pub is_free_in_some : List NamedTerm → List ℕ → HolType → Bool
is_free_in_some terms name ty = list_any (is_free name ty) terms

-- the first of a name, the name with a prime, with two primes and so on, that is not taken
pub record IsFirstFree (taken : List ℕ → Bool) (name fresh : List ℕ) : Type 0 where
  pub primes : ℕ
  pub is_primed : fresh ≡ primed primes name
  pub is_fresh : taken fresh ≡ false
  pub is_first : (fewer : ℕ) → fewer < primes → taken (primed fewer name) ≡ true

-- the first of the variables `v`, `v'`, `v''` .. that is free in no term of a list (`variant` of `fusion.ml`)
abbrev pub IsVariantOf : List NamedTerm → NamedTerm → NamedTerm → Type 0
IsVariantOf avoid (variable name ty) (variable fresh s) = IsFirstFree (λ other. is_free_in_some avoid other ty) name fresh × (s ≡ ty)
IsVariantOf avoid _ _ = ⊥

-- filling the place of a closed variable replaces the variable
abbrev pub FillUndoesClose : Type 0
FillUndoesClose = (name : List ℕ) (ty s : HolType) (new term : Nameless) → HasType [] term s → fill new (close name ty term) ≡ put (only name ty new) term
