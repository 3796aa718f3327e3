-- First-order matching: what is put for the type variables and the free variables of a pattern, so that it becomes a term.
use Rattle.std.specs.Prelude.{◌≡◌, ℕ, List, [], Bool, true, false, ◌&&◌, ◌||◌, Some, find}
use Rattle.std.specs.Str.{bytes_eq}
use Rattle.std.specs.List.{list_any}
use Rattle.hol_model.specs.Terms.HolType.{HolType, type_variable, bool_type, function_type, declared_type, type_eq, TypeInstance, instantiate_type, type_instance_of}
use Rattle.hol_model.specs.Terms.NamedTerm.{NamedTerm, variable, constant, combination, abstraction, type_of, equation}
use Rattle.hol_model.specs.Terms.Nameless.{Nameless, free, HasType, image}
use Rattle.hol_model.specs.Terms.Substitution.{TermInstance, put, instantiate, replacement, is_variable_named, occurs_free, OccursInTerm}
use Rattle.hol_model.specs.Logic.Derivable.{IsMember, nameless_equation}

-- the type variable stands in a type
abbrev pub stands_in_type : List ℕ → HolType → Bool
stands_in_type name (type_variable other) = bytes_eq name other
stands_in_type name bool_type = false
stands_in_type name (function_type domain codomain) = stands_in_type name domain || stands_in_type name codomain
stands_in_type name (declared_type other) = false

-- the type variable stands in the type of a variable
abbrev pub stands_in_variable : List ℕ → NamedTerm → Bool
stands_in_variable name (variable other ty) = stands_in_type name ty
stands_in_variable name _ = false

-- the variable of this name and type is one of those that stay
abbrev pub is_fixed : List NamedTerm → List ℕ → HolType → Bool
is_fixed fixed name ty = list_any (is_variable_named name ty) fixed

-- the type variable stands in the type of a variable that stays
abbrev pub is_fixed_type : List NamedTerm → List ℕ → Bool
is_fixed_type fixed name = list_any (stands_in_variable name) fixed

-- types and terms that may be put for type variables and variables: the terms have the types of the variables, so that no
-- variable of a binder is free in them, and nothing is put for the variables that stay and for the type variables in their
-- types
pub record MayBePut (fixed : List NamedTerm) (tau : TypeInstance) (theta : TermInstance) : Type 0 where
  pub typed : (name : List ℕ) (ty : HolType) → HasType [] (theta name ty) ty
  pub keeps_types : (name : List ℕ) → is_fixed_type fixed name ≡ true → tau name ≡ type_variable name
  pub keeps_variables : (name : List ℕ) (ty : HolType) → is_fixed fixed name ty ≡ true → theta name ty ≡ free name ty

-- with types put for its type variables, and then terms for its free variables, the pattern is the term
pub record IsMatch (fixed : List NamedTerm) (pattern term : NamedTerm) (tau : TypeInstance) (theta : TermInstance) : Type 0 where
  pub may_be_put : MayBePut fixed tau theta
  pub gives_term : put theta (instantiate tau (image pattern)) ≡ image term

-- the pattern matches the term in no way
abbrev pub HasNoMatch : List NamedTerm → NamedTerm → NamedTerm → Type 0
HasNoMatch fixed pattern term = (tau : TypeInstance) (theta : TermInstance) → IsMatch fixed pattern term tau theta → ⊥

-- a pair (new, old) puts a type for a type variable of the pattern, and is the first pair of a list that does
pub record PutsType (fixed : List NamedTerm) (pattern : NamedTerm) (types : List (HolType × HolType)) (pair : HolType × HolType) : Type 0 where
  pub name : List ℕ
  pub is_old : pair.1 ≡ type_variable name
  pub occurs : OccursInTerm name (image pattern)
  pub may_change : is_fixed_type fixed name ≡ false
  pub counts : find (λ other. type_eq other.1 (type_variable name)) types ≡ Some pair

-- a pair (new, old) puts a term for a free variable of the pattern with its types put in, and is the first pair of a list
-- that does
pub record PutsTerm (fixed : List NamedTerm) (pattern : NamedTerm) (tau : TypeInstance) (terms : List (NamedTerm × NamedTerm)) (pair : NamedTerm × NamedTerm) : Type 0 where
  pub name : List ℕ
  pub ty : HolType
  pub is_old : pair.1 ≡ variable name ty
  pub is_typed : type_of pair.0 ≡ Some ty
  pub occurs : occurs_free name ty (instantiate tau (image pattern)) ≡ true
  pub may_change : is_fixed fixed name ty ≡ false
  pub counts : find (λ other. is_variable_named name ty other.1) terms ≡ Some pair

-- lists of pairs (new, old) are a match, and have pairs for variables of the pattern alone
pub record Matches (fixed : List NamedTerm) (pattern term : NamedTerm) (types : List (HolType × HolType)) (terms : List (NamedTerm × NamedTerm)) : Type 0 where
  pub is_match : IsMatch fixed pattern term (type_instance_of types) (replacement terms)
  pub puts_types : (pair : HolType × HolType) → IsMember pair types → PutsType fixed pattern types pair
  pub puts_terms : (pair : NamedTerm × NamedTerm) → IsMember pair terms → PutsTerm fixed pattern (type_instance_of types) terms pair

-- a pattern fits a term, types aside: it is a variable, or both are constants of one name, combinations whose parts fit, or
-- abstractions
abbrev pub fits : NamedTerm → NamedTerm → Bool
fits (variable name ty) term = true
fits (constant name ty) (constant other s) = bytes_eq name other
fits (combination function argument) (combination other_function other_argument) = fits function other_function && fits argument other_argument
fits (abstraction name ty body) (abstraction other s other_body) = true
fits _ _ = false

-- a pattern that matches fits
abbrev pub MatchingPatternsFit : Type 0
MatchingPatternsFit = (fixed : List NamedTerm) (pattern term : NamedTerm) (tau : TypeInstance) (theta : TermInstance)
    → IsMatch fixed pattern term tau theta → fits pattern term ≡ true

-- two matches put the same types for the type variables of the pattern, and the same terms for its free variables
pub record AgreeOn (pattern : NamedTerm) (tau rho : TypeInstance) (theta eta : TermInstance) : Type 0 where
  pub same_types : (name : List ℕ) → OccursInTerm name (image pattern) → tau name ≡ rho name
  pub same_terms : (name : List ℕ) (ty : HolType) → occurs_free name ty (instantiate tau (image pattern)) ≡ true → theta name ty ≡ eta name ty

abbrev pub MatchesAgree : Type 0
MatchesAgree = (fixed : List NamedTerm) (pattern term : NamedTerm) (tau rho : TypeInstance) (theta eta : TermInstance)
    → IsMatch fixed pattern term tau theta → IsMatch fixed pattern term rho eta → AgreeOn pattern tau rho theta eta

-- where the left side of an equation matches, the equation with the types put in and then the terms has the term on its left
abbrev pub EquationsMatch : Type 0
EquationsMatch = (fixed : List NamedTerm) (left right term : NamedTerm) (ty : HolType) (tau : TypeInstance) (theta : TermInstance)
    → IsMatch fixed left term tau theta → type_of left ≡ Some ty
    → put theta (instantiate tau (image (equation left right))) ≡ nameless_equation (instantiate_type tau ty) (image term) (put theta (instantiate tau (image right)))

-- a term whose free variables all stay has its types put in, and keeps its variables
abbrev pub FixedVariablesStay : Type 0
FixedVariablesStay = (fixed : List NamedTerm) (tau : TypeInstance) (theta : TermInstance) → MayBePut fixed tau theta
    → (term : Nameless) → ((name : List ℕ) (ty : HolType) → occurs_free name ty term ≡ true → is_fixed fixed name ty ≡ true)
    → put theta (instantiate tau term) ≡ instantiate tau term
