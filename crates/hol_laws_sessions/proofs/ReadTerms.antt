-- A text that is read as a term is read as one that has a type.
use Rattle.std.proofs.Common.{◌≡◌, ℕ, List, [], ◌∷◌, Bool, true, false, refl, Option, None, Some, Result, Ok, Err, if◌then◌else◌}
use Rattle.std.specs.Prelude.{is_some, codes}
use Rattle.hol_model.specs.declared.fault.Fault.{Fault}
use Rattle.hol_model.specs.declared.fault.Fault.TheVariants.{TooLarge, BadName, TypeMismatch, UnknownConst, NotInstance}
use Rattle.hol_model.specs.Terms.Name.{is_identifier, is_constant_name}
use Rattle.hol_model.specs.Terms.HolType.{HolType, is_instance}
use Rattle.hol_model.specs.Terms.NamedTerm.{NamedTerm, variable, constant, combination, abstraction, type_of, is_within_limits, equation}
use Rattle.hol_model.specs.Logic.Theory.{choice_name, choice_type}
use Rattle.hol_model.specs.Texts.Token.{token_text}
use Rattle.hol_model.specs.Texts.TermGrammar.{Infix, IffInfix, ImpliesInfix, OrInfix, AndInfix, EqualInfix, Binder, Lambda, ForAll, Exists, Choice, Atom, Bare, Variable, Constant, TermTree, Leaf}
use Rattle.hol_model.specs.Texts.TermGrammar.{Enclosed, Apply, Not, Join, Bind}
use Rattle.hol_model.specs.Texts.Reading.{Scope, ◌>>=◌, Bindings, bound_type, type_meaning, is_closed_type, named_variable, named_binding, constant_at, known_constant, declared_variable}
use Rattle.hol_model.specs.Texts.Reading.{bare_constant, bare_identifier, bare_name, atom_meaning, well_typed, connective_at, connective, negation, infix_term, truth_operation, join, bind}
use Rattle.hol_model.specs.Texts.Reading.{meaning}

-- the answer, if any, is a term with a type
abbrev GivesTyped : Result NamedTerm Fault → Type 0
GivesTyped (Ok term) = is_some (type_of term) ≡ true
GivesTyped (Err fault) = Unit {0}

typed-well_typed : (term : NamedTerm) → GivesTyped (well_typed term)
typed-well_typed term = go (is_some (type_of term)) refl (is_within_limits term)
  where
    go : (test : Bool) → is_some (type_of term) ≡ test → (fits : Bool) → GivesTyped (if test then (if fits then Ok term else Err TooLarge) else Err TypeMismatch)
    go true is true = is
    go true is false = tt
    go false is fits = tt

typed-connective : (scope : Scope) (name : List ℕ) (ty : HolType) (term : NamedTerm) → GivesTyped (connective scope name ty term)
typed-connective scope name ty term = go (scope.generic_type name)
  where
    go : (generic : Option HolType) → GivesTyped (connective_at generic ty term)
    go None = tt
    go (Some generic) = test (is_instance generic ty)
      where
        test : (fits : Bool) → GivesTyped (if fits then well_typed term else Err NotInstance)
        test true = typed-well_typed term
        test false = tt

typed-next : {A : Type 0} (read : Result A Fault) (next : A → Result NamedTerm Fault) → ((x : A) → GivesTyped (next x)) → GivesTyped (read >>= next)
typed-next (Ok x) next each = each x
typed-next (Err fault) next each = tt

typed-variable : (name : List ℕ) (ty : HolType) → GivesTyped (named_variable name ty)
typed-variable name ty = go (is_identifier name)
  where
    go : (test : Bool) → GivesTyped (if test then Ok (variable name ty) else Err BadName)
    go true = refl
    go false = tt

typed-constant_at : (generic : Option HolType) (name : List ℕ) (ty : HolType) → GivesTyped (constant_at generic name ty)
typed-constant_at None name ty = tt
typed-constant_at (Some generic) name ty = go (is_instance generic ty)
  where
    go : (test : Bool) → GivesTyped (if test then Ok (constant name ty) else Err NotInstance)
    go true = refl
    go false = tt

typed-known_constant : (scope : Scope) (name : List ℕ) (ty : HolType) → GivesTyped (known_constant scope name ty)
typed-known_constant scope name ty = go (is_constant_name name)
  where
    go : (test : Bool) → GivesTyped (if test then constant_at (scope.generic_type name) name ty else Err UnknownConst)
    go true = typed-constant_at (scope.generic_type name) name ty
    go false = tt

typed-declared : (found : Option HolType) (name : List ℕ) → GivesTyped (declared_variable found name)
typed-declared None name = tt
typed-declared (Some ty) name = refl

typed-bare_constant : (scope : Scope) (found : Option HolType) (name : List ℕ) → GivesTyped (bare_constant scope found name)
typed-bare_constant scope None name = typed-declared (scope.variable_type name) name
typed-bare_constant scope (Some generic) name = go (is_closed_type generic)
  where
    go : (test : Bool) → GivesTyped (if test then Ok (constant name generic) else declared_variable (scope.variable_type name) name)
    go true = refl
    go false = typed-declared (scope.variable_type name) name

typed-bare_identifier : (scope : Scope) (bound : Option HolType) (name : List ℕ) → GivesTyped (bare_identifier scope bound name)
typed-bare_identifier scope None name = typed-bare_constant scope (scope.generic_type name) name
typed-bare_identifier scope (Some ty) name = refl

typed-bare_name : (scope : Scope) (bound : Option HolType) (name : List ℕ) → GivesTyped (bare_name scope bound name)
typed-bare_name scope bound name = go (is_identifier name)
  where
    go : (test : Bool) → GivesTyped (if test then bare_identifier scope bound name else Err BadName)
    go true = typed-bare_identifier scope bound name
    go false = tt

typed-atom : (scope : Scope) (bindings : Bindings) (atom : Atom) → GivesTyped (atom_meaning scope bindings atom)
typed-atom scope bindings (Bare name) = typed-bare_name scope (bound_type bindings name) name
typed-atom scope bindings (Variable name tree) = typed-next (type_meaning scope tree) (named_variable name) (typed-variable name)
typed-atom scope bindings (Constant name tree) = typed-next (type_meaning scope tree) (known_constant scope (token_text name)) (typed-known_constant scope (token_text name))

typed-join : (scope : Scope) (infix' : Infix) (left right : NamedTerm) → GivesTyped (join scope infix' left right)
typed-join scope EqualInfix left right = typed-well_typed (equation left right)
typed-join scope IffInfix left right = typed-well_typed (infix_term (codes "=") truth_operation left right)
typed-join scope ImpliesInfix left right = typed-connective scope _ _ _
typed-join scope OrInfix left right = typed-connective scope _ _ _
typed-join scope AndInfix left right = typed-connective scope _ _ _

typed-bind : (scope : Scope) (binder : Binder) (name : List ℕ) (ty : HolType) (body : NamedTerm) → GivesTyped (bind scope binder name ty body)
typed-bind scope Lambda name ty body = typed-well_typed (abstraction name ty body)
typed-bind scope ForAll name ty body = typed-connective scope _ _ _
typed-bind scope Exists name ty body = typed-connective scope _ _ _
typed-bind scope Choice name ty body = typed-well_typed (combination (constant choice_name (choice_type ty)) (abstraction name ty body))

typed-meaning : (scope : Scope) (bindings : Bindings) (tree : TermTree) → GivesTyped (meaning scope bindings tree)
typed-meaning scope bindings (Leaf atom) = typed-atom scope bindings atom
typed-meaning scope bindings (Enclosed tree) = typed-meaning scope bindings tree
typed-meaning scope bindings (Apply function argument) =
    typed-next (meaning scope bindings function) (λ f. meaning scope bindings argument >>= λ a. well_typed (combination f a))
    (λ f. typed-next (meaning scope bindings argument) (λ a. well_typed (combination f a)) (λ a. typed-well_typed (combination f a)))
typed-meaning scope bindings (Not tree) = typed-next (meaning scope bindings tree) (negation scope) (λ term. typed-connective scope _ _ _)
typed-meaning scope bindings (Join infix' left right) =
    typed-next (meaning scope bindings left) (λ a. meaning scope bindings right >>= λ b. join scope infix' a b)
    (λ a. typed-next (meaning scope bindings right) (λ b. join scope infix' a b) (λ b. typed-join scope infix' a b))
typed-meaning scope bindings (Bind binder name tree body) =
    typed-next (type_meaning scope tree >>= named_binding name) (λ binding. meaning scope (binding ∷ bindings) body >>= λ term. bind scope binder binding.0 binding.1 term)
    (λ binding. typed-next (meaning scope (binding ∷ bindings) body) (λ term. bind scope binder binding.0 binding.1 term) (λ term. typed-bind scope binder binding.0 binding.1 term))

gives-typed : (answer : Result NamedTerm Fault) (term : NamedTerm) → answer ≡ Ok term → GivesTyped answer → is_some (type_of term) ≡ true
gives-typed (Ok other) term same typed = (let one : other ≡ term = cc in rw one at typed)
gives-typed (Err fault) term same typed = cc

pub read-typed : (scope : Scope) (tree : TermTree) (term : NamedTerm) → meaning scope [] tree ≡ Ok term → is_some (type_of term) ≡ true
read-typed scope tree term same = gives-typed (meaning scope [] tree) term same (typed-meaning scope [] tree)
