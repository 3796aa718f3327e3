-- What the trees of the grammar mean as types and terms, or the first refusal: from left to right, a node after its parts.
use Rattle.std.specs.Prelude.{ℕ, Bool, true, false, ◌&&◌, List, [], ◌∷◌, codes, if◌then◌else◌, Option, None, Some, Result, Ok, Err, is_some}
use Rattle.std.specs.Str.{bytes_eq}
use Rattle.hol_model.specs.declared.fault.Fault.{Fault}
use Rattle.hol_model.specs.declared.fault.Fault.TheVariants.{TooLarge, BadName, TypeMismatch, UnknownConst, NotInstance, UnknownName, UnknownType}
use Rattle.hol_model.specs.Terms.Name.{is_identifier, is_type_variable_name, is_declared_type_name, is_constant_name}
use Rattle.hol_model.specs.Terms.HolType.{HolType, type_variable, bool_type, function_type, declared_type, is_instance}
use Rattle.hol_model.specs.Terms.NamedTerm.{NamedTerm, variable, constant, combination, abstraction, type_of, type_fits, is_within_limits, equation}
use Rattle.hol_model.specs.Logic.Theory.{choice_name, choice_type}
use Rattle.hol_model.specs.Texts.Token.{token_text}
use Rattle.hol_model.specs.Texts.TypeGrammar.{TypeTree, Named, Enclosed, Function}
use Rattle.hol_model.specs.Texts.TermGrammar.{Infix, IffInfix, ImpliesInfix, OrInfix, AndInfix, EqualInfix, Binder, Lambda, ForAll, Exists, Choice, Atom, Bare, Variable, Constant, TermTree, Leaf}
use Rattle.hol_model.specs.Texts.TermGrammar.{Apply, Not, Join, Bind}
use Rattle.hol_model.specs.Texts.TermGrammar.{Enclosed as EnclosedTerm}

-- What the names of a text stand for: the constants with their generic types, the declared variables and the declared types.
pub record Scope : Type 0 where
  pub generic_type : List ℕ → Option HolType
  pub variable_type : List ℕ → Option HolType
  pub declares_type : List ℕ → Bool

infixl 10 ◌>>=◌
-- an answer goes on to a question, and a refusal stays
abbrev pub ◌>>=◌ : {A B : Type 0} → Result A Fault → (A → Result B Fault) → Result B Fault
(Ok x) >>= f = f x
(Err fault) >>= f = Err fault

-- the same without a refusal
abbrev pub and_then : {A B : Type 0} → Option A → (A → Option B) → Option B
and_then None f = None
and_then (Some x) f = f x

abbrev pub type_identified : Scope → List ℕ → Option HolType
type_identified scope name =
    if is_type_variable_name name then Some (type_variable name) else
    (if bytes_eq name (codes "bool") then Some bool_type else
    (if scope.declares_type name && is_declared_type_name name then Some (declared_type name) else None))

-- the type that a name stands for
abbrev pub type_named : Scope → List ℕ → Option HolType
type_named scope name = if is_identifier name then type_identified scope name else None

-- the type that is written, where each name in it is known
abbrev pub written_type : Scope → TypeTree → Option HolType
written_type scope (Named name) = type_named scope name
written_type scope (Enclosed tree) = written_type scope tree
written_type scope (Function left right) =
    and_then (written_type scope left) (λ domain. and_then (written_type scope right) (λ codomain. Some (function_type domain codomain)))

abbrev pub fitting_type : HolType → Result HolType Fault
fitting_type ty = if type_fits ty then Ok ty else Err TooLarge

abbrev pub known_type : Option HolType → Result HolType Fault
known_type None = Err UnknownType
known_type (Some ty) = fitting_type ty

-- what a tree means as a type: an unknown name anywhere in it is refused before its size
abbrev pub type_meaning : Scope → TypeTree → Result HolType Fault
type_meaning scope tree = known_type (written_type scope tree)

-- no type variable stands in the type
abbrev pub is_closed_type : HolType → Bool
is_closed_type (type_variable name) = false
is_closed_type bool_type = true
is_closed_type (function_type domain codomain) = is_closed_type domain && is_closed_type codomain
is_closed_type (declared_type name) = true

-- the variables of the binders round a place, the innermost first
abbrev pub Bindings : Type 0
Bindings = List (List ℕ × HolType)

-- the type of the innermost binder of the name
abbrev pub bound_type : Bindings → List ℕ → Option HolType
bound_type [] name = None
bound_type (binding ∷ bindings) name = if bytes_eq binding.0 name then Some binding.1 else bound_type bindings name

abbrev pub named_variable : List ℕ → HolType → Result NamedTerm Fault
named_variable name ty = if is_identifier name then Ok (variable name ty) else Err BadName

abbrev pub named_binding : List ℕ → HolType → Result (List ℕ × HolType) Fault
named_binding name ty = if is_identifier name then Ok (name, ty) else Err BadName

abbrev pub constant_at : Option HolType → List ℕ → HolType → Result NamedTerm Fault
constant_at None name ty = Err UnknownConst
constant_at (Some generic) name ty = if is_instance generic ty then Ok (constant name ty) else Err NotInstance

-- a known constant at an instance of its generic type
abbrev pub known_constant : Scope → List ℕ → HolType → Result NamedTerm Fault
known_constant scope name ty = if is_constant_name name then constant_at (scope.generic_type name) name ty else Err UnknownConst

abbrev pub declared_variable : Option HolType → List ℕ → Result NamedTerm Fault
declared_variable None name = Err UnknownName
declared_variable (Some ty) name = Ok (variable name ty)

abbrev pub bare_constant : Scope → Option HolType → List ℕ → Result NamedTerm Fault
bare_constant scope None name = declared_variable (scope.variable_type name) name
bare_constant scope (Some generic) name =
    if is_closed_type generic then Ok (constant name generic) else declared_variable (scope.variable_type name) name

abbrev pub bare_identifier : Scope → Option HolType → List ℕ → Result NamedTerm Fault
bare_identifier scope (Some ty) name = Ok (variable name ty)
bare_identifier scope None name = bare_constant scope (scope.generic_type name) name

-- the innermost binder of the name, else a constant without type variables, else a declared variable
abbrev pub bare_name : Scope → Option HolType → List ℕ → Result NamedTerm Fault
bare_name scope bound name = if is_identifier name then bare_identifier scope bound name else Err BadName

-- a variable with its type, and a constant with its type
abbrev pub variable_meaning : Scope → List ℕ → TypeTree → Result NamedTerm Fault
variable_meaning scope name tree = type_meaning scope tree >>= named_variable name

abbrev pub constant_meaning : Scope → List ℕ → TypeTree → Result NamedTerm Fault
constant_meaning scope name tree = type_meaning scope tree >>= known_constant scope name

abbrev pub atom_meaning : Scope → Bindings → Atom → Result NamedTerm Fault
atom_meaning scope bindings (Bare name) = bare_name scope (bound_type bindings name) name
atom_meaning scope bindings (Variable name tree) = variable_meaning scope name tree
atom_meaning scope bindings (Constant name tree) = constant_meaning scope (token_text name) tree

abbrev pub within_limits : NamedTerm → Result NamedTerm Fault
within_limits term = if is_within_limits term then Ok term else Err TooLarge

-- a term whose types fit, within the limits
abbrev pub well_typed : NamedTerm → Result NamedTerm Fault
well_typed term = if is_some (type_of term) then within_limits term else Err TypeMismatch

abbrev pub connective_at : Option HolType → HolType → NamedTerm → Result NamedTerm Fault
connective_at None ty term = Err UnknownConst
connective_at (Some generic) ty term = if is_instance generic ty then well_typed term else Err NotInstance

-- a term with a connective of this name and type, which has to be known
abbrev pub connective : Scope → List ℕ → HolType → NamedTerm → Result NamedTerm Fault
connective scope name ty term = connective_at (scope.generic_type name) ty term

-- the type of the connectives between truth values
abbrev pub truth_operation : HolType
truth_operation = function_type bool_type (function_type bool_type bool_type)

-- the type of a quantifier over a type
abbrev pub quantifier_type : HolType → HolType
quantifier_type ty = function_type (function_type ty bool_type) bool_type

abbrev pub infix_term : List ℕ → HolType → NamedTerm → NamedTerm → NamedTerm
infix_term name ty left right = combination (combination (constant name ty) left) right

abbrev pub negation : Scope → NamedTerm → Result NamedTerm Fault
negation scope term =
    let ty = function_type bool_type bool_type in connective scope (codes "~") ty (combination (constant (codes "~") ty) term)

-- two terms under an infix; `=` and `@` belong to the logic and are always known
abbrev pub join : Scope → Infix → NamedTerm → NamedTerm → Result NamedTerm Fault
join scope EqualInfix left right = well_typed (equation left right)
join scope IffInfix left right = well_typed (infix_term (codes "=") truth_operation left right)
join scope ImpliesInfix left right = connective scope (codes "==>") truth_operation (infix_term (codes "==>") truth_operation left right)
join scope OrInfix left right = connective scope (codes "\\/") truth_operation (infix_term (codes "\\/") truth_operation left right)
join scope AndInfix left right = connective scope (codes "/\\") truth_operation (infix_term (codes "/\\") truth_operation left right)

-- a term under a binder: the abstraction, or the binder's constant before it
abbrev pub bind : Scope → Binder → List ℕ → HolType → NamedTerm → Result NamedTerm Fault
bind scope Lambda name ty body = well_typed (abstraction name ty body)
bind scope ForAll name ty body =
    connective scope (codes "!") (quantifier_type ty) (combination (constant (codes "!") (quantifier_type ty)) (abstraction name ty body))
bind scope Exists name ty body =
    connective scope (codes "?") (quantifier_type ty) (combination (constant (codes "?") (quantifier_type ty)) (abstraction name ty body))
bind scope Choice name ty body = well_typed (combination (constant choice_name (choice_type ty)) (abstraction name ty body))

-- what a tree means as a term
abbrev pub meaning : Scope → Bindings → TermTree → Result NamedTerm Fault
meaning scope bindings (Leaf atom) = atom_meaning scope bindings atom
meaning scope bindings (EnclosedTerm tree) = meaning scope bindings tree
meaning scope bindings (Apply function argument) =
    meaning scope bindings function >>= λ f. meaning scope bindings argument >>= λ a. well_typed (combination f a)
meaning scope bindings (Not tree) = meaning scope bindings tree >>= λ term. negation scope term
meaning scope bindings (Join infix' left right) =
    meaning scope bindings left >>= λ a. meaning scope bindings right >>= λ b. join scope infix' a b
meaning scope bindings (Bind binder name tree body) =
    (type_meaning scope tree >>= named_binding name) >>= λ binding. meaning scope (binding ∷ bindings) body >>= λ term. bind scope binder binding.0 binding.1 term
