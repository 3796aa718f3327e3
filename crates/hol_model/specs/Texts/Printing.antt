-- The trees that types and terms are printed as.
use Rattle.std.specs.Prelude.{ℕ, ◌+◌, nat_le, List, ◌∷◌, codes, if◌then◌else◌, Option, None, Some}
use Rattle.std.specs.Str.{bytes_eq}
use Rattle.hol_model.specs.declared.symbol.Symbol.TheVariants.{Implies, And, Or, Equal, Exclamation, Question, At, Tilde}
use Rattle.hol_model.specs.Terms.Name.{is_identifier}
use Rattle.hol_model.specs.Terms.HolType.{HolType, type_variable, bool_type, function_type, declared_type, type_eq}
use Rattle.hol_model.specs.Terms.NamedTerm.{NamedTerm, variable, constant, combination, abstraction}
use Rattle.hol_model.specs.Texts.Token.{Token, Name, Mark}
use Rattle.hol_model.specs.Texts.TypeGrammar.{TypeTree, Named, Enclosed, Function}
use Rattle.hol_model.specs.Texts.TermGrammar.{Infix, IffInfix, ImpliesInfix, OrInfix, AndInfix, EqualInfix, Binder, Lambda, ForAll, Exists, Choice, Bare, Variable, Constant, TermTree, Leaf}
use Rattle.hol_model.specs.Texts.TermGrammar.{Apply, Not, Join, Bind, infix_level, level}
use Rattle.hol_model.specs.Texts.TermGrammar.{Enclosed as EnclosedTerm}
use Rattle.hol_model.specs.Texts.Reading.{Scope, Bindings, bound_type, is_closed_type}

-- what is printed left of an arrow
abbrev pub as_atom : TypeTree → TypeTree
as_atom (Function left right) = Enclosed (Function left right)
as_atom (Named name) = Named name
as_atom (Enclosed tree) = Enclosed tree

abbrev pub type_tree : HolType → TypeTree
type_tree (type_variable name) = Named name
type_tree bool_type = Named (codes "bool")
type_tree (function_type domain codomain) = Function (as_atom (type_tree domain)) (type_tree codomain)
type_tree (declared_type name) = Named name

-- in parentheses, unless of this level or above
abbrev pub enclose : ℕ → TermTree → TermTree
enclose n tree = if nat_le n (level tree) then tree else EnclosedTerm tree

abbrev pub variable_tree : Option HolType → List ℕ → HolType → TermTree
variable_tree None name ty = Leaf (Variable name (type_tree ty))
variable_tree (Some bound) name ty = if type_eq bound ty then Leaf (Bare name) else Leaf (Variable name (type_tree ty))

-- the token that names a constant
abbrev pub name_token : List ℕ → Token
name_token name =
    if is_identifier name then Name name else
    (if bytes_eq name (codes "=") then Mark Equal else
    (if bytes_eq name (codes "@") then Mark At else
    (if bytes_eq name (codes "/\\") then Mark And else
    (if bytes_eq name (codes "\\/") then Mark Or else
    (if bytes_eq name (codes "==>") then Mark Implies else
    (if bytes_eq name (codes "~") then Mark Tilde else
    (if bytes_eq name (codes "!") then Mark Exclamation else Mark Question)))))))

abbrev pub typed_constant : List ℕ → HolType → TermTree
typed_constant name ty = Leaf (Constant (name_token name) (type_tree ty))

abbrev pub bare_tree : Option HolType → Option HolType → List ℕ → HolType → TermTree
bare_tree (Some generic) None name ty = if is_closed_type generic then Leaf (Bare name) else typed_constant name ty
bare_tree _ _ name ty = typed_constant name ty

-- bare where that is an identifier of a constant without type variables that no binder hides
abbrev pub constant_tree : Scope → Bindings → List ℕ → HolType → TermTree
constant_tree scope bindings name ty =
    if is_identifier name then bare_tree (scope.generic_type name) (bound_type bindings name) name ty else typed_constant name ty

-- the infix that `=` is at its own type
abbrev pub equality_infix : HolType → Option Infix
equality_infix (function_type bool_type (function_type bool_type bool_type)) = Some IffInfix
equality_infix (function_type a (function_type b bool_type)) = if type_eq b a then Some EqualInfix else None
equality_infix _ = None

-- the infix, where the type is that of the connectives between truth values
abbrev pub truth_infix : HolType → Infix → Option Infix
truth_infix (function_type bool_type (function_type bool_type bool_type)) infix' = Some infix'
truth_infix _ infix' = None

-- the infix that a constant is at its own type
abbrev pub infix_of : List ℕ → HolType → Option Infix
infix_of name ty =
    if bytes_eq name (codes "=") then equality_infix ty else
    (if bytes_eq name (codes "==>") then truth_infix ty ImpliesInfix else
    (if bytes_eq name (codes "\\/") then truth_infix ty OrInfix else
    (if bytes_eq name (codes "/\\") then truth_infix ty AndInfix else None)))

-- What a constant is before one operand.
pub data Prefix : Type 0 where
  NotPrefix : Prefix
  BinderPrefix : Binder → Prefix
  NoPrefix : Prefix

abbrev pub negation_prefix : HolType → Prefix
negation_prefix (function_type bool_type bool_type) = NotPrefix
negation_prefix _ = NoPrefix

abbrev pub quantifier_prefix : HolType → Binder → Prefix
quantifier_prefix (function_type (function_type a bool_type) bool_type) binder = BinderPrefix binder
quantifier_prefix _ binder = NoPrefix

abbrev pub choice_prefix : HolType → Prefix
choice_prefix (function_type (function_type a bool_type) b) = if type_eq b a then BinderPrefix Choice else NoPrefix
choice_prefix _ = NoPrefix

abbrev pub prefix_of : List ℕ → HolType → Prefix
prefix_of name ty =
    if bytes_eq name (codes "~") then negation_prefix ty else
    (if bytes_eq name (codes "!") then quantifier_prefix ty ForAll else
    (if bytes_eq name (codes "?") then quantifier_prefix ty Exists else
    (if bytes_eq name (codes "@") then choice_prefix ty else NoPrefix)))

abbrev pub apply_tree : TermTree → TermTree → TermTree
apply_tree function argument = Apply (enclose 16 function) (enclose 20 argument)

-- a binder's form, where the operand is an abstraction
abbrev pub binder_tree : Binder → TermTree → TermTree → TermTree
binder_tree binder function (Bind Lambda name ty body) = Bind binder name ty body
binder_tree binder function argument = apply_tree function argument

abbrev pub prefix_tree : Prefix → TermTree → TermTree → TermTree
prefix_tree NotPrefix function argument = Not (enclose 14 argument)
prefix_tree (BinderPrefix binder) function argument = binder_tree binder function argument
prefix_tree NoPrefix function argument = apply_tree function argument

abbrev pub infix_tree : Option Infix → TermTree → TermTree → TermTree → TermTree
infix_tree (Some infix') function left right = Join infix' (enclose (infix_level infix' + 1) left) (enclose (infix_level infix') right)
infix_tree None function left right = apply_tree function right

-- what a term is printed as, under its binders
abbrev pub term_tree : Scope → Bindings → NamedTerm → TermTree
term_tree scope bindings (variable name ty) = variable_tree (bound_type bindings name) name ty
term_tree scope bindings (constant name ty) = constant_tree scope bindings name ty
term_tree scope bindings (abstraction name ty body) = Bind Lambda name (type_tree ty) (term_tree scope ((name, ty) ∷ bindings) body)
term_tree scope bindings (combination (constant name ty) a) =
    prefix_tree (prefix_of name ty) (constant_tree scope bindings name ty) (term_tree scope bindings a)
term_tree scope bindings (combination (combination (constant name ty) a) b) =
    infix_tree (infix_of name ty)
    (prefix_tree (prefix_of name ty) (constant_tree scope bindings name ty) (term_tree scope bindings a)) (term_tree scope bindings a) (term_tree scope bindings b)
term_tree scope bindings (combination f a) = apply_tree (term_tree scope bindings f) (term_tree scope bindings a)
