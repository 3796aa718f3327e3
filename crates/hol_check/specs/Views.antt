-- What a caller sees of the types and terms of claims.
use Rattle.std.specs.Prelude.{◌<◌, length}
use Rattle.hol_model.specs.Terms.HolType.{HolType, type_variable, bool_type, function_type, declared_type}
use Rattle.hol_model.specs.Terms.Nameless.{Nameless, free, const, bound, app, lam}
use Rattle.hol_check_terms.specs.Terms.{type_at, term_at}
use Rattle.hol_check.specs.declared.view.TypeView.TheInside as types
use Rattle.hol_check.specs.declared.view.TermView.TheInside as terms
use Rattle.hol_check.specs.declared.view.TypeParts.{TypeParts}
use Rattle.hol_check.specs.declared.view.TypeParts.TheVariants as type_parts
use Rattle.hol_check.specs.declared.view.TermParts.{TermParts}
use Rattle.hol_check.specs.declared.view.TermParts.TheVariants.{Free, Constant, Bound, Application, Abstraction}

abbrev pub viewed_type : types.Inside → HolType
viewed_type view = type_at view.table.now.types view.number

-- the number names a type
abbrev pub IsTypeView : types.Inside → Type 0
IsTypeView view = view.number < length view.table.now.types

abbrev pub viewed_term : terms.Inside → Nameless
viewed_term view = term_at view.table.now.terms view.number

-- the number names a term
abbrev pub IsTermView : terms.Inside → Type 0
IsTermView view = view.number < length view.table.now.terms

-- the type that is built like this
abbrev pub type_of_parts : TypeParts → HolType
type_of_parts (type_parts.Variable name) = type_variable name.now
type_of_parts type_parts.Boolean = bool_type
type_of_parts (type_parts.Function domain codomain) = function_type domain codomain
type_of_parts (type_parts.Declared name) = declared_type name.now

-- the term that is built like this
abbrev pub term_of_parts : TermParts → Nameless
term_of_parts (Free name ty) = free name.now ty
term_of_parts (Constant name ty) = const name.now ty
term_of_parts (Bound index) = bound index
term_of_parts (Application function argument) = app function argument
term_of_parts (Abstraction ty body) = lam ty body
