-- The outcome of each constructor of types and terms: what it makes, or the first refusal that applies.
use Rattle.std.specs.Prelude.{ℕ, List, Result, Ok, is_some}
use Rattle.hol_model.specs.declared.fault.Fault.{Fault}
use Rattle.hol_model.specs.declared.fault.Fault.TheVariants.{TooLarge, BadName, TypeMismatch, NotVariable}
use Rattle.hol_model.specs.Terms.HolType.{HolType, type_variable, function_type, declared_type, replaces_type_variables, type_put}
use Rattle.hol_model.specs.Terms.NamedTerm.{NamedTerm, variable, constant, combination, equation, type_of, type_fits}
use Rattle.hol_model.specs.Terms.Name.{is_type_variable_name, is_declared_type_name, is_identifier, is_constant_name}
use Rattle.hol_model.specs.Kernel.Outcome.{unless}
use Rattle.hol_model.specs.Kernel.Rules.{limited}

-- the type, where it is within the limit
abbrev pub limited_type : HolType → Result HolType Fault
limited_type ty = unless (type_fits ty) TooLarge (Ok ty)

-- a type variable
abbrev pub type_variable_outcome : List ℕ → Result HolType Fault
type_variable_outcome name = unless (is_type_variable_name name) BadName (Ok (type_variable name))

-- a declared type
abbrev pub declared_type_outcome : List ℕ → Result HolType Fault
declared_type_outcome name = unless (is_declared_type_name name) BadName (Ok (declared_type name))

-- a function type
abbrev pub function_type_outcome : HolType → HolType → Result HolType Fault
function_type_outcome domain codomain = limited_type (function_type domain codomain)

-- a type with its type variables replaced by a list of pairs (new, old)
abbrev pub type_subst_outcome : List (HolType × HolType) → HolType → Result HolType Fault
type_subst_outcome theta ty =
    unless (replaces_type_variables theta) NotVariable
    (limited_type (type_put theta ty))

-- a variable
abbrev pub variable_outcome : List ℕ → HolType → Result NamedTerm Fault
variable_outcome name ty = unless (is_identifier name) BadName (Ok (variable name ty))

-- a constant
abbrev pub constant_outcome : List ℕ → HolType → Result NamedTerm Fault
constant_outcome name ty = unless (is_constant_name name) BadName (Ok (constant name ty))

-- a term whose parts have fitting types, within the limits
abbrev pub typed_outcome : NamedTerm → Result NamedTerm Fault
typed_outcome term =
    unless (is_some (type_of term)) TypeMismatch
    (limited term)

-- a function applied to an argument
abbrev pub combination_outcome : NamedTerm → NamedTerm → Result NamedTerm Fault
combination_outcome function argument = typed_outcome (combination function argument)

-- an equation
abbrev pub equation_outcome : NamedTerm → NamedTerm → Result NamedTerm Fault
equation_outcome left right = typed_outcome (equation left right)
