-- What the makers of terms answer.
use Rattle.std.specs.Prelude.{ℕ, List, Bool, true, false, not, Option, None, Some, Result, Ok, Err, if◌then◌else◌}
use Rattle.hol_model.specs.declared.fault.Fault.{Fault}
use Rattle.hol_model.specs.declared.fault.Fault.TheVariants.{TooLarge}
use Rattle.std.specs.Str.{bytes_eq}
use Rattle.hol_model.specs.Terms.HolType.{HolType, type_variable, bool_type, function_type, declared_type, type_eq, part_at}
use Rattle.hol_model.specs.Terms.NamedTerm.{NamedTerm, variable, constant, type_fits}

-- the variable of a binding
abbrev pub binding_variable : List ℕ × HolType → NamedTerm
binding_variable binding = variable binding.0 binding.1

-- a constant of a type within the limit
abbrev pub limited_constant : List ℕ → HolType → Result NamedTerm Fault
limited_constant name ty = if type_fits ty then Ok (constant name ty) else Err TooLarge

-- what a type variable stands for already, if for anything, is `bool`
abbrev pub allows_truth : Option HolType → Bool
allows_truth None = true
allows_truth (Some ty) = type_eq ty bool_type

-- a part of a generic type can stand for `bool` where the first part stands for the type
abbrev pub fits_truth : HolType → HolType → HolType → Bool
fits_truth first ty (type_variable name) = allows_truth (part_at first ty name)
fits_truth first ty bool_type = true
fits_truth first ty (function_type a b) = false
fits_truth first ty (declared_type name) = false

-- the same where the type variable stands for a function type
abbrev pub is_truth_apart : List ℕ → HolType → Bool
is_truth_apart name (type_variable other) = not (bytes_eq name other)
is_truth_apart name bool_type = true
is_truth_apart name (function_type a b) = false
is_truth_apart name (declared_type other) = false
