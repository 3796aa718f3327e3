-- Terms in which variables are bound.
use Rattle.std.specs.Prelude.{Bool, true, false, ◌||◌}
use Rattle.hol_model.specs.Terms.NamedTerm.{NamedTerm, variable, constant, combination, abstraction}

-- an abstraction stands in the term
abbrev pub has_abstractions : NamedTerm → Bool
has_abstractions (variable name ty) = false
has_abstractions (constant name ty) = false
has_abstractions (combination function argument) = has_abstractions function || has_abstractions argument
has_abstractions (abstraction name ty body) = true
