-- The body of a quantified formula under a new name for its variable.
use Rattle.std.specs.Prelude.{ℕ, List, if◌then◌else◌}
use Rattle.std.specs.Str.{bytes_eq}
use Rattle.hol_model.specs.Terms.NamedTerm.{variable}
use Rattle.hol_model.specs.Logic.NamedLogic.{Abstracted}
use Rattle.hol_model.specs.Derived.DerivedRules.{Conclusion, named, up_to_names, body_with}

-- where the variable keeps its name, the body itself; else up to the names of bound variables
abbrev pub renamed_body : Abstracted → List ℕ → Conclusion
renamed_body quantified name =
    if bytes_eq name quantified.name then named quantified.body else up_to_names (body_with quantified (variable name quantified.ty))
