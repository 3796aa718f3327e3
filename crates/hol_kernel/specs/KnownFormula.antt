-- Formulas that a theory knows.
use Rattle.std.specs.Prelude.{◌≡◌, true, Some}
use Rattle.hol_model.specs.Terms.HolType.{bool_type}
use Rattle.hol_model.specs.Terms.NamedTerm.{NamedTerm, type_of}
use Rattle.hol_model.specs.Logic.Theory.{Theory}
use Rattle.hol_model.specs.Logic.KnownTerm.{is_known}

-- a term of type `bool` whose types and constants the theory knows
pub record IsKnownFormula (theory : Theory) (term : NamedTerm) : Type 0 where
  pub known : is_known theory term ≡ true
  pub typed : type_of term ≡ Some bool_type
