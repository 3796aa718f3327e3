-- Tautologies that come in, and their denials.
use Rattle.std.specs.Prelude.{◌≡◌, None}
use Rattle.hol_model.specs.Terms.NamedTerm.{NamedTerm, equation}
use Rattle.hol_model.specs.Logic.NamedLogic.{false_term}
use Rattle.hol_model.specs.Logic.Theory.{Theory}
use Rattle.hol_model.specs.Propositional.Propositions.{atoms_of}
use Rattle.hol_model.specs.Propositional.Tautologies.{falsity_of}
use Rattle.hol_equal.specs.Formulas.{IsFormula, IsPassed}
use Rattle.hol_taut.specs.declared.denied.Denied.{Denied}

-- the term passes the tests of a tautology, and these are its denial and its atoms
pub record IsDenied (theory : Theory) (term : NamedTerm) (denied : Denied) : Type 0 where
  pub passed : IsPassed theory term
  pub accepted : falsity_of term ≡ None
  pub denial : denied.denial ≡ equation term false_term
  pub denies : IsFormula theory denied.denial
  pub atoms : denied.atoms.items ≡ atoms_of term
