-- Formulas that a theory knows, and their parts.
use Rattle.std.specs.Prelude.{◌≡◌, ◌⊎◌, ℕ, List, true, Some, None, Result, Err}
use Rattle.hol_model.specs.declared.fault.Fault.{Fault}
use Rattle.hol_model.specs.declared.fault.Fault.TheVariants.{Memory, NotBool}
use Rattle.hol_model.specs.Terms.HolType.{bool_type}
use Rattle.hol_model.specs.Terms.NamedTerm.{NamedTerm, type_of}
use Rattle.hol_model.specs.Terms.Nameless.{image}
use Rattle.hol_model.specs.Logic.Theory.{Theory, IsKnown}
use Rattle.hol_model.specs.Logic.NamedLogic.{connected, negation}
use Rattle.hol_model.specs.Kernel.Outcome.{unless, refused}
use Rattle.hol_model.specs.Kernel.Rules.{is_formula, first_unknown}
use Rattle.hol_model.specs.Derived.DerivedRules.{Stated}

-- the theory knows the term, which is of type `bool`
pub record IsFormula (theory : Theory) (term : NamedTerm) : Type 0 where
  pub typed : type_of term ≡ Some bool_type
  pub known : IsKnown theory (image term) bool_type

-- the formula is these two formulas under a binary connective
pub record AreSides (theory : Theory) (name : List ℕ) (term left right : NamedTerm) : Type 0 where
  pub is : term ≡ connected name left right
  pub left_formula : IsFormula theory left
  pub right_formula : IsFormula theory right

-- the formula is this formula under a negation
pub record IsNegated (theory : Theory) (term part : NamedTerm) : Type 0 where
  pub is : term ≡ negation part
  pub formula : IsFormula theory part

-- a term that comes in passes the tests of a formula
pub record IsPassed (theory : Theory) (term : NamedTerm) : Type 0 where
  pub is_formula : is_formula term ≡ true
  pub is_known : first_unknown theory term ≡ None
  pub formula : IsFormula theory term

-- there is no memory, or this is the refusal for a term that comes in
abbrev pub IsRefused : Theory → NamedTerm → Fault → Type 0
IsRefused theory term fault = (fault ≡ Memory) ⊎ ((next : Result Stated Fault) → unless (is_formula term) NotBool (refused (first_unknown theory term) next) ≡ Err fault)
