-- Names that are not taken.
use Rattle.std.specs.Prelude.{◌≡◌, ℕ, List}
use Rattle.hol_model.specs.Terms.HolType.{HolType}
use Rattle.hol_model.specs.Terms.NamedTerm.{NamedTerm, variable}
use Rattle.hol_model.specs.Terms.Nameless.{Nameless}
use Rattle.hol_model.specs.Terms.Substitution.{occurs_free, IsFirstFree}

-- a name that no free variable of a term has at a type, with as few primes as may be
abbrev pub IsFreshName : Nameless → List ℕ → HolType → List ℕ → Type 0
IsFreshName term name ty fresh = IsFirstFree (λ other. occurs_free other ty term) name fresh

-- a variable of a type that is not free in a term, its name being another with as few primes as may be
pub record IsFreshBinder (term : Nameless) (name : List ℕ) (ty : HolType) (binder : NamedTerm) : Type 0 where
  pub fresh : List ℕ
  pub is_variable : binder ≡ variable fresh ty
  pub is_first_free : IsFreshName term name ty fresh
