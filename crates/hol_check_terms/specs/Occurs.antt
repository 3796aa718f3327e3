-- Parts of a term in which a variable is not free.
use Rattle.std.specs.Prelude.{◌≡◌, ℕ, List, Bool, false, Result, IfOk}
use Rattle.hol_model.specs.declared.fault.Fault.{Fault}
use Rattle.hol_model.specs.Terms.HolType.{HolType}
use Rattle.hol_model.specs.Terms.Nameless.{Nameless}
use Rattle.hol_model.specs.Terms.Substitution.{occurs_free}
use Rattle.hol_check_terms.specs.Terms.{term_at}
use Rattle.hol_check_terms.specs.Numbers.{IsNoted}

-- the variable is free in none of the numbered terms
abbrev pub AreAbsent : List Nameless → List ℕ → HolType → List ℕ → Type 0
AreAbsent terms name ty numbers = (number : ℕ) → IsNoted numbers number → occurs_free name ty (term_at terms number) ≡ false

pub record IsSearched (name : List ℕ) (ty : HolType) (term : Nameless) (result : Result Bool Fault) (terms : List Nameless) (numbers : List ℕ) : Type 0 where
  pub found : IfOk result (λ occurs. occurs ≡ occurs_free name ty term)
  pub absent : AreAbsent terms name ty numbers
