-- Parts of a term whose type variables stand in a type.
use Rattle.std.specs.Prelude.{◌≡◌, ℕ, List, true}
use Rattle.hol_model.specs.Terms.HolType.{HolType}
use Rattle.hol_model.specs.Terms.Nameless.{Nameless}
use Rattle.hol_model.specs.Logic.Checks.{reflects_nameless}
use Rattle.hol_check_terms.specs.Terms.{term_at}
use Rattle.hol_check_terms.specs.Numbers.{IsNoted}

-- each type variable of the numbered terms stands in the type
abbrev pub AllReflect : List Nameless → HolType → List ℕ → Type 0
AllReflect terms whole numbers = (number : ℕ) → IsNoted numbers number → reflects_nameless whole (term_at terms number) ≡ true
