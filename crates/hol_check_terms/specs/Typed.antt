-- Types of terms that are kept.
use Rattle.std.specs.Prelude.{◌≡◌, ◌<◌, ℕ, List, true, Some, slice_get, length}
use Rattle.hol_model.specs.Terms.HolType.{HolType}
use Rattle.hol_model.specs.Terms.Nameless.{Nameless, nameless_type}
use Rattle.hol_model.specs.Terms.Measures.{nameless_types_fit}
use Rattle.hol_check_terms.specs.Terms.{term_at}
use Rattle.hol_check_terms.specs.Entries.{IsEntry}

-- the number is that of the term's type, where the binders around it have these types, and the type of each part is
-- within the limit
pub record IsTypedUnder (binders : List HolType) (types : List HolType) (term : Nameless) (ty : ℕ) : Type 0 where
  pub number : slice_get types ty ≡ Some (nameless_type binders term)
  pub fits : nameless_types_fit binders term ≡ true

-- the same under some binders
pub record IsTypedUnderSome (types : List HolType) (term : Nameless) (ty : ℕ) : Type 0 where
  pub binders : List HolType
  pub typed : IsTypedUnder binders types term ty

-- the same under any binders
abbrev pub IsTyped : List HolType → Nameless → ℕ → Type 0
IsTyped types term ty = (binders : List HolType) → IsTypedUnder binders types term ty

pub record IsTypedTerm (types : List HolType) (terms : List Nameless) (number ty : ℕ) : Type 0 where
  pub within : number < length terms
  pub typed : IsTyped types (term_at terms number) ty

-- each entry is a term and its type, by their numbers
abbrev pub AreTyped : List HolType → List Nameless → List (ℕ × ℕ) → Type 0
AreTyped types terms entries = (number ty : ℕ) → IsEntry entries number ty → IsTypedTerm types terms number ty
