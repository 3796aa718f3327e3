-- The types of terms, by numbers.
use Rattle.std.specs.Prelude.{◌≡◌, ◌⊎◌, ℕ, ◌<◌, List, [], ◌∷◌, true, false, Some, Result, slice_get, length, map, IfOk, IfErr}
use Rattle.hol_model.specs.declared.fault.Fault.{Fault}
use Rattle.hol_model.specs.declared.fault.Fault.TheVariants.{Memory, TooLarge}
use Rattle.hol_model.specs.Terms.HolType.{HolType}
use Rattle.hol_model.specs.Terms.Nameless.{Nameless, nameless_type}
use Rattle.hol_model.specs.Terms.Measures.{nameless_types_fit}
use Rattle.hol_check_terms.specs.Terms.{TermTable, type_at, term_at}
use Rattle.hol_check_terms.specs.Entries.{IsEntry}
use Rattle.hol_check_terms.specs.Typed.{IsTypedUnder}

-- the types of binders that have these numbers
abbrev pub binder_types : List HolType → List ℕ → List HolType
binder_types types binders = map (type_at types) binders

-- the numbers of binders are those of types
abbrev pub AreTypes : List HolType → List ℕ → Type 0
AreTypes types [] = Unit {0}
AreTypes types (ty ∷ binders) = (ty < length types) × AreTypes types binders

-- the number is that of the type of a term under the binders
pub record IsKnownTerm (table : TermTable) (binders : List ℕ) (number ty : ℕ) : Type 0 where
  pub within : number < length table.terms
  pub typed : IsTypedUnder (binder_types table.types binders) table.types (term_at table.terms number) ty

-- each entry is a term and its type under the binders, by their numbers
pub record AreKnown (table : TermTable) (binders : List ℕ) (entries : List (ℕ × ℕ)) : Type 0 where
  pub known : (number ty : ℕ) → IsEntry entries number ty → IsKnownTerm table binders number ty

-- the number is that of the term's type, and the type of each part is within the limit; only memory that is used up, or
-- the type of a part that is past the limit, refuses it
pub record AnswersTyping (binders : List HolType) (term : Nameless) (result : Result ℕ Fault) (types : List HolType) : Type 0 where
  pub number : IfOk result (λ ty. slice_get types ty ≡ Some (nameless_type binders term))
  pub fits : IfOk result (λ ty. nameless_types_fit binders term ≡ true)
  pub refused : IfErr result (λ fault. (fault ≡ Memory) ⊎ ((fault ≡ TooLarge) × (nameless_types_fit binders term ≡ false)))
