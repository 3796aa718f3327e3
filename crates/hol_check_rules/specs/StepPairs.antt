-- The pairs (new, old) of instances, by numbers.
use Rattle.std.specs.Prelude.{◌≡◌, ◌<◌, ℕ, List, map, true, false, Option, None, Some, length}
use Rattle.std.specs.List.{All}
use Rattle.std.proofs.Common.{Vec, Global}
use Rattle.hol_model.specs.Terms.HolType.{HolType}
use Rattle.hol_model.specs.Terms.Nameless.{Nameless}
use Rattle.hol_model.specs.Logs.LogState.{LogState, term_pairs_at, type_pairs_at}
use Rattle.hol_model.specs.Logs.LogFaults.{some_is_no_term, some_is_no_type}
use Rattle.hol_check_terms.specs.Terms.{type_at, term_at}
use Rattle.hol_check_changes.specs.Forming.{IsFitting}

abbrev pub term_pairs_in : List Nameless → List (ℕ × ℕ) → List (Nameless × Nameless)
term_pairs_in terms pairs = map (λ pair. (term_at terms pair.0, term_at terms pair.1)) pairs

abbrev pub type_pairs_in : List HolType → List (ℕ × ℕ) → List (HolType × HolType)
type_pairs_in types pairs = map (λ pair. (type_at types pair.0, type_at types pair.1)) pairs

-- both numbers are those of terms within the limits
pub record IsFittingPair (terms : List Nameless) (pair : ℕ × ℕ) : Type 0 where
  pub new : IsFitting terms pair.0
  pub old : IsFitting terms pair.1

-- both numbers are those of types
pub record IsTypePair (types : List HolType) (pair : ℕ × ℕ) : Type 0 where
  pub new : pair.0 < length types
  pub old : pair.1 < length types

-- the pairs of a line name pairs of the tables

pub record NamesTermPairs (state : LogState) (lines : List (ℕ × ℕ)) (terms : List Nameless) (pairs : List (ℕ × ℕ)) : Type 0 where
  pub are_there : some_is_no_term state lines ≡ false
  pub named : term_pairs_at state lines ≡ term_pairs_in terms pairs
  pub fitting : All (IsFittingPair terms) pairs

pub record NamesTypePairs (state : LogState) (lines : List (ℕ × ℕ)) (types : List HolType) (pairs : List (ℕ × ℕ)) : Type 0 where
  pub are_there : some_is_no_type state lines ≡ false
  pub named : type_pairs_at state lines ≡ type_pairs_in types pairs
  pub within : All (IsTypePair types) pairs

abbrev pub FindsTermPairs : LogState → List (ℕ × ℕ) → List Nameless → Option (Vec (ℕ × ℕ) Global) → Type 0
FindsTermPairs state lines terms None = some_is_no_term state lines ≡ true
FindsTermPairs state lines terms (Some pairs) = NamesTermPairs state lines terms pairs.items

abbrev pub FindsTypePairs : LogState → List (ℕ × ℕ) → List HolType → Option (Vec (ℕ × ℕ) Global) → Type 0
FindsTypePairs state lines types None = some_is_no_type state lines ≡ true
FindsTypePairs state lines types (Some pairs) = NamesTypePairs state lines types pairs.items
