-- Numbers keep what they name while the tables grow.
use Rattle.std.proofs.Common.{◌≡◌, ℕ, ◌<◌, List, ◌++◌, length, ◌∙◌, ap, Some, arith, length-append}
use Rattle.std.proofs.lemmas.Option.{get_or_from_slice_get}
use Rattle.std.specs.Prelude.{slice_get}
use Rattle.hol_model.specs.Terms.HolType.{HolType, bool_type}
use Rattle.hol_model.specs.Terms.Nameless.{Nameless, bound}
use Rattle.hol_check_terms.specs.Growth.{IsLonger}
use Rattle.hol_check_terms.specs.Terms.{type_at, TermTable, term_at, IsGrown}
use Rattle.hol_check_terms.proofs.TableLemmas.{slice_get-longer, get_or-longer, IsLonger-trans}

pub type-within : (types now : List HolType) (n : ℕ) → IsLonger types now → n < length types → n < length now
type-within types now n longer within =
    let longest = length-append types longer.added in
    let same : length now ≡ length (types ++ longer.added) = ap length longer.is_added in
    omega arith

pub type-grown : (types now : List HolType) (n : ℕ) → IsLonger types now → n < length types → type_at now n ≡ type_at types n
type-grown types now n longer within = ap (λ l. type_at l n) longer.is_added ∙ get_or-longer types longer.added n bool_type within

pub type-place : (types now : List HolType) (n : ℕ) (ty : HolType) → IsLonger types now → slice_get types n ≡ Some ty → slice_get now n ≡ Some ty
type-place types now n ty longer there = ap (λ l. slice_get l n) longer.is_added ∙ slice_get-longer types longer.added n ty there

pub type-there : (types : List HolType) (n : ℕ) (ty : HolType) → slice_get types n ≡ Some ty → type_at types n ≡ ty
type-there types n ty there = get_or_from_slice_get types n ty bool_type there

pub within-grown : (earlier now : TermTable) (n : ℕ) → IsGrown earlier now → n < length earlier.terms → n < length now.terms
within-grown earlier now n grown within =
    let longer = length-append earlier.terms grown.terms.added in
    let same : length now.terms ≡ length (earlier.terms ++ grown.terms.added) = ap length grown.terms.is_added in
    omega arith

pub term-grown : (earlier now : TermTable) (n : ℕ) → IsGrown earlier now → n < length earlier.terms → term_at now.terms n ≡ term_at earlier.terms n
term-grown earlier now n grown within = ap (λ l. term_at l n) grown.terms.is_added ∙ get_or-longer earlier.terms grown.terms.added n (bound 0) within

pub place-grown : (earlier now : TermTable) (n : ℕ) (t : Nameless) → IsGrown earlier now → slice_get earlier.terms n ≡ Some t → slice_get now.terms n ≡ Some t
place-grown earlier now n t grown there = ap (λ l. slice_get l n) grown.terms.is_added ∙ slice_get-longer earlier.terms grown.terms.added n t there

pub term-there : (terms : List Nameless) (n : ℕ) (t : Nameless) → slice_get terms n ≡ Some t → term_at terms n ≡ t
term-there terms n t there = get_or_from_slice_get terms n t (bound 0) there

pub IsGrown-trans : (first second third : TermTable) → IsGrown first second → IsGrown second third → IsGrown first third
IsGrown-trans first second third p q = record {
  names = IsLonger-trans first.names second.names third.names p.names q.names;
  types = IsLonger-trans first.types second.types third.types p.types q.types;
  terms = IsLonger-trans first.terms second.terms third.terms p.terms q.terms;
}
