-- Names with one number each.
use Rattle.std.proofs.Common.{◌≡◌, ℕ, zero, suc, ◌<◌, List, [], ◌∷◌, length, map, get_or, true, refl, sym, ◌∙◌, ap, subst, Some, arith}
use Rattle.std.specs.Prelude.{slice_get, nat_eq}
use Rattle.std.specs.Option.{option_map}
use Rattle.std.specs.Str.{bytes_eq}
use Rattle.std.specs.List.{IsDistinct}
use Rattle.std.proofs.lemmas.Bool.{eqb-true, eq-eqb}
use Rattle.std.proofs.lemmas.Option.{slice_get-map, slice_get-get_or}
use Rattle.std.proofs.lemmas.List.{get_or-map, length-map}
use Rattle.std.proofs.lemmas.Slice.Eq.{bytes_eq-Decides}
use Rattle.hol_model.proofs.Tests.{same_answer}
use Rattle.hol_check_terms.specs.Table.{HaveOneNumber}
use Rattle.hol_check_terms.proofs.TableLemmas.{one_place}

bytes_eq-flips : (a b : List ℕ) → bytes_eq a b ≡ bytes_eq b a
bytes_eq-flips a b = same_answer (bytes_eq a b) (bytes_eq b a) (turn a b) (turn b a)
  where
    turn : (a b : List ℕ) → bytes_eq a b ≡ true → bytes_eq b a ≡ true
    turn a b same = (bytes_eq-Decides b a).1 (sym ((bytes_eq-Decides a b).0 same))

-- the numbers of names tell them apart
module _ {Key : Type 0} (name_of : Key → List ℕ) where
  pub same_number-same_name : (keys : List Key) → IsDistinct (λ a b. bytes_eq (name_of a) (name_of b)) keys → (i j : ℕ) → i < length (map name_of keys) → j < length (map name_of keys)
      → nat_eq i j ≡ bytes_eq (get_or (map name_of keys) i []) (get_or (map name_of keys) j [])
  same_number-same_name [] distinct i j first second = absurd (nothing_below i first)
    where
      nothing_below : (n : ℕ) → n < 0 → ⊥
      nothing_below n less = omega arith
  same_number-same_name (key ∷ keys) distinct i j first second =
      let all = key ∷ keys in
      let i_within : i < length all = subst (λ n. i < n) (length-map all name_of) first in
      let j_within : j < length all = subst (λ n. j < n) (length-map all name_of) second in
      let here = get_or-map name_of all i key [] i_within in
      let there = get_or-map name_of all j key [] j_within in
      rw (here, there)
      (same_answer (nat_eq i j) (bytes_eq (name_of (get_or all i key)) (name_of (get_or all j key)))
      (λ same. (bytes_eq-Decides _ _).1 (ap (λ n. name_of (get_or all n key)) (eqb-true i j same)))
      (λ same. eq-eqb i j (one_place (λ a b. bytes_eq (name_of a) (name_of b)) (λ a b. bytes_eq-flips (name_of a) (name_of b)) all i j _ _ distinct (slice_get-get_or all i key i_within)
      (slice_get-get_or all j key j_within) same)))

  -- the place of a name that was put in
  pub stored_name : (keys : List Key) (n : ℕ) (key stored : Key) (name : List ℕ) → slice_get keys n ≡ Some stored → bytes_eq (name_of key) (name_of stored) ≡ true → name_of key ≡ name →
      slice_get (map name_of keys) n ≡ Some name
  stored_name keys n key stored name there same is = slice_get-map name_of keys n ∙ (ap (option_map name_of) there ∙ ap Some (sym ((bytes_eq-Decides (name_of key) (name_of stored)).0 same) ∙ is))

  -- no name stands at two places
  pub distinct_names : (keys : List Key) → IsDistinct (λ a b. bytes_eq (name_of a) (name_of b)) keys → HaveOneNumber (map name_of keys)
  distinct_names keys distinct i j name here there =
      let first = keyed keys i name here in
      let second = keyed keys j name there in
      one_place (λ a b. bytes_eq (name_of a) (name_of b)) (λ a b. bytes_eq-flips (name_of a) (name_of b)) keys i j first.0 second.0 distinct first.1 second.1
      ((bytes_eq-Decides _ _).1 (sym first.2 ∙ second.2))
    where
      keyed : (keys : List Key) (i : ℕ) (name : List ℕ) → slice_get (map name_of keys) i ≡ Some name → (key : Key) × (slice_get keys i ≡ Some key) × (name ≡ name_of key)
      keyed [] i name there = cc
      keyed (key ∷ keys) zero name there = let same : name_of key ≡ name = cc in (key, refl, sym same)
      keyed (key ∷ keys) (suc i) name there = keyed keys i name there
