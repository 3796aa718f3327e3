-- Entries of maps after one more.
use Rattle.std.proofs.Common.{◌≡◌, ◌⊎◌, ℕ, zero, suc, List, [], ◌∷◌, Bool, true, false, refl, sym, ◌∙◌, ap, inl, inr, Some, if◌then◌else◌}
use Rattle.std.specs.Prelude.{slice_get}
use Rattle.indexmap.specs.IndexMap.{insert_entry}
use Rattle.hol_check_terms.specs.Entries.{IsEntry, HasOnlyAdded}

pub insert-added : {K V : Type 0} (e : K → K → Bool) → ((a b : K) → e a b ≡ true → a ≡ b) → (entries : List (K × V)) (key : K) (value : V) →
    HasOnlyAdded entries (insert_entry e entries key value) key value
insert-added {K} {V} e same [] key value other one (zero, there) = let pair : (key, value) ≡ (other, one) = cc in inr (sym (ap (λ (p : K × V). p.0) pair), sym (ap (λ (p : K × V). p.1) pair))
insert-added e same [] key value other one (suc i, there) = cc
insert-added {K} {V} e same (first ∷ rest) key value other one (i, there) = go (e key first.0) refl i there (insert-added e same rest key value other one)
  where
    go : (test : Bool) → e key first.0 ≡ test → (i : ℕ) → slice_get (if test then (first.0, value) ∷ rest else first ∷ insert_entry e rest key value) i ≡ Some (other, one)
        → (IsEntry (insert_entry e rest key value) other one → IsEntry rest other one ⊎ ((other ≡ key) × (one ≡ value)))
        → IsEntry (first ∷ rest) other one ⊎ ((other ≡ key) × (one ≡ value))
    go true is zero there deeper =
        let pair : (first.0, value) ≡ (other, one) = cc in
        inr (sym (ap (λ (p : K × V). p.0) pair) ∙ sym (same key first.0 is), sym (ap (λ (p : K × V). p.1) pair))
    go true is (suc i) there deeper = inl (suc i, there)
    go false is zero there deeper = inl (0, there)
    go false is (suc i) there deeper = elim (deeper (i, there)) [ inl early ↦ inl (suc early.0, early.1) | inr new ↦ inr new ]
