-- Lemmas on the names in a table.
use Rattle.std.proofs.Common.{◌≡◌, ℕ, zero, suc, ◌<◌, List, [], ◌∷◌, length, map, get_or, Contains, Bool, true, false, ◌||◌, refl, sym, ap, ◌∙◌, arith, Option, Some, None, IfSome, IfNone}
use Rattle.std.specs.Option.{is_some}
use Rattle.std.proofs.lemmas.List.{get_or-map, length-map}
use Rattle.std.specs.Str.{bytes_eq}
use Rattle.std.proofs.lemmas.Slice.Eq.{bytes_eq-Decides}
use Rattle.hol_host.specs.Host.{is_listed, IsPlace}

-- what f makes of the item at i stands at i
pub record StandsAt {Y : Type 0} (ys : List Y) (i : ℕ) (y : Y) : Type 0 where
  pub within : i < length ys
  pub there : (d : Y) → get_or ys i d ≡ y

pub map-at : {X Y : Type 0} (f : X → Y) (xs seen : List X) (i : ℕ) (x : X) → seen ≡ xs → i < length seen → x ≡ get_or seen i x → StandsAt (map f xs) i (f x)
map-at f xs seen i x same within is = record {
  within = (let e = ap length same in let l = length-map xs f in omega (arith, e, l));
  there = λ d. (let e = ap length same in get_or-map f xs i x d (omega (arith, e))) ∙ ap (λ l. f (get_or l i x)) (sym same) ∙ ap f (sym is);
}

either-true : (b : Bool) → (b || true) ≡ true
either-true true = refl
either-true false = refl

pub listed_at : (names : List (List ℕ)) (name : List ℕ) (place : ℕ) → IsPlace names name place → is_listed name names ≡ true
listed_at [] name place at = let within = at.0 in absurd (omega (arith, within))
listed_at (first ∷ names) name zero at = let same : bytes_eq name first ≡ true = (bytes_eq-Decides name first).1 (sym at.1) in rw same refl
listed_at (first ∷ names) name (suc place) at =
    let within = at.0 in
    let later : is_listed name names ≡ true = listed_at names name place (omega (arith, within), at.1) in
    rw later (either-true (bytes_eq name first))

pub not_listed : (names : List (List ℕ)) (name : List ℕ) → (Contains names name → ⊥) → is_listed name names ≡ false
not_listed [] name none = refl
not_listed (first ∷ names) name none = go (bytes_eq name first) refl (not_listed names name)
  where
    go : (test : Bool) → bytes_eq name first ≡ test → ((Contains names name → ⊥) → is_listed name names ≡ false) → (test || is_listed name names) ≡ false
    go true is later = absurd (none (0, omega arith, sym ((bytes_eq-Decides name first).0 is)))
    go false is later = later (λ there. let within = there.1 in none (suc there.0, omega (arith, within), there.2))

-- whether a place was found tells whether the name is listed
pub listed_where_found : (names : List (List ℕ)) (name : List ℕ) (found : Option ℕ) → IfSome found (λ place. IsPlace names name place)
    → IfNone found (Contains names name → ⊥) → is_some found ≡ is_listed name names
listed_where_found names name (Some place) there none = sym (listed_at names name place there)
listed_where_found names name None there none = sym (not_listed names name none)
