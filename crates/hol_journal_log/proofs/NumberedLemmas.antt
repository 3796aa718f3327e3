-- The place of an entry among distinct ones.
use Rattle.std.proofs.Common.{◌≡◌, ℕ, zero, suc, ◌+◌, ◌<◌, ◌≤◌, List, [], ◌∷◌, ◌++◌, length, get_or, true, false, sym, ◌∙◌, ap, subst, nat_eq, slice_get, Some, arith}
use Rattle.std.specs.List.{list_any, IsDistinct, AllByRecursion}
use Rattle.std.proofs.lemmas.Cmp.{nat_eq_equiv}
use Rattle.std.proofs.lemmas.List.Sums.{position_or_len_is}
use Rattle.std.proofs.lemmas.Map.Keys.{IsDistinct-head, IsDistinct-tail, IsDistinct-push}
use Rattle.hol_journal_log.specs.LogWriting.{theorem_number}

-- what holds of each item holds of the one at a place
at_place : (P : ℕ → Type 0) (items : List ℕ) (place item : ℕ) → AllByRecursion P items → slice_get items place ≡ Some item → P item
at_place P [] place item all there = cc
at_place P (first ∷ items) zero item all there = let same : first ≡ item = cc in subst P same all.0
at_place P (first ∷ items) (suc place) item all there = at_place P items place item all.1 there

pub number_there : (entries : List ℕ) (place entry : ℕ) → IsDistinct nat_eq entries → slice_get entries place ≡ Some entry → theorem_number entries entry ≡ place
number_there [] place entry distinct there = cc
number_there (first ∷ entries) zero entry distinct there =
    let same : first ≡ entry = cc in
    let is : nat_eq entry first ≡ true = subst (λ n. nat_eq entry n ≡ true) (sym same) (nat_eq_equiv.refl entry) in
    rw is
number_there (first ∷ entries) (suc place) entry distinct there =
    let differ : nat_eq first entry ≡ false = at_place (λ n. nat_eq first n ≡ false) entries place entry (IsDistinct-head nat_eq first entries distinct) there in
    let is : nat_eq entry first ≡ false = nat_eq_equiv.symm entry first ∙ differ in
    let later : theorem_number entries entry ≡ place = number_there entries place entry (IsDistinct-tail nat_eq first entries distinct) there in
    let more : 1 + theorem_number entries entry ≡ suc place = omega arith in
    rw is more

-- as a test of the item at a place finds it
pub tested_there : (entries read theorems : List ℕ) (place other entry : ℕ) → entries ≡ theorems → IsDistinct nat_eq entries → read ≡ entries → slice_get read place ≡ Some other → other ≡ entry
    → place ≡ theorem_number theorems entry
tested_there entries read theorems place other entry viewed distinct is there same =
    let here : slice_get entries place ≡ Some entry = ap (λ items. slice_get items place) (sym is) ∙ there ∙ ap Some same in
    sym (number_there entries place entry distinct here) ∙ ap (λ items. theorem_number items entry) viewed

pub pushed_distinct : (old new : List ℕ) (entry : ℕ) → IsDistinct nat_eq old → list_any (nat_eq entry) old ≡ false → new ≡ old ++ entry ∷ [] → IsDistinct nat_eq new
pushed_distinct old new entry distinct absent longer = subst (IsDistinct nat_eq) (sym longer) (IsDistinct-push nat_eq_equiv old entry distinct absent)

pub none_distinct : (entries : List ℕ) → entries ≡ [] → IsDistinct nat_eq entries
unfolding IsDistinct
none_distinct entries none = subst (IsDistinct nat_eq) (sym none) tt

-- no entry before this place is the one that is looked for
abbrev pub IsNotBefore : List ℕ → ℕ → ℕ → Type 0
IsNotBefore entries entry place = (before : ℕ) → before < place → nat_eq entry (get_or entries before 0) ≡ false

pub found_first : (entries : List ℕ) (entry place : ℕ) → IsNotBefore entries entry place → place < length entries → get_or entries place 0 ≡ entry → place ≡ theorem_number entries entry
found_first entries entry place before within is =
    let passes : nat_eq entry (get_or entries place 0) ≡ true = subst (λ n. nat_eq entry n ≡ true) (sym is) (nat_eq_equiv.refl entry) in
    sym (position_or_len_is (λ other. nat_eq entry other) entries place 0 (omega (arith, within)) before (λ _. passes))

pub found_nowhere : (entries : List ℕ) (entry place : ℕ) → IsNotBefore entries entry place → length entries ≤ place → length entries ≡ theorem_number entries entry
found_nowhere entries entry place before past =
    sym (position_or_len_is (λ other. nat_eq entry other) entries (length entries) 0 (omega arith) (λ k low. before k (omega (arith, past, low))) (λ low. let no : ⊥ = omega (arith, low) in absurd no))
