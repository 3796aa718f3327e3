-- Tables of values with one number each, and how they grow.
use Rattle.std.proofs.Common.{◌≡◌, ◌⊎◌, ℕ, zero, suc, ◌+◌, ◌<◌, List, [], ◌∷◌, ◌++◌, length, get_or, Bool, true, false, refl, sym, ◌∙◌, ap, subst, inl, inr, Some, if◌then◌else◌, arith}
use Rattle.std.proofs.Common.{length-append, append_assoc, append-nil}
use Rattle.std.specs.Prelude.{slice_get}
use Rattle.std.specs.List.{IsDistinct, AllByRecursion}
use Rattle.std.proofs.lemmas.Map.Keys.{IsDistinct-head, IsDistinct-tail}
use Rattle.std.proofs.lemmas.Option.{slice_get-get_or, get_or_from_slice_get}
use Rattle.hol_check_terms.specs.Growth.{IsLonger}
use Rattle.indexmap.specs.IndexSet.{insert_key}
use Rattle.std.specs.List.{list_any}
use Rattle.hol_model.proofs.Tests.{first_of_neither, second_of_neither}
use Rattle.hol_check_terms.specs.Table.{values_after, HaveOneNumber, HoldsOfEach, IsPut}

-- places in lists

pub is_within : {X : Type 0} (xs : List X) (i : ℕ) (x : X) → slice_get xs i ≡ Some x → i < length xs
is_within [] i x there = cc
is_within (y ∷ xs) zero x there = omega arith
is_within (y ∷ xs) (suc i) x there = let deeper = is_within xs i x there in omega arith

pub slice_get-longer : {X : Type 0} (xs ys : List X) (i : ℕ) (x : X) → slice_get xs i ≡ Some x → slice_get (xs ++ ys) i ≡ Some x
slice_get-longer [] ys i x there = cc
slice_get-longer (y ∷ xs) ys zero x there = there
slice_get-longer (y ∷ xs) ys (suc i) x there = slice_get-longer xs ys i x there

pub slice_get-end : {X : Type 0} (xs ys : List X) (x : X) → slice_get (xs ++ x ∷ ys) (length xs) ≡ Some x
slice_get-end [] ys x = refl
slice_get-end (y ∷ xs) ys x = slice_get-end xs ys x

-- a place in a list with one more at its end
pub slice_get_cases : {X : Type 0} (xs : List X) (x : X) (i : ℕ) (y : X) → slice_get (xs ++ x ∷ []) i ≡ Some y → (slice_get xs i ≡ Some y) ⊎ ((i ≡ length xs) × (y ≡ x))
slice_get_cases [] x zero y there = let same : y ≡ x = cc in inr (refl, same)
slice_get_cases [] x (suc i) y there = cc
slice_get_cases (z ∷ xs) x zero y there = inl there
slice_get_cases (z ∷ xs) x (suc i) y there = elim (slice_get_cases xs x i y there) [ inl deeper ↦ inl deeper | inr last ↦ inr (ap suc last.0, last.1) ]

pub get_or-longer : {X : Type 0} (xs ys : List X) (i : ℕ) (d : X) → i < length xs → get_or (xs ++ ys) i d ≡ get_or xs i d
get_or-longer xs ys i d within = get_or_from_slice_get (xs ++ ys) i (get_or xs i d) d (slice_get-longer xs ys i (get_or xs i d) (slice_get-get_or xs i d within))

pub IsLonger-same : {X : Type 0} (xs : List X) → IsLonger xs xs
IsLonger-same xs = record { added = []; is_added = sym (append-nil xs) }

pub IsLonger-trans : {X : Type 0} (xs ys zs : List X) → IsLonger xs ys → IsLonger ys zs → IsLonger xs zs
IsLonger-trans xs ys zs first second = record {
  added = first.added ++ second.added;
  is_added = second.is_added ∙ (ap (λ l. l ++ second.added) first.is_added ∙ append_assoc xs first.added second.added);
}

pub within-later : {X : Type 0} (xs ys : List X) (i : ℕ) → IsLonger xs ys → i < length xs → i < length ys
within-later xs ys i longer within =
    let longest = length-append xs longer.added in
    let same : length ys ≡ length (xs ++ longer.added) = ap length longer.is_added in
    omega arith

-- keys that differ stand at one place

at_place : {X : Type 0} (P : X → Type 0) (xs : List X) (i : ℕ) (x : X) → AllByRecursion P xs → slice_get xs i ≡ Some x → P x
at_place P [] i x all there = cc
at_place P (y ∷ xs) zero x all there = let same : y ≡ x = cc in subst P same all.0
at_place P (y ∷ xs) (suc i) x all there = at_place P xs i x all.1 there

pub one_place : {X : Type 0} (e : X → X → Bool) → ((x y : X) → e x y ≡ e y x) → (xs : List X) (i j : ℕ) (x y : X) → IsDistinct e xs
    → slice_get xs i ≡ Some x → slice_get xs j ≡ Some y → e x y ≡ true → i ≡ j
one_place e flips [] i j x y distinct here there same = cc
one_place e flips (z ∷ xs) zero zero x y distinct here there same = refl
one_place e flips (z ∷ xs) zero (suc j) x y distinct here there same =
    let first : z ≡ x = cc in
    let differ : e z y ≡ false = at_place (λ w. e z w ≡ false) xs j y (IsDistinct-head e z xs distinct) there in
    let is : e z y ≡ true = subst (λ w. e w y ≡ true) (sym first) same in
    cc
one_place e flips (z ∷ xs) (suc i) zero x y distinct here there same =
    let first : z ≡ y = cc in
    let differ : e z x ≡ false = at_place (λ w. e z w ≡ false) xs i x (IsDistinct-head e z xs distinct) here in
    let is : e z x ≡ true = flips z x ∙ subst (λ w. e x w ≡ true) (sym first) same in
    cc
one_place e flips (z ∷ xs) (suc i) (suc j) x y distinct here there same = ap suc (one_place e flips xs i j x y (IsDistinct-tail e z xs distinct) here there same)

-- tables

module _ {Node Value : Type 0} (denote : List Value → Node → Value) where
  pub length-values_after : (earlier : List Value) (nodes : List Node) → length (values_after denote earlier nodes) ≡ length earlier + length nodes
  length-values_after earlier [] = omega arith
  length-values_after earlier (node ∷ rest) =
      let deeper = length-values_after (earlier ++ denote earlier node ∷ []) rest in
      let one = length-append earlier (denote earlier node ∷ []) in
      omega arith

  -- one more node denotes one more value
  pub values_after-push : (earlier : List Value) (nodes : List Node) (node : Node) →
      values_after denote earlier (nodes ++ node ∷ []) ≡ values_after denote earlier nodes ++ denote (values_after denote earlier nodes) node ∷ []
  values_after-push earlier [] node = refl
  values_after-push earlier (first ∷ rest) node = values_after-push (earlier ++ denote earlier first ∷ []) rest node

  pub values_after-longer : (earlier : List Value) (nodes : List Node) → IsLonger earlier (values_after denote earlier nodes)
  values_after-longer earlier [] = IsLonger-same earlier
  values_after-longer earlier (node ∷ rest) =
      IsLonger-trans earlier (earlier ++ denote earlier node ∷ []) _ (record { added = denote earlier node ∷ []; is_added = refl }) (values_after-longer (earlier ++ denote earlier node ∷ []) rest)

  module _ (IsPlaced : ℕ → Node → Type 0) (stable : (values more : List Value) (node : Node) → IsPlaced (length values) node → denote (values ++ more) node ≡ denote values node) where
    -- what stands at a node's place is what the node denotes among all values
    pub values_after-at : (earlier : List Value) (nodes : List Node) → ((i : ℕ) (node : Node) → slice_get nodes i ≡ Some node → IsPlaced (length earlier + i) node)
        → (i : ℕ) (node : Node) → slice_get nodes i ≡ Some node → slice_get (values_after denote earlier nodes) (length earlier + i) ≡ Some (denote (values_after denote earlier nodes) node)
    values_after-at earlier [] placed i node there = cc
    values_after-at earlier (first ∷ rest) placed zero node there =
        let same : first ≡ node = cc in
        let longer = values_after-longer (earlier ++ denote earlier first ∷ []) rest in
        let all : values_after denote (earlier ++ denote earlier first ∷ []) rest ≡ earlier ++ (denote earlier first ∷ longer.added) =
        longer.is_added ∙ append_assoc earlier (denote earlier first ∷ []) longer.added in
        let zero_more : length earlier + 0 ≡ length earlier = omega arith in
        let here : IsPlaced (length earlier) first = subst (λ n. IsPlaced n first) zero_more (placed 0 first refl) in
        let denoted = stable earlier (denote earlier first ∷ longer.added) first here in
        rw (zero_more, all) (slice_get-end earlier longer.added (denote earlier first) ∙ ap Some (sym denoted ∙ ap (denote (earlier ++ (denote earlier first ∷ longer.added))) same))
    values_after-at earlier (first ∷ rest) placed (suc i) node there =
        let one = length-append earlier (denote earlier first ∷ []) in
        let place : (k : ℕ) → length (earlier ++ denote earlier first ∷ []) + k ≡ length earlier + suc k = λ k. omega arith in
        subst (λ n. slice_get (values_after denote earlier (first ∷ rest)) n ≡ Some (denote (values_after denote earlier (first ∷ rest)) node)) (place i)
        (values_after-at (earlier ++ denote earlier first ∷ []) rest (λ k other at. subst (λ n. IsPlaced n other) (sym (place k)) (placed (suc k) other at)) i node there)

    -- the same for a whole table
    pub value_at : (nodes : List Node) → HoldsOfEach IsPlaced nodes → (i : ℕ) (node : Node) → slice_get nodes i ≡ Some node
        → slice_get (values_after denote [] nodes) i ≡ Some (denote (values_after denote [] nodes) node)
    value_at nodes placed i node there = subst (λ n. slice_get (values_after denote [] nodes) n ≡ Some (denote (values_after denote [] nodes) node)) (sym (zero_add i))
        (values_after-at [] nodes (λ k other at. subst (λ n. IsPlaced n other) (zero_add k) (placed k other at)) i node there)
      where
        zero_add : (k : ℕ) → k ≡ length {A = Value} [] + k
        zero_add k = omega arith

-- two ways to denote that agree on the nodes
pub values_after-same : {Node Value : Type 0} (first second : List Value → Node → Value) (earlier : List Value) (nodes : List Node)
    → ((place : ℕ) (node : Node) → slice_get nodes place ≡ Some node → (values : List Value) → first values node ≡ second values node) →
    values_after first earlier nodes ≡ values_after second earlier nodes
values_after-same first second earlier [] agree = refl
values_after-same first second earlier (node ∷ rest) agree =
    ap (λ v. values_after first (earlier ++ v ∷ []) rest) (agree 0 node refl earlier) ∙ values_after-same first second (earlier ++ second earlier node ∷ []) rest
    (λ place other there. agree (suc place) other there)

-- what a set puts in

not_there : {Node : Type 0} (e : Node → Node → Bool) (node : Node) (nodes : List Node) → e node node ≡ true → list_any (e node) nodes ≡ false → (place : ℕ) → ¬ (slice_get nodes place ≡ Some node)
not_there e node [] itself none place there = cc
not_there e node (first ∷ rest) itself none zero there =
    let same : first ≡ node = cc in
    let is : e node first ≡ true = subst (λ x. e node x ≡ true) (sym same) itself in
    let is_not : e node first ≡ false = first_of_neither (e node first) (list_any (e node) rest) none in
    cc
not_there e node (first ∷ rest) itself none (suc place) there = not_there e node rest itself (second_of_neither (e node first) (list_any (e node) rest) none) place there

pub put_by_insert : {Node : Type 0} (e : Node → Node → Bool) (node : Node) (earlier now : List Node) → now ≡ insert_key e earlier node → e node node ≡ true → IsPut node earlier now
put_by_insert {Node} e node earlier now is itself = record { put = go (list_any (e node) earlier) refl is }
  where
    go : (test : Bool) → list_any (e node) earlier ≡ test → now ≡ (if test then earlier else earlier ++ node ∷ []) →
        (now ≡ earlier) ⊎ ((now ≡ earlier ++ node ∷ []) × ((place : ℕ) → ¬ (slice_get earlier place ≡ Some node)))
    go true any is = inl is
    go false any is = inr (is, not_there e node earlier itself any)

pub stored_node : {Node : Type 0} (e : Node → Node → Bool) → ((a b : Node) → e a b ≡ true → a ≡ b) → (node : Node) (now : List Node) (number : ℕ)
    → (stored : Node) × (slice_get now number ≡ Some stored) × (e node stored ≡ true) → slice_get now number ≡ Some node
stored_node e same node now number found = found.1 ∙ ap Some (sym (same node found.0 found.2))

-- values with one number each, and a new one
pub distinct-push : {Value : Type 0} (values : List Value) (new : Value) → HaveOneNumber values → ((place : ℕ) → ¬ (slice_get values place ≡ Some new)) → HaveOneNumber (values ++ new ∷ [])
distinct-push values new distinct absent i j value here there =
    elim (slice_get_cases values new i value here) [
      | inl early_i ↦ (elim (slice_get_cases values new j value there) [ inl early_j ↦ distinct i j value early_i early_j | inr late_j ↦ absurd (absent i (early_i ∙ ap Some late_j.1)) ])
      | inr late_i ↦ (elim (slice_get_cases values new j value there) [ inl early_j ↦ absurd (absent j (early_j ∙ ap Some late_i.1)) | inr late_j ↦ late_i.0 ∙ sym late_j.0 ])
    ]
