-- The place of a term among ordered hypotheses: how a search finds it, and what stands before and behind it.
use Rattle.std.proofs.Common.{◌≡◌, ℕ, zero, suc, ◌+◌, ◌<◌, ◌≤◌, List, [], ◌∷◌, ◌++◌, length, take, drop, get_or, refl, sym, ◌∙◌, ap, if◌then◌else◌, not, arith, add-one, append_assoc}
use Rattle.std.specs.Prelude.{Result, Ok, Err, Some, None, IfSome}
use Rattle.std.specs.Option.{option_map}
use Rattle.std.specs.Result.{result_err}
use Rattle.std.specs.Ordering.{ordering_index, is_eq}
use Rattle.std.specs.List.Sorted.{IsBinarySearchResult, IsNonDecreasingBy, IsPartitionPoint, IsSearchInRange}
use Rattle.std.specs.declared.cmp.Ordering.{Ordering}
use Rattle.std.specs.declared.cmp.Ordering.TheVariants.{Less, Equal, Greater}
use Rattle.hol_model.specs.Terms.NamedTerm.{NamedTerm}
use Rattle.hol_model.specs.Terms.Nameless.{image, nameless_cmp}
use Rattle.hol_model.specs.Kernel.Theorem.{IsBefore, AreOrdered, by_order, with_hypothesis, with_hypotheses, without_hypothesis}
use Rattle.hol_model.proofs.Terms.Orders.{same_from_nameless_cmp}
use Rattle.hol_model.proofs.Terms.TotalOrders.{nameless_cmp-IsOrder}
use Rattle.hol_kernel.proofs.HypothesesLemmas.{drop-here}
use Rattle.hol_kernel.proofs.OrderLemmas.{reversed, before-rest, before-same, ordered-drop, in_front, merge-same, merge-after}
use Rattle.hol_kernel.specs.Place.{place_of, place_in, one_further, IsNewPut, IsOldPut}

-- how a hypothesis compares with a term
abbrev compared : NamedTerm → NamedTerm → Ordering
compared term hypothesis = nameless_cmp (image hypothesis) (image term)

-- what stands before a list stands before each of it
before-each : (x : NamedTerm) (xs : List NamedTerm) → IsBefore x xs → AreOrdered xs → (index : ℕ) (d : NamedTerm) → index < length xs → nameless_cmp (image x) (image (get_or xs index d)) ≡ Less
before-each x [] before ordered index d within = absurd (omega (arith, within))
before-each x (y ∷ ys) before ordered zero d within = before
before-each x (y ∷ ys) before ordered (suc index) d within = before-each x ys (before-rest x y ys before ordered.0) ordered.1 index d (omega (arith, within))

-- what stands before a hypothesis compares with any term no higher than that
no_higher : (term x y : NamedTerm) → nameless_cmp (image x) (image y) ≡ Less → ordering_index (compared term x) ≤ ordering_index (compared term y)
no_higher term x y before = go (compared term y) refl
  where
    go : (order : Ordering) → compared term y ≡ order → ordering_index (compared term x) ≤ ordering_index order
    go Less is = rw (nameless_cmp-IsOrder.total.trans (image x) (image y) (image term) before is) (omega arith)
    go Equal is = rw (← same_from_nameless_cmp (image y) (image term) is, before) (omega arith)
    go Greater is = highest (compared term x)
      where
        highest : (o : Ordering) → ordering_index o ≤ 2
        highest Less = omega arith
        highest Equal = omega arith
        highest Greater = omega arith

ranks_rise : (term : NamedTerm) (xs : List NamedTerm) → AreOrdered xs → IsNonDecreasingBy (λ y. ordering_index (compared term y)) xs
ranks_rise term [] ordered i j d up within = absurd (omega (arith, within))
ranks_rise term (x ∷ xs) ordered zero zero d up within = omega arith
ranks_rise term (x ∷ xs) ordered zero (suc j) d up within = no_higher term x (get_or xs j d) (before-each x xs ordered.0 ordered.1 j d (omega (arith, within)))
ranks_rise term (x ∷ xs) ordered (suc i) zero d up within = absurd (omega (arith, up))
ranks_rise term (x ∷ xs) ordered (suc i) (suc j) d up within = ranks_rise term xs ordered.1 i j d (omega (arith, up)) (omega (arith, within))

place-there : (xs : List NamedTerm) (term : NamedTerm) (index : ℕ) → AreOrdered xs → index < length xs → ((d : NamedTerm) → compared term (get_or xs index d) ≡ Equal) → place_in xs term ≡ Ok index
place-there [] term index ordered within there = absurd (omega (arith, within))
place-there (x ∷ xs) term zero ordered within there =
    ap (λ o. by_order o (Err 0) (Ok 0) (one_further (place_in xs term))) (reversed (image x) (image term) Equal (there x))
place-there (x ∷ xs) term (suc index) ordered within there =
    let less : nameless_cmp (image x) (image term) ≡ Less =
    ap (nameless_cmp (image x)) (sym (same_from_nameless_cmp (image (get_or xs index x)) (image term) (there x))) ∙ before-each x xs ordered.0 ordered.1 index x (omega (arith, within)) in
    ap (λ o. by_order o (Err 0) (Ok 0) (one_further (place_in xs term))) (reversed (image x) (image term) Less less)
    ∙ ap one_further (place-there xs term index ordered.1 (omega (arith, within)) there)

place-between : (xs : List NamedTerm) (term : NamedTerm) (index : ℕ) → index ≤ length xs
    → IsPartitionPoint (λ y. compared term y ≡ Less) (λ y. compared term y ≡ Greater) xs index → place_in xs term ≡ Err index
place-between [] term zero within parted = refl
place-between [] term (suc index) within parted = absurd (omega (arith, within))
place-between (x ∷ xs) term zero within parted =
    ap (λ o. by_order o (Err 0) (Ok 0) (one_further (place_in xs term))) (reversed (image x) (image term) Greater (parted.1 0 x (omega arith) (omega arith)))
place-between (x ∷ xs) term (suc index) within parted =
    ap (λ o. by_order o (Err 0) (Ok 0) (one_further (place_in xs term))) (reversed (image x) (image term) Less (parted.0 0 x (omega arith) (omega arith)))
    ∙ ap one_further (place-between xs term index (omega (arith, within))
    (λ k d low high. parted.0 (suc k) d (omega arith) (omega (arith, high)), λ k d low high. parted.1 (suc k) d (omega (arith, low)) (omega (arith, high))))

-- what a search by halves answers is the place
pub place-searched : (xs : List NamedTerm) (term : NamedTerm) (result : Result ℕ ℕ) → AreOrdered xs → IsSearchInRange result (length xs)
    → IsBinarySearchResult (λ y. nameless_cmp (image y) (image term)) xs result → result ≡ place_in xs term
place-searched xs term (Ok index) ordered within found = sym (place-there xs term index ordered within found)
place-searched xs term (Err index) ordered within found = sym (place-between xs term index within (found (ranks_rise term xs ordered)))

-- where a new hypothesis belongs
pub place_of-place : (xs : List NamedTerm) (new : NamedTerm) → place_of xs new ≡ result_err (place_in xs new)
place_of-place [] new = refl
place_of-place (x ∷ xs) new = go (nameless_cmp (image new) (image x)) (place_in xs new) (place_of-place xs new)
  where
    go : (order : Ordering) (place : Result ℕ ℕ) → place_of xs new ≡ result_err place
        → by_order order (Some 0) None (option_map suc (place_of xs new)) ≡ result_err (by_order order (Err 0) (Ok 0) (one_further place))
    go Less place h = refl
    go Equal place h = refl
    go Greater (Ok index) h = ap (option_map suc) h
    go Greater (Err index) h = ap (option_map suc) h

pub place_of-within : (result : Result ℕ ℕ) (n : ℕ) → IsSearchInRange result n → IfSome (result_err result) (λ index. index ≤ n)
place_of-within (Ok index) n within = tt
place_of-within (Err index) n within = within

-- one more of a list, put in its place
pub added-more : (terms : List NamedTerm) (index : ℕ) (all : List NamedTerm) (new : NamedTerm) (after : List NamedTerm) → index < length terms → new ≡ get_or terms index new
    → with_hypotheses all (drop index terms) ≡ with_hypotheses [] terms → after ≡ with_hypothesis all new → with_hypotheses after (drop (index + 1) terms) ≡ with_hypotheses [] terms
added-more terms index all new after within is reached added =
    ap (λ l. with_hypotheses l (drop (index + 1) terms)) added ∙ ap (with_hypotheses all) (sym (drop-here terms index new within is)) ∙ reached

-- without a term

-- none of what stands behind a term is left out
none_left_out : (term : NamedTerm) (xs : List NamedTerm) → IsBefore term xs → AreOrdered xs → without_hypothesis term xs ≡ xs
none_left_out term [] before ordered = refl
none_left_out term (x ∷ xs) before ordered =
    ap (λ o. if not (is_eq o) then x ∷ without_hypothesis term xs else without_hypothesis term xs) (reversed (image term) (image x) Less before)
    ∙ ap (λ l. x ∷ l) (none_left_out term xs (before-rest term x xs before ordered.0) ordered.1)

-- the hypotheses without the one at a place
abbrev left_out : List NamedTerm → Result ℕ ℕ → List NamedTerm
left_out xs (Ok index) = take index xs ++ drop (suc index) xs
left_out xs (Err index) = xs

without_hypothesis-place : (term : NamedTerm) (xs : List NamedTerm) → AreOrdered xs → without_hypothesis term xs ≡ left_out xs (place_in xs term)
without_hypothesis-place term [] ordered = refl
without_hypothesis-place term (x ∷ xs) ordered = go (nameless_cmp (image term) (image x)) refl (place_in xs term) (without_hypothesis-place term xs ordered.1)
  where
    go : (order : Ordering) → nameless_cmp (image term) (image x) ≡ order → (place : Result ℕ ℕ) → without_hypothesis term xs ≡ left_out xs place
        → without_hypothesis term (x ∷ xs) ≡ left_out (x ∷ xs) (by_order order (Err 0) (Ok 0) (one_further place))
    go Less is place h = none_left_out term (x ∷ xs) is ordered
    go Equal is place h =
        ap (λ o. if not (is_eq o) then x ∷ without_hypothesis term xs else without_hypothesis term xs) (reversed (image term) (image x) Equal is)
        ∙ none_left_out term xs (before-same term x xs is ordered.0) ordered.1
    go Greater is (Ok index) h =
        ap (λ o. if not (is_eq o) then x ∷ without_hypothesis term xs else without_hypothesis term xs) (reversed (image term) (image x) Greater is) ∙ ap (λ l. x ∷ l) h
    go Greater is (Err index) h =
        ap (λ o. if not (is_eq o) then x ∷ without_hypothesis term xs else without_hypothesis term xs) (reversed (image term) (image x) Greater is) ∙ ap (λ l. x ∷ l) h

pub without_hypothesis-there : (term : NamedTerm) (xs : List NamedTerm) (index : ℕ) → AreOrdered xs → Ok index ≡ place_in xs term → without_hypothesis term xs ≡ take index xs ++ drop (index + 1) xs
without_hypothesis-there term xs index ordered there = rw add-one (without_hypothesis-place term xs ordered ∙ ap (left_out xs) (sym there))

pub without_hypothesis-absent : (term : NamedTerm) (xs : List NamedTerm) (index : ℕ) → AreOrdered xs → Err index ≡ place_in xs term → without_hypothesis term xs ≡ xs
without_hypothesis-absent term xs index ordered absent = without_hypothesis-place term xs ordered ∙ ap (left_out xs) (sym absent)

-- with a new hypothesis, and more behind it

abbrev with_new : List NamedTerm → NamedTerm → List NamedTerm → Result ℕ ℕ → List NamedTerm
with_new xs new more (Ok index) = take (suc index) xs ++ with_hypotheses (drop (suc index) xs) more
with_new xs new more (Err index) = take index xs ++ new ∷ with_hypotheses (drop index xs) more

with_new-place : (xs : List NamedTerm) (new : NamedTerm) (more : List NamedTerm) → AreOrdered (new ∷ more) → with_hypotheses xs (new ∷ more) ≡ with_new xs new more (place_in xs new)
with_new-place [] new more ordered = in_front new [] more ordered.0 ordered.1
with_new-place (x ∷ xs) new more ordered = go (nameless_cmp (image new) (image x)) refl (place_in xs new) (with_new-place xs new more ordered)
  where
    go : (order : Ordering) → nameless_cmp (image new) (image x) ≡ order → (place : Result ℕ ℕ) → with_hypotheses xs (new ∷ more) ≡ with_new xs new more place
        → with_hypotheses (x ∷ xs) (new ∷ more) ≡ with_new (x ∷ xs) new more (by_order order (Err 0) (Ok 0) (one_further place))
    go Less is place h = merge-after x new xs more (reversed (image new) (image x) Less is) ordered
    go Equal is place h = merge-same x new xs more (reversed (image new) (image x) Equal is) ordered
    go Greater is (Ok index) h = in_front x xs (new ∷ more) (reversed (image new) (image x) Greater is) ordered ∙ ap (λ l. x ∷ l) h
    go Greater is (Err index) h = in_front x xs (new ∷ more) (reversed (image new) (image x) Greater is) ordered ∙ ap (λ l. x ∷ l) h

-- with an old hypothesis, and more behind it

abbrev with_old : List NamedTerm → NamedTerm → List NamedTerm → Result ℕ ℕ → List NamedTerm
with_old ys old more (Ok index) = take index ys ++ old ∷ with_hypotheses more (drop (suc index) ys)
with_old ys old more (Err index) = take index ys ++ old ∷ with_hypotheses more (drop index ys)

with_old-place : (ys : List NamedTerm) (old : NamedTerm) (more : List NamedTerm) → AreOrdered ys → with_hypotheses (old ∷ more) ys ≡ with_old ys old more (place_in ys old)
with_old-place [] old more ordered = refl
with_old-place (y ∷ ys) old more ordered = go (nameless_cmp (image old) (image y)) refl (place_in ys old) (with_old-place ys old more ordered.1)
  where
    go : (order : Ordering) → nameless_cmp (image old) (image y) ≡ order → (place : Result ℕ ℕ) → with_hypotheses (old ∷ more) ys ≡ with_old ys old more place
        → with_hypotheses (old ∷ more) (y ∷ ys) ≡ with_old (y ∷ ys) old more (by_order order (Err 0) (Ok 0) (one_further place))
    go Less is place h = in_front old more (y ∷ ys) is ordered
    go Equal is place h = merge-same old y more ys is ordered
    go Greater is (Ok index) h = merge-after old y more ys is ordered ∙ ap (λ l. y ∷ l) h
    go Greater is (Err index) h = merge-after old y more ys is ordered ∙ ap (λ l. y ∷ l) h

-- steps of a merge

pub new_put-there : (xs : List NamedTerm) (new : NamedTerm) (index : ℕ) (all : List NamedTerm) → AreOrdered xs → Ok index ≡ place_in xs new
    → IsNewPut xs new all (all ++ take (index + 1) xs) (drop (index + 1) xs)
new_put-there xs new index all ordered there = rw add-one (record {
  ordered = ordered-drop (suc index) xs ordered;
  goes = λ more behind. append_assoc all (take (suc index) xs) (with_hypotheses (drop (suc index) xs) more)
      ∙ ap (λ l. all ++ l) (sym (with_new-place xs new more behind ∙ ap (with_new xs new more) (sym there)));
})

pub new_put-between : (xs : List NamedTerm) (new : NamedTerm) (index : ℕ) (all : List NamedTerm) → AreOrdered xs → Err index ≡ place_in xs new
    → IsNewPut xs new all ((all ++ take index xs) ++ new ∷ []) (drop index xs)
new_put-between xs new index all ordered between = record {
  ordered = ordered-drop index xs ordered;
  goes = λ more behind. append_assoc (all ++ take index xs) (new ∷ []) (with_hypotheses (drop index xs) more) ∙ append_assoc all (take index xs) (new ∷ with_hypotheses (drop index xs) more)
      ∙ ap (λ l. all ++ l) (sym (with_new-place xs new more behind ∙ ap (with_new xs new more) (sym between)));
}

pub old_put-there : (ys : List NamedTerm) (old : NamedTerm) (index : ℕ) (all : List NamedTerm) → AreOrdered ys → Ok index ≡ place_in ys old
    → IsOldPut ys old all ((all ++ take index ys) ++ old ∷ []) (drop (index + 1) ys)
old_put-there ys old index all ordered there = rw add-one (record {
  ordered = ordered-drop (suc index) ys ordered;
  goes = λ more. append_assoc (all ++ take index ys) (old ∷ []) (with_hypotheses more (drop (suc index) ys)) ∙ append_assoc all (take index ys) (old ∷ with_hypotheses more (drop (suc index) ys))
      ∙ ap (λ l. all ++ l) (sym (with_old-place ys old more ordered ∙ ap (with_old ys old more) (sym there)));
})

pub old_put-between : (ys : List NamedTerm) (old : NamedTerm) (index : ℕ) (all : List NamedTerm) → AreOrdered ys → Err index ≡ place_in ys old
    → IsOldPut ys old all ((all ++ take index ys) ++ old ∷ []) (drop index ys)
old_put-between ys old index all ordered between = record {
  ordered = ordered-drop index ys ordered;
  goes = λ more. append_assoc (all ++ take index ys) (old ∷ []) (with_hypotheses more (drop index ys)) ∙ append_assoc all (take index ys) (old ∷ with_hypotheses more (drop index ys))
      ∙ ap (λ l. all ++ l) (sym (with_old-place ys old more ordered ∙ ap (with_old ys old more) (sym between)));
}

-- the rest of the new hypotheses, put among the rest of the old ones, gives the same as all of them, and with one more put
pub new_put-more : (first second : List NamedTerm) (index : ℕ) (all rest : List NamedTerm) (new : NamedTerm) (after behind : List NamedTerm) → AreOrdered second
    → index < length second → new ≡ get_or second index new → all ++ with_hypotheses rest (drop index second) ≡ with_hypotheses first second → IsNewPut rest new all after behind
    → after ++ with_hypotheses behind (drop (index + 1) second) ≡ with_hypotheses first second
new_put-more first second index all rest new after behind ordered within is reached put =
    let here : drop index second ≡ new ∷ drop (index + 1) second = drop-here second index new within is in
    put.goes (drop (index + 1) second) (rw here at (ordered-drop index second ordered)) ∙ ap (λ l. all ++ with_hypotheses rest l) (sym here) ∙ reached
