-- Hypotheses in order: what keeps the order, and how two ordered lists are merged.
use Rattle.std.proofs.Common.{◌≡◌, ℕ, zero, suc, ◌+◌, ◌<◌, ◌≤◌, List, [], ◌∷◌, ◌++◌, length, drop, get_or, filter, Bool, true, false, refl, sym, ◌∙◌}
use Rattle.std.proofs.Common.{ap, if◌then◌else◌, arith, append_assoc, append-nil, ◌⊎◌, inl, inr}
use Rattle.std.proofs.lemmas.List.{drop_all}
use Rattle.std.specs.Ordering.{ordering_reverse}
use Rattle.std.specs.declared.cmp.Ordering.{Ordering}
use Rattle.std.specs.declared.cmp.Ordering.TheVariants.{Less, Equal, Greater}
use Rattle.hol_model.specs.Terms.NamedTerm.{NamedTerm}
use Rattle.hol_model.specs.Terms.Nameless.{Nameless, image, nameless_cmp}
use Rattle.hol_model.specs.Kernel.Theorem.{IsBefore, AreOrdered, by_order, with_hypothesis, with_hypotheses}
use Rattle.hol_model.proofs.Terms.TotalOrders.{nameless_cmp-IsOrder}
use Rattle.hol_kernel.proofs.HypothesesLemmas.{drop-here}

pub reversed : (s t : Nameless) (order : Ordering) → nameless_cmp s t ≡ order → nameless_cmp t s ≡ ordering_reverse order
reversed s t order is = nameless_cmp-IsOrder.total.antisymm t s ∙ ap ordering_reverse is

pub before-rest : (x y : NamedTerm) (ys : List NamedTerm) → nameless_cmp (image x) (image y) ≡ Less → IsBefore y ys → IsBefore x ys
before-rest x y [] first second = tt
before-rest x y (z ∷ zs) first second = nameless_cmp-IsOrder.total.trans (image x) (image y) (image z) first second

pub before-same : (x y : NamedTerm) (ys : List NamedTerm) → nameless_cmp (image x) (image y) ≡ Equal → IsBefore y ys → IsBefore x ys
before-same x y [] same before = tt
before-same x y (z ∷ zs) same before = nameless_cmp-IsOrder.total.congr (image x) (image y) (image z) same ∙ before

-- one more hypothesis

before-with_hypothesis : (x : NamedTerm) (xs : List NamedTerm) (new : NamedTerm) → IsBefore x xs → nameless_cmp (image x) (image new) ≡ Less → IsBefore x (with_hypothesis xs new)
before-with_hypothesis x [] new before less = less
before-with_hypothesis x (y ∷ ys) new before less = go (nameless_cmp (image new) (image y))
  where
    go : (order : Ordering) → IsBefore x (by_order order (new ∷ y ∷ ys) (y ∷ ys) (y ∷ with_hypothesis ys new))
    go Less = less
    go Equal = before
    go Greater = before

pub with_hypothesis-ordered : (xs : List NamedTerm) (new : NamedTerm) → AreOrdered xs → AreOrdered (with_hypothesis xs new)
with_hypothesis-ordered [] new ordered = (tt, tt)
with_hypothesis-ordered (x ∷ xs) new ordered = go (nameless_cmp (image new) (image x)) refl (with_hypothesis-ordered xs new ordered.1)
  where
    go : (order : Ordering) → nameless_cmp (image new) (image x) ≡ order → AreOrdered (with_hypothesis xs new)
        → AreOrdered (by_order order (new ∷ x ∷ xs) (x ∷ xs) (x ∷ with_hypothesis xs new))
    go Less is deeper = (is, ordered)
    go Equal is deeper = ordered
    go Greater is deeper = (before-with_hypothesis x xs new ordered.0 (reversed (image new) (image x) Greater is), deeper)

pub with_hypotheses-ordered : (xs ys : List NamedTerm) → AreOrdered xs → AreOrdered (with_hypotheses xs ys)
with_hypotheses-ordered xs [] ordered = ordered
with_hypotheses-ordered xs (y ∷ ys) ordered = with_hypotheses-ordered (with_hypothesis xs y) ys (with_hypothesis-ordered xs y ordered)

-- some of the hypotheses

before-kept : (keep : NamedTerm → Bool) (x : NamedTerm) (xs : List NamedTerm) → IsBefore x xs → AreOrdered xs → IsBefore x (filter keep xs)
before-kept keep x [] before ordered = tt
before-kept keep x (y ∷ ys) before ordered = go (keep y) (before-kept keep x ys (before-rest x y ys before ordered.0) ordered.1)
  where
    go : (test : Bool) → IsBefore x (filter keep ys) → IsBefore x (if test then y ∷ filter keep ys else filter keep ys)
    go true deeper = before
    go false deeper = deeper

pub kept-ordered : (keep : NamedTerm → Bool) (xs : List NamedTerm) → AreOrdered xs → AreOrdered (filter keep xs)
kept-ordered keep [] ordered = tt
kept-ordered keep (x ∷ xs) ordered = go (keep x) (before-kept keep x xs ordered.0 ordered.1) (kept-ordered keep xs ordered.1)
  where
    go : (test : Bool) → IsBefore x (filter keep xs) → AreOrdered (filter keep xs) → AreOrdered (if test then x ∷ filter keep xs else filter keep xs)
    go true before deeper = (before, deeper)
    go false before deeper = deeper

-- merging

-- a hypothesis before all others stays in front
pub in_front : (x : NamedTerm) (xs ys : List NamedTerm) → IsBefore x ys → AreOrdered ys → with_hypotheses (x ∷ xs) ys ≡ x ∷ with_hypotheses xs ys
in_front x xs [] before ordered = refl
in_front x xs (y ∷ ys) before ordered =
    let placed : with_hypothesis (x ∷ xs) y ≡ x ∷ with_hypothesis xs y = ap (λ o. by_order o (y ∷ x ∷ xs) (x ∷ xs) (x ∷ with_hypothesis xs y)) (reversed (image x) (image y) Less before) in
    ap (λ l. with_hypotheses l ys) placed ∙ in_front x (with_hypothesis xs y) ys (before-rest x y ys before ordered.0) ordered.1

pub merge-same : (x y : NamedTerm) (xs ys : List NamedTerm) → nameless_cmp (image x) (image y) ≡ Equal → AreOrdered (y ∷ ys) → with_hypotheses (x ∷ xs) (y ∷ ys) ≡ x ∷ with_hypotheses xs ys
merge-same x y xs ys is ordered =
    let placed : with_hypothesis (x ∷ xs) y ≡ x ∷ xs = ap (λ o. by_order o (y ∷ x ∷ xs) (x ∷ xs) (x ∷ with_hypothesis xs y)) (reversed (image x) (image y) Equal is) in
    ap (λ l. with_hypotheses l ys) placed ∙ in_front x xs ys (before-same x y ys is ordered.0) ordered.1

pub merge-after : (x y : NamedTerm) (xs ys : List NamedTerm) → nameless_cmp (image x) (image y) ≡ Greater → AreOrdered (y ∷ ys) → with_hypotheses (x ∷ xs) (y ∷ ys) ≡ y ∷ with_hypotheses (x ∷ xs) ys
merge-after x y xs ys is ordered =
    let placed : with_hypothesis (x ∷ xs) y ≡ y ∷ x ∷ xs = ap (λ o. by_order o (y ∷ x ∷ xs) (x ∷ xs) (x ∷ with_hypothesis xs y)) (reversed (image x) (image y) Greater is) in
    ap (λ l. with_hypotheses l ys) placed ∙ in_front y (x ∷ xs) ys ordered.0 ordered.1

pub merge-none : (ys : List NamedTerm) → AreOrdered ys → with_hypotheses [] ys ≡ ys
merge-none [] ordered = refl
merge-none (y ∷ ys) ordered = in_front y [] ys ordered.0 ordered.1 ∙ ap (λ l. y ∷ l) (merge-none ys ordered.1)

pub ordered-drop : (n : ℕ) (xs : List NamedTerm) → AreOrdered xs → AreOrdered (drop n xs)
ordered-drop zero xs ordered = ordered
ordered-drop (suc n) [] ordered = tt
ordered-drop (suc n) (x ∷ xs) ordered = ordered-drop n xs ordered.1

-- two lists that are merged as far as these places
pub record IsMerged (first second : List NamedTerm) (left right : ℕ) (all : List NamedTerm) : Type 0 where
  pub left_within : left ≤ length first
  pub right_within : right ≤ length second
  pub rest : all ++ with_hypotheses (drop left first) (drop right second) ≡ with_hypotheses first second

-- one step, at these elements
module _ (first second : List NamedTerm) (ordered : AreOrdered second) (left right : ℕ) (all : List NamedTerm) (merged : IsMerged first second left right all)
    (x y : NamedTerm) (on_left : left < length first) (on_right : right < length second) (x_is : x ≡ get_or first left x) (y_is : y ≡ get_or second right y) where
  left_rest : drop left first ≡ x ∷ drop (left + 1) first
  left_rest = drop-here first left x on_left x_is

  right_rest : drop right second ≡ y ∷ drop (right + 1) second
  right_rest = drop-here second right y on_right y_is

  right_ordered : AreOrdered (y ∷ drop (right + 1) second)
  right_ordered = rw right_rest at (ordered-drop right second ordered)

  -- an element, then the merge of the rest
  taken : (z : NamedTerm) (rest : List NamedTerm) → with_hypotheses (drop left first) (drop right second) ≡ z ∷ rest → (all ++ z ∷ []) ++ rest ≡ with_hypotheses first second
  taken z rest is = append_assoc all (z ∷ []) rest ∙ ap (λ l. all ++ l) (sym is) ∙ merged.rest

  pub merged-before : nameless_cmp (image x) (image y) ≡ Less → IsMerged first second (left + 1) right (all ++ x ∷ [])
  merged-before is = record {
    left_within = omega arith;
    right_within = merged.right_within;
    rest = taken x (with_hypotheses (drop (left + 1) first) (drop right second))
        ((λ i. with_hypotheses (left_rest i) (right_rest i)) ∙ in_front x (drop (left + 1) first) (y ∷ drop (right + 1) second) is right_ordered
        ∙ ap (λ l. x ∷ with_hypotheses (drop (left + 1) first) l) (sym right_rest));
  }

  pub merged-same : nameless_cmp (image x) (image y) ≡ Equal → IsMerged first second (left + 1) (right + 1) (all ++ x ∷ [])
  merged-same is = record {
    left_within = omega arith;
    right_within = omega arith;
    rest = taken x (with_hypotheses (drop (left + 1) first) (drop (right + 1) second))
        ((λ i. with_hypotheses (left_rest i) (right_rest i)) ∙ merge-same x y (drop (left + 1) first) (drop (right + 1) second) is right_ordered);
  }

  pub merged-after : nameless_cmp (image x) (image y) ≡ Greater → IsMerged first second left (right + 1) (all ++ y ∷ [])
  merged-after is = record {
    left_within = merged.left_within;
    right_within = omega arith;
    rest = taken y (with_hypotheses (drop left first) (drop (right + 1) second))
        ((λ i. with_hypotheses (left_rest i) (right_rest i)) ∙ merge-after x y (drop (left + 1) first) (drop (right + 1) second) is right_ordered
        ∙ ap (λ l. y ∷ with_hypotheses l (drop (right + 1) second)) (sym left_rest));
  }

-- where one of the lists is used up, the rest of the other is what is left
pub merged-last : (first second : List NamedTerm) (left right : ℕ) (all : List NamedTerm) → AreOrdered second → IsMerged first second left right all
    → (length first ≤ left) ⊎ (length second ≤ right) → (all ++ drop left first) ++ drop right second ≡ with_hypotheses first second
merged-last first second left right all ordered merged used = append_assoc all (drop left first) (drop right second) ∙ ap (λ l. all ++ l) (last used) ∙ merged.rest
  where
    last : (length first ≤ left) ⊎ (length second ≤ right) → drop left first ++ drop right second ≡ with_hypotheses (drop left first) (drop right second)
    last (inl past) = rw (drop_all left first past) (sym (merge-none (drop right second) (ordered-drop right second ordered)))
    last (inr past) = rw (drop_all right second past) (append-nil (drop left first))
