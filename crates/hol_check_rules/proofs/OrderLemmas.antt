-- Ordered lists of terms: what keeps the order, and how two lists are merged.
use Rattle.std.proofs.Common.{◌≡◌, ◌⊎◌, ℕ, zero, suc, ◌+◌, ◌<◌, ◌≤◌, List, [], ◌∷◌, ◌++◌, length, drop, get_or, filter, Bool, true, false, refl, sym, ◌∙◌, ap, subst, inl, inr, if◌then◌else◌}
use Rattle.std.proofs.Common.{arith, append_assoc, append-nil, Vec, Global, Result, Ok, Err, IfOk}
use Rattle.std.proofs.lemmas.List.{drop_all, map-append}
use Rattle.std.proofs.lemmas.List.Elements.{All-cons, All-append, All-drop, All-get_or}
use Rattle.std.specs.List.{All}
use Rattle.std.specs.Ordering.{ordering_reverse}
use Rattle.std.specs.declared.cmp.Ordering.{Ordering}
use Rattle.std.specs.declared.cmp.Ordering.TheVariants.{Less, Equal, Greater}
use Rattle.hol_model.specs.Terms.Nameless.{Nameless, nameless_cmp}
use Rattle.hol_model.specs.Kernel.Theorem.{by_order}
use Rattle.hol_model.specs.Logs.LogState.{with_term, with_terms, set_of}
use Rattle.hol_model.proofs.Terms.Orders.{same_from_nameless_cmp, nameless_cmp-self}
use Rattle.hol_model.proofs.Terms.TotalOrders.{nameless_cmp-IsOrder}
use Rattle.hol_check_terms.specs.Terms.{term_at}
use Rattle.hol_check_rules.specs.Hypotheses.{terms_in, IsBefore, AreOrdered}
use Rattle.hol_check_rules.specs.Steps.{AreInOrder}
use Rattle.hol_check_changes.specs.Forming.{IsFitting}
use Rattle.hol_check_rules.proofs.HypothesesLemmas.{drop-here, with_terms-append}

reversed : (s t : Nameless) (order : Ordering) → nameless_cmp s t ≡ order → nameless_cmp t s ≡ ordering_reverse order
reversed s t order is = nameless_cmp-IsOrder.total.antisymm t s ∙ ap ordering_reverse is

before-rest : (x y : Nameless) (ys : List Nameless) → nameless_cmp x y ≡ Less → IsBefore y ys → IsBefore x ys
before-rest x y [] first second = tt
before-rest x y (z ∷ zs) first second = nameless_cmp-IsOrder.total.trans x y z first second

-- one more term

before-with_term : (x : Nameless) (xs : List Nameless) (new : Nameless) → IsBefore x xs → nameless_cmp x new ≡ Less → IsBefore x (with_term xs new)
before-with_term x [] new before less = less
before-with_term x (y ∷ ys) new before less = go (nameless_cmp new y)
  where
    go : (order : Ordering) → IsBefore x (by_order order (new ∷ y ∷ ys) (y ∷ ys) (y ∷ with_term ys new))
    go Less = less
    go Equal = before
    go Greater = before

with_term-ordered : (xs : List Nameless) (new : Nameless) → AreOrdered xs → AreOrdered (with_term xs new)
with_term-ordered [] new ordered = (tt, tt)
with_term-ordered (x ∷ xs) new ordered = go (nameless_cmp new x) refl (with_term-ordered xs new ordered.1)
  where
    go : (order : Ordering) → nameless_cmp new x ≡ order → AreOrdered (with_term xs new) → AreOrdered (by_order order (new ∷ x ∷ xs) (x ∷ xs) (x ∷ with_term xs new))
    go Less is deeper = (is, ordered)
    go Equal is deeper = ordered
    go Greater is deeper = (before-with_term x xs new ordered.0 (reversed new x Greater is), deeper)

with_terms-ordered : (xs ys : List Nameless) → AreOrdered xs → AreOrdered (with_terms xs ys)
with_terms-ordered xs [] ordered = ordered
with_terms-ordered xs (y ∷ ys) ordered = with_terms-ordered (with_term xs y) ys (with_term-ordered xs y ordered)

pub set_of-ordered : (terms : List Nameless) → AreOrdered (set_of terms)
set_of-ordered terms = with_terms-ordered [] terms tt

-- some of the terms

before-kept : (keep : Nameless → Bool) (x : Nameless) (xs : List Nameless) → IsBefore x xs → AreOrdered xs → IsBefore x (filter keep xs)
before-kept keep x [] before ordered = tt
before-kept keep x (y ∷ ys) before ordered = go (keep y) (before-kept keep x ys (before-rest x y ys before ordered.0) ordered.1)
  where
    go : (test : Bool) → IsBefore x (filter keep ys) → IsBefore x (if test then y ∷ filter keep ys else filter keep ys)
    go true deeper = before
    go false deeper = deeper

pub kept-ordered : (keep : Nameless → Bool) (xs : List Nameless) → AreOrdered xs → AreOrdered (filter keep xs)
kept-ordered keep [] ordered = tt
kept-ordered keep (x ∷ xs) ordered = go (keep x) (before-kept keep x xs ordered.0 ordered.1) (kept-ordered keep xs ordered.1)
  where
    go : (test : Bool) → IsBefore x (filter keep xs) → AreOrdered (filter keep xs) → AreOrdered (if test then x ∷ filter keep xs else filter keep xs)
    go true before deeper = (before, deeper)
    go false before deeper = deeper

-- the order in which terms are put in does not count

not-greater : Less ≡ Greater → ⊥
not-greater same = cc

not-equal : Less ≡ Equal → ⊥
not-equal same = cc

swap-less : (xs : List Nameless) (a b : Nameless) → nameless_cmp a b ≡ Less → with_term (with_term xs a) b ≡ with_term (with_term xs b) a
swap-less [] a b less =
    let greater : nameless_cmp b a ≡ Greater = reversed a b Less less in
    ap (λ o. by_order o (b ∷ a ∷ []) (a ∷ []) (a ∷ b ∷ [])) greater ∙ sym (ap (λ o. by_order o (a ∷ b ∷ []) (b ∷ []) (b ∷ a ∷ [])) less)
swap-less (x ∷ xs) a b less = go (nameless_cmp a x) (nameless_cmp b x) refl refl (swap-less xs a b less)
  where
    greater : nameless_cmp b a ≡ Greater
    greater = reversed a b Less less

    -- the later of two goes behind the first of a list
    behind : (rest : List Nameless) → with_term (a ∷ rest) b ≡ a ∷ with_term rest b
    behind rest = ap (λ o. by_order o (b ∷ a ∷ rest) (a ∷ rest) (a ∷ with_term rest b)) greater

    in_place : (y : Nameless) (rest : List Nameless) (new : Nameless) (order : Ordering) → nameless_cmp new y ≡ order →
        with_term (y ∷ rest) new ≡ by_order order (new ∷ y ∷ rest) (y ∷ rest) (y ∷ with_term rest new)
    in_place y rest new order is = ap (λ o. by_order o (new ∷ y ∷ rest) (y ∷ rest) (y ∷ with_term rest new)) is

    go : (p q : Ordering) → nameless_cmp a x ≡ p → nameless_cmp b x ≡ q → with_term (with_term xs a) b ≡ with_term (with_term xs b) a
        → with_term (by_order p (a ∷ x ∷ xs) (x ∷ xs) (x ∷ with_term xs a)) b ≡ with_term (by_order q (b ∷ x ∷ xs) (x ∷ xs) (x ∷ with_term xs b)) a
    go Less Less p q deeper = behind (x ∷ xs) ∙ ap (λ l. a ∷ l) (in_place x xs b Less q) ∙ sym (in_place b (x ∷ xs) a Less less)
    go Less Equal p q deeper = behind (x ∷ xs) ∙ ap (λ l. a ∷ l) (in_place x xs b Equal q) ∙ sym (in_place x xs a Less p)
    go Less Greater p q deeper = behind (x ∷ xs) ∙ ap (λ l. a ∷ l) (in_place x xs b Greater q) ∙ sym (in_place x (with_term xs b) a Less p)
    go Equal Less p q deeper = let other : nameless_cmp a b ≡ Greater = nameless_cmp-IsOrder.total.congr a x b p ∙ reversed b x Less q in absurd (not-greater (sym less ∙ other))
    go Equal Equal p q deeper = let other : nameless_cmp a b ≡ Equal = nameless_cmp-IsOrder.total.congr a x b p ∙ reversed b x Equal q in absurd (not-equal (sym less ∙ other))
    go Equal Greater p q deeper = in_place x xs b Greater q ∙ sym (in_place x (with_term xs b) a Equal p)
    go Greater Less p q deeper = let other : nameless_cmp b a ≡ Less = nameless_cmp-IsOrder.total.trans b x a q (reversed a x Greater p) in absurd (not-greater (sym other ∙ greater))
    go Greater Equal p q deeper = let other : nameless_cmp b a ≡ Less = nameless_cmp-IsOrder.total.congr b x a q ∙ reversed a x Greater p in absurd (not-greater (sym other ∙ greater))
    go Greater Greater p q deeper = in_place x (with_term xs a) b Greater q ∙ ap (λ l. x ∷ l) deeper ∙ sym (in_place x (with_term xs b) a Greater p)

with_term-swap : (xs : List Nameless) (a b : Nameless) → with_term (with_term xs a) b ≡ with_term (with_term xs b) a
with_term-swap xs a b = go (nameless_cmp a b) refl
  where
    go : (order : Ordering) → nameless_cmp a b ≡ order → with_term (with_term xs a) b ≡ with_term (with_term xs b) a
    go Less is = swap-less xs a b is
    go Equal is = let same : a ≡ b = same_from_nameless_cmp a b is in λ i. with_term (with_term xs (same i)) (sym same i)
    go Greater is = sym (swap-less xs b a (reversed a b Greater is))

with_term-twice : (xs : List Nameless) (a : Nameless) → with_term (with_term xs a) a ≡ with_term xs a
with_term-twice [] a = ap (λ o. by_order o (a ∷ a ∷ []) (a ∷ []) (a ∷ a ∷ [])) (nameless_cmp-self a)
with_term-twice (x ∷ xs) a = go (nameless_cmp a x) refl (with_term-twice xs a)
  where
    go : (order : Ordering) → nameless_cmp a x ≡ order → with_term (with_term xs a) a ≡ with_term xs a
        → with_term (by_order order (a ∷ x ∷ xs) (x ∷ xs) (x ∷ with_term xs a)) a ≡ by_order order (a ∷ x ∷ xs) (x ∷ xs) (x ∷ with_term xs a)
    go Less is deeper = ap (λ o. by_order o (a ∷ a ∷ x ∷ xs) (a ∷ x ∷ xs) (a ∷ with_term (x ∷ xs) a)) (nameless_cmp-self a)
    go Equal is deeper = ap (λ o. by_order o (a ∷ x ∷ xs) (x ∷ xs) (x ∷ with_term xs a)) is
    go Greater is deeper = ap (λ o. by_order o (a ∷ x ∷ with_term xs a) (x ∷ with_term xs a) (x ∷ with_term (with_term xs a) a)) is ∙ ap (λ l. x ∷ l) deeper

with_terms-swap : (xs zs : List Nameless) (y : Nameless) → with_terms (with_term xs y) zs ≡ with_term (with_terms xs zs) y
with_terms-swap xs [] y = refl
with_terms-swap xs (z ∷ zs) y = ap (λ l. with_terms l zs) (with_term-swap xs y z) ∙ with_terms-swap (with_term xs z) zs y

with_terms-put : (xs zs : List Nameless) (y : Nameless) → with_terms xs (with_term zs y) ≡ with_term (with_terms xs zs) y
with_terms-put xs [] y = refl
with_terms-put xs (z ∷ zs) y = go (nameless_cmp y z) refl (with_terms-put (with_term xs z) zs y)
  where
    go : (order : Ordering) → nameless_cmp y z ≡ order → with_terms (with_term xs z) (with_term zs y) ≡ with_term (with_terms (with_term xs z) zs) y
        → with_terms xs (by_order order (y ∷ z ∷ zs) (z ∷ zs) (z ∷ with_term zs y)) ≡ with_term (with_terms (with_term xs z) zs) y
    go Less is deeper = with_terms-swap xs (z ∷ zs) y
    go Equal is deeper =
        let same : y ≡ z = same_from_nameless_cmp y z is in
        sym (ap (λ l. with_terms l zs) (with_term-twice xs z)) ∙ with_terms-swap (with_term xs z) zs z ∙ ap (with_term (with_terms (with_term xs z) zs)) (sym same)
    go Greater is deeper = deeper

with_terms-through : (xs zs ys : List Nameless) → with_terms xs (with_terms zs ys) ≡ with_terms (with_terms xs zs) ys
with_terms-through xs zs [] = refl
with_terms-through xs zs (y ∷ ys) = with_terms-through xs (with_term zs y) ys ∙ ap (λ l. with_terms l ys) (with_terms-put xs zs y)

-- a list in order, from two parts of it in order
pub set_of-halves : (xs ys : List Nameless) → set_of (set_of xs ++ set_of ys) ≡ set_of (xs ++ ys)
set_of-halves xs ys =
    with_terms-append [] (set_of xs) (set_of ys)
    ∙ (ap (λ l. with_terms l (set_of ys)) (with_terms-through [] [] xs) ∙ (with_terms-through (set_of xs) [] ys ∙ sym (with_terms-append [] xs ys)))

-- merging

-- a term before all others stays in front
in_front : (x : Nameless) (xs ys : List Nameless) → IsBefore x ys → AreOrdered ys → with_terms (x ∷ xs) ys ≡ x ∷ with_terms xs ys
in_front x xs [] before ordered = refl
in_front x xs (y ∷ ys) before ordered =
    let placed : with_term (x ∷ xs) y ≡ x ∷ with_term xs y = ap (λ o. by_order o (y ∷ x ∷ xs) (x ∷ xs) (x ∷ with_term xs y)) (reversed x y Less before) in
    ap (λ l. with_terms l ys) placed ∙ in_front x (with_term xs y) ys (before-rest x y ys before ordered.0) ordered.1

merge-same : (x y : Nameless) (xs ys : List Nameless) → nameless_cmp x y ≡ Equal → AreOrdered (y ∷ ys) → with_terms (x ∷ xs) (y ∷ ys) ≡ x ∷ with_terms xs ys
merge-same x y xs ys is ordered =
    let placed : with_term (x ∷ xs) y ≡ x ∷ xs = ap (λ o. by_order o (y ∷ x ∷ xs) (x ∷ xs) (x ∷ with_term xs y)) (reversed x y Equal is) in
    ap (λ l. with_terms l ys) placed ∙ in_front x xs ys (before ys ordered.0) ordered.1
  where
    before : (zs : List Nameless) → IsBefore y zs → IsBefore x zs
    before [] less = tt
    before (z ∷ zs) less = nameless_cmp-IsOrder.total.congr x y z is ∙ less

merge-after : (x y : Nameless) (xs ys : List Nameless) → nameless_cmp x y ≡ Greater → AreOrdered (y ∷ ys) → with_terms (x ∷ xs) (y ∷ ys) ≡ y ∷ with_terms (x ∷ xs) ys
merge-after x y xs ys is ordered =
    let placed : with_term (x ∷ xs) y ≡ y ∷ x ∷ xs = ap (λ o. by_order o (y ∷ x ∷ xs) (x ∷ xs) (x ∷ with_term xs y)) (reversed x y Greater is) in
    ap (λ l. with_terms l ys) placed ∙ in_front y (x ∷ xs) ys ordered.0 ordered.1

merge-none : (ys : List Nameless) → AreOrdered ys → set_of ys ≡ ys
merge-none [] ordered = refl
merge-none (y ∷ ys) ordered = in_front y [] ys ordered.0 ordered.1 ∙ ap (λ l. y ∷ l) (merge-none ys ordered.1)

ordered-drop : (terms : List Nameless) (n : ℕ) (xs : List ℕ) → AreOrdered (terms_in terms xs) → AreOrdered (terms_in terms (drop n xs))
ordered-drop terms zero xs ordered = ordered
ordered-drop terms (suc n) [] ordered = tt
ordered-drop terms (suc n) (x ∷ xs) ordered = ordered-drop terms n xs ordered.1

-- two lists that are merged as far as these places
pub record IsMerged (terms : List Nameless) (first second : List ℕ) (left right : ℕ) (all : List ℕ) : Type 0 where
  pub left_within : left ≤ length first
  pub right_within : right ≤ length second
  pub fitting : All (IsFitting terms) all
  pub rest : terms_in terms all ++ with_terms (terms_in terms (drop left first)) (terms_in terms (drop right second)) ≡ with_terms (terms_in terms first) (terms_in terms second)

-- what is merged of two lists of numbers
pub record AreMerging (terms : List Nameless) (first second : List ℕ) : Type 0 where
  pub first_fits : All (IsFitting terms) first
  pub second_fits : All (IsFitting terms) second
  pub ordered : AreOrdered (terms_in terms second)

-- one step, at these elements
module _ (terms : List Nameless) (first second : List ℕ) (are : AreMerging terms first second) (left right : ℕ) (all : List ℕ) (merged : IsMerged terms first second left right all)
    (on_left : left < length first) (on_right : right < length second) where
  abbrev number_left : ℕ
  number_left = get_or first left 0

  abbrev number_right : ℕ
  number_right = get_or second right 0

  abbrev x : Nameless
  x = term_at terms number_left

  abbrev y : Nameless
  y = term_at terms number_right

  abbrev later_left : List Nameless
  later_left = terms_in terms (drop (left + 1) first)

  abbrev later_right : List Nameless
  later_right = terms_in terms (drop (right + 1) second)

  left_rest : terms_in terms (drop left first) ≡ x ∷ later_left
  left_rest = ap (terms_in terms) (drop-here first left number_left on_left refl)

  right_rest : terms_in terms (drop right second) ≡ y ∷ later_right
  right_rest = ap (terms_in terms) (drop-here second right number_right on_right refl)

  right_ordered : AreOrdered (y ∷ later_right)
  right_ordered = subst AreOrdered right_rest (ordered-drop terms right second are.ordered)

  with_one : (n : ℕ) → IsFitting terms n → All (IsFitting terms) (all ++ n ∷ [])
  with_one n fits = All-append (IsFitting terms) all (n ∷ []) merged.fitting (All-cons (IsFitting terms) n [] fits (λ k d within. absurd (omega (arith, within))))

  -- an element, then the merge of the rest
  taken : (n : ℕ) (rest : List Nameless) → with_terms (terms_in terms (drop left first)) (terms_in terms (drop right second)) ≡ term_at terms n ∷ rest
      → terms_in terms (all ++ n ∷ []) ++ rest ≡ with_terms (terms_in terms first) (terms_in terms second)
  taken n rest is =
      ap (λ l. l ++ rest) (map-append (term_at terms) all (n ∷ []))
      ∙ (append_assoc (terms_in terms all) (term_at terms n ∷ []) rest ∙ (ap (λ l. terms_in terms all ++ l) (sym is) ∙ merged.rest))

  both_rest : with_terms (terms_in terms (drop left first)) (terms_in terms (drop right second)) ≡ with_terms (x ∷ later_left) (y ∷ later_right)
  both_rest = λ i. with_terms (left_rest i) (right_rest i)

  pub merged-before : nameless_cmp x y ≡ Less → IsMerged terms first second (left + 1) right (all ++ number_left ∷ [])
  merged-before is = record {
    left_within = omega arith;
    right_within = merged.right_within;
    fitting = with_one number_left (All-get_or (IsFitting terms) first left 0 on_left are.first_fits);
    rest = taken number_left (with_terms later_left (terms_in terms (drop right second)))
        (both_rest ∙ (in_front x later_left (y ∷ later_right) is right_ordered ∙ ap (λ l. x ∷ with_terms later_left l) (sym right_rest)));
  }

  pub merged-same : nameless_cmp x y ≡ Equal → IsMerged terms first second (left + 1) (right + 1) (all ++ number_left ∷ [])
  merged-same is = record {
    left_within = omega arith;
    right_within = omega arith;
    fitting = with_one number_left (All-get_or (IsFitting terms) first left 0 on_left are.first_fits);
    rest = taken number_left (with_terms later_left later_right) (both_rest ∙ merge-same x y later_left later_right is right_ordered);
  }

  pub merged-after : nameless_cmp x y ≡ Greater → IsMerged terms first second left (right + 1) (all ++ number_right ∷ [])
  merged-after is = record {
    left_within = merged.left_within;
    right_within = omega arith;
    fitting = with_one number_right (All-get_or (IsFitting terms) second right 0 on_right are.second_fits);
    rest = taken number_right (with_terms (terms_in terms (drop left first)) later_right)
        (both_rest ∙ (merge-after x y later_left later_right is right_ordered ∙ ap (λ l. y ∷ with_terms l later_right) (sym left_rest)));
  }

-- where one of the lists is used up, the rest of the other is what is left
pub merged-last : (terms : List Nameless) (first second : List ℕ) (left right : ℕ) (all : List ℕ) → AreMerging terms first second → AreOrdered (terms_in terms first) →
    IsMerged terms first second left right all
    → (length first ≤ left) ⊎ (length second ≤ right) → AreInOrder terms ((all ++ drop left first) ++ drop right second) (terms_in terms first ++ terms_in terms second)
merged-last terms first second left right all are ordered merged used = record {
  named =
      map-append (term_at terms) (all ++ drop left first) (drop right second)
      ∙ (ap (λ l. l ++ terms_in terms (drop right second)) (map-append (term_at terms) all (drop left first))
      ∙ (append_assoc (terms_in terms all) (terms_in terms (drop left first)) (terms_in terms (drop right second))
      ∙ (ap (λ l. terms_in terms all ++ l) (last used) ∙ (merged.rest ∙ sym whole))));
  fitting = All-append (IsFitting terms) (all ++ drop left first) (drop right second)
      (All-append (IsFitting terms) all (drop left first) merged.fitting (All-drop (IsFitting terms) left first are.first_fits)) (All-drop (IsFitting terms) right second are.second_fits);
}
  where
    whole : set_of (terms_in terms first ++ terms_in terms second) ≡ with_terms (terms_in terms first) (terms_in terms second)
    whole = with_terms-append [] (terms_in terms first) (terms_in terms second) ∙ ap (λ l. with_terms l (terms_in terms second)) (merge-none (terms_in terms first) ordered)

    last : (length first ≤ left) ⊎ (length second ≤ right) → terms_in terms (drop left first) ++ terms_in terms (drop right second) ≡ with_terms (terms_in terms (drop left first))
        (terms_in terms (drop right second))
    last (inl past) = rw (drop_all left first past) (sym (merge-none (terms_in terms (drop right second)) (ordered-drop terms right second are.ordered)))
    last (inr past) = rw (drop_all right second past) (append-nil (terms_in terms (drop left first)))

-- a list in order, from its two halves
halves-in_order : (terms : List Nameless) (left right ordered_left ordered_right all list : List ℕ) → AreInOrder terms ordered_left (terms_in terms left) →
    AreInOrder terms ordered_right (terms_in terms right)
    → AreInOrder terms all (terms_in terms ordered_left ++ terms_in terms ordered_right) → left ++ right ≡ list → AreInOrder terms all (terms_in terms list)
halves-in_order terms left right ordered_left ordered_right all list one two both whole = record {
  named = both.named ∙ ((λ i. set_of (one.named i ++ two.named i)) ∙ (set_of-halves (terms_in terms left) (terms_in terms right) ∙ ap set_of
      (sym (map-append (term_at terms) left right) ∙ ap (terms_in terms) whole)));
  fitting = both.fitting;
}

pub ordered-by_set : (terms : List Nameless) (numbers : List ℕ) (wanted : List Nameless) → AreInOrder terms numbers wanted → AreOrdered (terms_in terms numbers)
ordered-by_set terms numbers wanted order = subst AreOrdered (sym order.named) (set_of-ordered wanted)

pub set_of-made : {E : Type 0} (terms : List Nameless) (left right ordered_left ordered_right list : List ℕ) (result : Result (Vec ℕ Global) E) → AreInOrder terms ordered_left (terms_in terms left)
    → AreInOrder terms ordered_right (terms_in terms right) → IfOk result (λ all. AreInOrder terms all.items (terms_in terms ordered_left ++ terms_in terms ordered_right)) → left ++ right ≡ list
    → IfOk result (λ all. AreInOrder terms all.items (terms_in terms list))
set_of-made terms left right ordered_left ordered_right list (Ok all) one two both whole = halves-in_order terms left right ordered_left ordered_right all.items list one two both whole
set_of-made terms left right ordered_left ordered_right list (Err fault) one two both whole = tt
