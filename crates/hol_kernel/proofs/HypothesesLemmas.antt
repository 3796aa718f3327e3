-- Putting hypotheses in their places, and what it does to the set of their images.
use Rattle.std.proofs.Common.{◌≡◌, ◌⊎◌, ℕ, suc, ◌+◌, ◌<◌, List, [], ◌∷◌, ◌++◌, map, length, take, drop, get_or, Bool, true, false, not, refl, sym}
use Rattle.std.proofs.Common.{◌∙◌, ap, subst, inl, inr, Option, Some, None, if◌then◌else◌, drop-cons, add-one, append-nil}
use Rattle.std.proofs.lemmas.List.{take_more}
use Rattle.std.proofs.lemmas.List.Elements.{filter-append}
use Rattle.std.specs.Prelude.{insert}
use Rattle.std.specs.Option.{option_map, option_map_or}
use Rattle.std.specs.declared.cmp.Ordering.{Ordering}
use Rattle.std.specs.declared.cmp.Ordering.TheVariants.{Less, Equal, Greater}
use Rattle.hol_model.specs.Terms.NamedTerm.{NamedTerm}
use Rattle.hol_model.specs.Terms.Nameless.{Nameless, image, nameless_cmp, same_term}
use Rattle.hol_model.specs.Logic.Derivable.{IsMember, IsSameSet, without}
use Rattle.hol_model.proofs.Terms.Orders.{same_from_nameless_cmp}
use Rattle.hol_model.specs.Kernel.Theorem.{by_order, are_alpha_equivalent, with_hypothesis, with_hypotheses, without_hypothesis}
use Rattle.hol_kernel.specs.Place.{place_of}

-- a list from one of its elements on
pub drop-here : (xs : List NamedTerm) (index : ℕ) (x : NamedTerm) → index < length xs → x ≡ get_or xs index x → drop index xs ≡ x ∷ drop (index + 1) xs
drop-here xs index x within is = drop-cons xs index x within ∙ rw (← is, add-one) refl

-- a hypothesis goes to its place
pub with_hypothesis-place : (xs : List NamedTerm) (new : NamedTerm) → with_hypothesis xs new ≡ option_map_or (λ index. insert xs index new) (place_of xs new) xs
with_hypothesis-place [] new = refl
with_hypothesis-place (x ∷ xs) new = go (nameless_cmp (image new) (image x)) (place_of xs new) (with_hypothesis-place xs new)
  where
    go : (order : Ordering) (place : Option ℕ) → with_hypothesis xs new ≡ option_map_or (λ index. insert xs index new) place xs
        → by_order order (new ∷ x ∷ xs) (x ∷ xs) (x ∷ with_hypothesis xs new)
        ≡ option_map_or (λ index. insert (x ∷ xs) index new) (by_order order (Some 0) None (option_map suc place)) (x ∷ xs)
    go Less place h = refl
    go Equal place h = refl
    go Greater None h = ap (λ l. x ∷ l) h
    go Greater (Some index) h = ap (λ l. x ∷ l) h

pub with_hypothesis-at : (xs : List NamedTerm) (new : NamedTerm) (index : ℕ) → place_of xs new ≡ Some index → with_hypothesis xs new ≡ insert xs index new
with_hypothesis-at xs new index place = with_hypothesis-place xs new ∙ rw place refl

pub with_hypothesis-there : (xs : List NamedTerm) (new : NamedTerm) → place_of xs new ≡ None → with_hypothesis xs new ≡ xs
with_hypothesis-there xs new place = with_hypothesis-place xs new ∙ rw place refl

-- one more hypothesis to keep or to leave out
pub without_hypothesis-taken : (term : NamedTerm) (xs : List NamedTerm) (index : ℕ) (x : NamedTerm) → index < length xs → x ≡ get_or xs index x
    → without_hypothesis term (take (index + 1) xs) ≡ without_hypothesis term (take index xs) ++ (if not (are_alpha_equivalent x term) then x ∷ [] else [])
without_hypothesis-taken term xs index x within is =
    rw (take_more xs index x within, ← is) (filter-append (λ hypothesis. not (are_alpha_equivalent hypothesis term)) (take index xs) (x ∷ []))

pub kept-taken : (term : NamedTerm) (xs : List NamedTerm) (index : ℕ) (x : NamedTerm) → index < length xs → x ≡ get_or xs index x → are_alpha_equivalent x term ≡ false
    → without_hypothesis term (take (index + 1) xs) ≡ without_hypothesis term (take index xs) ++ x ∷ []
kept-taken term xs index x within is differ = without_hypothesis-taken term xs index x within is ∙ rw differ refl

pub left_out-taken : (term : NamedTerm) (xs : List NamedTerm) (index : ℕ) (x : NamedTerm) → index < length xs → x ≡ get_or xs index x → are_alpha_equivalent x term ≡ true
    → without_hypothesis term (take (index + 1) xs) ≡ without_hypothesis term (take index xs)
left_out-taken term xs index x within is same = without_hypothesis-taken term xs index x within is ∙ rw same (simp append-nil)

-- the set of images

members-with_hypothesis : (xs : List NamedTerm) (new : NamedTerm) (t : Nameless) → IsMember t (map image (with_hypothesis xs new)) → IsMember t (map image xs) ⊎ (t ≡ image new)
members-with_hypothesis [] new t (inl e) = inr e
members-with_hypothesis [] new t (inr m) = absurd m
members-with_hypothesis (x ∷ xs) new t m = go (nameless_cmp (image new) (image x)) m (members-with_hypothesis xs new t)
  where
    go : (order : Ordering) → IsMember t (map image (by_order order (new ∷ x ∷ xs) (x ∷ xs) (x ∷ with_hypothesis xs new)))
        → (IsMember t (map image (with_hypothesis xs new)) → IsMember t (map image xs) ⊎ (t ≡ image new))
        → ((t ≡ image x) ⊎ IsMember t (map image xs)) ⊎ (t ≡ image new)
    go Less (inl e) deeper = inr e
    go Less (inr m) deeper = inl m
    go Equal m deeper = inl m
    go Greater (inl e) deeper = inl (inl e)
    go Greater (inr m) deeper = elim (deeper m) [ inl k ↦ inl (inr k) | inr e ↦ inr e ]

kept-with_hypothesis : (xs : List NamedTerm) (new : NamedTerm) (t : Nameless) → IsMember t (map image xs) → IsMember t (map image (with_hypothesis xs new))
kept-with_hypothesis [] new t m = absurd m
kept-with_hypothesis (x ∷ xs) new t m = go (nameless_cmp (image new) (image x)) m (kept-with_hypothesis xs new t)
  where
    go : (order : Ordering) → (t ≡ image x) ⊎ IsMember t (map image xs) → (IsMember t (map image xs) → IsMember t (map image (with_hypothesis xs new)))
        → IsMember t (map image (by_order order (new ∷ x ∷ xs) (x ∷ xs) (x ∷ with_hypothesis xs new)))
    go Less m deeper = inr m
    go Equal m deeper = m
    go Greater (inl e) deeper = inl e
    go Greater (inr m) deeper = inr (deeper m)

new-with_hypothesis : (xs : List NamedTerm) (new : NamedTerm) → IsMember (image new) (map image (with_hypothesis xs new))
new-with_hypothesis [] new = inl refl
new-with_hypothesis (x ∷ xs) new = go (nameless_cmp (image new) (image x)) refl (new-with_hypothesis xs new)
  where
    go : (order : Ordering) → nameless_cmp (image new) (image x) ≡ order → IsMember (image new) (map image (with_hypothesis xs new))
        → IsMember (image new) (map image (by_order order (new ∷ x ∷ xs) (x ∷ xs) (x ∷ with_hypothesis xs new)))
    go Less is deeper = inl refl
    go Equal is deeper = inl (same_from_nameless_cmp (image new) (image x) is)
    go Greater is deeper = inr deeper

pub append_left : {A : Type 0} (t : A) (xs ys : List A) → IsMember t xs → IsMember t (xs ++ ys)
append_left t [] ys m = absurd m
append_left t (x ∷ xs) ys (inl e) = inl e
append_left t (x ∷ xs) ys (inr m) = inr (append_left t xs ys m)

pub append_right : {A : Type 0} (t : A) (xs ys : List A) → IsMember t ys → IsMember t (xs ++ ys)
append_right t [] ys m = m
append_right t (x ∷ xs) ys m = inr (append_right t xs ys m)

pub of_append : {A : Type 0} (t : A) (xs ys : List A) → IsMember t (xs ++ ys) → IsMember t xs ⊎ IsMember t ys
of_append t [] ys m = inr m
of_append t (x ∷ xs) ys (inl e) = inl (inl e)
of_append t (x ∷ xs) ys (inr m) = elim (of_append t xs ys m) [ inl k ↦ inl (inr k) | inr k ↦ inr k ]

members-with_hypotheses : (xs ys : List NamedTerm) (t : Nameless) → IsMember t (map image (with_hypotheses xs ys)) → IsMember t (map image xs) ⊎ IsMember t (map image ys)
members-with_hypotheses xs [] t m = inl m
members-with_hypotheses xs (y ∷ ys) t m =
    elim (members-with_hypotheses (with_hypothesis xs y) ys t m) [
      | inl k ↦ (elim (members-with_hypothesis xs y t k) [ inl h ↦ inl h | inr e ↦ inr (inl e) ])
      | inr k ↦ inr (inr k)
    ]

kept-with_hypotheses : (xs ys : List NamedTerm) (t : Nameless) → IsMember t (map image xs) → IsMember t (map image (with_hypotheses xs ys))
kept-with_hypotheses xs [] t m = m
kept-with_hypotheses xs (y ∷ ys) t m = kept-with_hypotheses (with_hypothesis xs y) ys t (kept-with_hypothesis xs y t m)

new-with_hypotheses : (xs ys : List NamedTerm) (t : Nameless) → IsMember t (map image ys) → IsMember t (map image (with_hypotheses xs ys))
new-with_hypotheses xs [] t m = absurd m
new-with_hypotheses xs (y ∷ ys) t (inl e) =
    kept-with_hypotheses (with_hypothesis xs y) ys t
    (subst (λ (u : Nameless). IsMember u (map image (with_hypothesis xs y))) (sym e) (new-with_hypothesis xs y))
new-with_hypotheses xs (y ∷ ys) t (inr m) = new-with_hypotheses (with_hypothesis xs y) ys t m

-- the images of the hypotheses of two theorems are those of the one and those of the other
pub with_hypotheses-same_set : (xs ys : List NamedTerm) → IsSameSet (map image xs ++ map image ys) (map image (with_hypotheses xs ys))
with_hypotheses-same_set xs ys = record {
  to = λ t m. elim (of_append t (map image xs) (map image ys) m) [ inl k ↦ kept-with_hypotheses xs ys t k | inr k ↦ new-with_hypotheses xs ys t k ];
  back = λ t m. elim (members-with_hypotheses xs ys t m) [ inl k ↦ append_left t (map image xs) (map image ys) k | inr k ↦ append_right t (map image xs) (map image ys) k ];
}

-- the images of the hypotheses without a term
pub image-without_hypothesis : (term : NamedTerm) (xs : List NamedTerm) → map image (without_hypothesis term xs) ≡ without (image term) (map image xs)
image-without_hypothesis term [] = refl
image-without_hypothesis term (x ∷ xs) = go (same_term (image x) (image term)) (image-without_hypothesis term xs)
  where
    go : (test : Bool) → map image (without_hypothesis term xs) ≡ without (image term) (map image xs)
        → map image (if not test then x ∷ without_hypothesis term xs else without_hypothesis term xs)
        ≡ (if not test then image x ∷ without (image term) (map image xs) else without (image term) (map image xs))
    go true h = h
    go false h = ap (λ l. image x ∷ l) h
