-- A list in which nothing stands twice, with one more element.
use Rattle.std.proofs.Common.{◌≡◌, ◌⊎◌, inl, inr, List, [], ◌∷◌, ◌++◌, Bool, true, false, refl, sym, ◌∙◌, ap, Some, None, if◌then◌else◌}
use Rattle.std.specs.Prelude.{find}
use Rattle.hol_model.specs.Logic.Derivable.{IsMember}
use Rattle.hol_model.proofs.Terms.Membership.{of_append}
use Rattle.hol_match.specs.Once.{IsOnce}

pub once_more : {A : Type 0} (xs : List A) (x : A) → IsOnce xs → (IsMember x xs → ⊥) → IsOnce (xs ++ x ∷ [])
once_more [] x once new = (λ none. none, tt)
once_more {A} (y ∷ ys) x once new = (λ member. go (of_append y ys (x ∷ []) member), once_more ys x once.1 (λ member. new (inr member)))
  where
    go : IsMember y ys ⊎ IsMember y (x ∷ []) → ⊥
    go (inl member) = once.0 member
    go (inr (inl same)) = new (inl (sym same))
    go (inr (inr none)) = none

-- where no element passes a test, none of them is one that does
pub not_found : {A : Type 0} (p : A → Bool) (xs : List A) (x : A) → find p xs ≡ None → p x ≡ true → IsMember x xs → ⊥
not_found p [] x absent passed member = member
not_found {A} p (y ∷ ys) x absent passed member = go (p y) refl (λ none. not_found p ys x none passed) absent member
  where
    go : (test : Bool) → p y ≡ test → (find p ys ≡ None → IsMember x ys → ⊥) → (if test then Some y else find p ys) ≡ None → (x ≡ y) ⊎ IsMember x ys → ⊥
    go true is deeper none found = cc
    go false is deeper none (inl same) = let wrong : true ≡ false = sym passed ∙ (ap p same ∙ is) in cc
    go false is deeper none (inr later) = deeper none later
