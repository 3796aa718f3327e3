-- Members of joined lists and of the images of lists.
use Rattle.std.proofs.Common.{◌≡◌, ◌⊎◌, List, [], ◌∷◌, ◌++◌, map, ap, refl, inl, inr}
use Rattle.hol_model.specs.Logic.Derivable.{IsMember}

pub of_append : {A : Type 0} (x : A) (xs ys : List A) → IsMember x (xs ++ ys) → IsMember x xs ⊎ IsMember x ys
of_append x [] ys h = inr h
of_append x (y ∷ xs) ys (inl e) = inl (inl e)
of_append x (y ∷ xs) ys (inr h) = elim (of_append x xs ys h) [ inl t ↦ inl (inr t) | inr t ↦ inr t ]

pub of_map : {A B : Type 0} (f : A → B) (y : B) (xs : List A) → IsMember y (map f xs) → (x : A) × IsMember x xs × (y ≡ f x)
of_map f y [] h = absurd h
of_map f y (x ∷ xs) (inl e) = (x, inl refl, e)
of_map f y (x ∷ xs) (inr h) = let r = of_map f y xs h in (r.0, inr r.1, r.2)

pub IsMember-append_left : {A : Type 0} (x : A) (xs ys : List A) → IsMember x xs → IsMember x (xs ++ ys)
IsMember-append_left x [] ys h = absurd h
IsMember-append_left x (y ∷ xs) ys h = elim h [ inl e ↦ inl e | inr t ↦ inr (IsMember-append_left x xs ys t) ]

pub IsMember-append_right : {A : Type 0} (x : A) (xs ys : List A) → IsMember x ys → IsMember x (xs ++ ys)
IsMember-append_right x [] ys h = h
IsMember-append_right x (y ∷ xs) ys h = inr (IsMember-append_right x xs ys h)

pub IsMember-map : {A B : Type 0} (f : A → B) (x : A) (xs : List A) → IsMember x xs → IsMember (f x) (map f xs)
IsMember-map f x [] h = absurd h
IsMember-map f x (y ∷ xs) (inl e) = inl (ap f e)
IsMember-map f x (y ∷ xs) (inr h) = inr (IsMember-map f x xs h)
