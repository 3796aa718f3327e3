-- A variable that is free in a part after the replacement is free in the whole.
use Rattle.std.proofs.Common.{◌≡◌, List, ◌∷◌, ℕ, Bool, true, false, ◌||◌, refl, sym, ◌∙◌, ap}
use Rattle.hol_model.specs.Terms.HolType.{HolType}
use Rattle.hol_model.specs.Terms.NamedTerm.{NamedTerm, combination, abstraction, Binder}
use Rattle.hol_model.specs.Terms.Nameless.{image_under}
use Rattle.hol_model.specs.Terms.Substitution.{occurs_free}
use Rattle.hol_subst.specs.Entries.{Entry, replaced}

-- the variable is free in the term, which stands under binders, after the replacement
abbrev pub stands : List Entry → List (HolType × HolType) → List Binder → List ℕ → HolType → NamedTerm → Bool
stands env types binders name ty term = occurs_free name ty (replaced env types (image_under binders term))

first-suffices : (p q : Bool) → p ≡ true → (p || q) ≡ true
first-suffices true q is = refl
first-suffices false q is = cc

second-suffices : (p q : Bool) → q ≡ true → (p || q) ≡ true
second-suffices true q is = refl
second-suffices false q is = is

pub stands-function : (env : List Entry) (types : List (HolType × HolType)) (binders : List Binder) (name : List ℕ) (ty : HolType) (f x whole : NamedTerm)
    → combination f x ≡ whole → occurs_free name ty (replaced env types (image_under binders f)) ≡ true
    → occurs_free name ty (replaced env types (image_under binders whole)) ≡ true
stands-function env types binders name ty f x whole is found =
    ap (stands env types binders name ty) (sym is) ∙ first-suffices (stands env types binders name ty f) (stands env types binders name ty x) found

pub stands-argument : (env : List Entry) (types : List (HolType × HolType)) (binders : List Binder) (name : List ℕ) (ty : HolType) (f x whole : NamedTerm)
    → combination f x ≡ whole → occurs_free name ty (replaced env types (image_under binders x)) ≡ true
    → occurs_free name ty (replaced env types (image_under binders whole)) ≡ true
stands-argument env types binders name ty f x whole is found =
    ap (stands env types binders name ty) (sym is) ∙ second-suffices (stands env types binders name ty f) (stands env types binders name ty x) found

pub stands-body : (env : List Entry) (types : List (HolType × HolType)) (binders : List Binder) (name : List ℕ) (ty : HolType)
    (bound_name : List ℕ) (bound_type : HolType) (body whole : NamedTerm)
    → abstraction bound_name bound_type body ≡ whole
    → occurs_free name ty (replaced env types (image_under ((bound_name, bound_type) ∷ binders) body)) ≡ true
    → occurs_free name ty (replaced env types (image_under binders whole)) ≡ true
stands-body env types binders name ty bound_name bound_type body whole is found =
    ap (stands env types binders name ty) (sym is) ∙ found

pub ruleset standing_at = (stands-function, stands-argument, stands-body)
