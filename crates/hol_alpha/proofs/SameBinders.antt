-- Two terms gone through side by side under the same binders.
use Rattle.std.proofs.Common.{◌≡◌, ℕ, List, ◌∷◌, true, ap, subst, Equal}
use Rattle.std.specs.Ordering.{is_eq}
use Rattle.hol_model.specs.Terms.HolType.{HolType, type_cmp}
use Rattle.hol_model.specs.Terms.NamedTerm.{Binder, same_variable}
use Rattle.hol_model.specs.Terms.Nameless.{nameless_cmp, same_term, variable_image}
use Rattle.hol_model.proofs.Terms.Orders.{nameless_cmp-self, same_from_type_cmp}
use Rattle.hol_model.proofs.Tests.{same_name, same_variable-type}

-- a variable that is the same in both has one image
pub one_image : (lefts rights : List Binder) (name other : List ℕ) (ty s : HolType) → lefts ≡ rights → same_variable name ty other s ≡ true
    → nameless_cmp (variable_image lefts name ty) (variable_image rights other s) ≡ Equal
one_image lefts rights name other ty s same passed =
    subst (λ (m : List ℕ). nameless_cmp (variable_image lefts name ty) (variable_image rights m s) ≡ Equal) (same_name name other ty s passed)
    (subst (λ (t : HolType). nameless_cmp (variable_image lefts name ty) (variable_image rights name t) ≡ Equal) (same_variable-type name other ty s passed)
    (subst (λ (binders : List Binder). nameless_cmp (variable_image lefts name ty) (variable_image binders name ty) ≡ Equal) same
    (nameless_cmp-self (variable_image lefts name ty))))

pub same_image : (lefts rights : List Binder) (name other : List ℕ) (ty s : HolType) → lefts ≡ rights → same_variable name ty other s ≡ true
    → same_term (variable_image lefts name ty) (variable_image rights other s) ≡ true
same_image lefts rights name other ty s same passed = ap is_eq (one_image lefts rights name other ty s same passed)

-- binders of one name and type leave the binders the same
pub one_more : (lefts rights : List Binder) (name other : List ℕ) (ty s : HolType) → lefts ≡ rights → name ≡ other → type_cmp ty s ≡ Equal
    → (name, ty) ∷ lefts ≡ (other, s) ∷ rights
one_more lefts rights name other ty s same named typed =
    subst (λ (m : List ℕ). (name, ty) ∷ lefts ≡ (m, s) ∷ rights) named
    (subst (λ (t : HolType). (name, ty) ∷ lefts ≡ (name, t) ∷ rights) (same_from_type_cmp ty s typed)
    (ap (λ (binders : List Binder). (name, ty) ∷ binders) same))
