-- What becomes of the binder of an abstraction.
use Rattle.std.specs.Prelude.{◌≡◌, ℕ, List, [], ◌∷◌, Option, Some, false, IsTrue, unwrap_or}
use Rattle.hol_model.specs.Terms.HolType.{HolType, type_put}
use Rattle.hol_model.specs.Terms.NamedTerm.{NamedTerm, is_variable, type_of}
use Rattle.hol_model.specs.Terms.Nameless.{image_under}
use Rattle.hol_model.specs.Terms.Substitution.{occurs_free}
use Rattle.hol_subst.specs.Entries.{Entry, replaced}
use Rattle.hol_subst.specs.Fresh.{IsFreshBinder}
use Rattle.hol_subst.specs.declared.binder.NewBinder.{NewBinder}
use Rattle.hol_subst.specs.declared.binder.NewBinder.TheVariants.{Kept, Renamed}

-- the binder keeps its name, since it captures nothing, and has its new type
pub record IsKeptBinder (env : List Entry) (types : List (HolType × HolType)) (name : List ℕ) (ty : HolType) (body : NamedTerm) (new_type : Option HolType) : Type 0 where
  pub typed : unwrap_or new_type ty ≡ type_put types ty
  pub is_fresh : occurs_free name (type_put types ty) (replaced env types (image_under ((name, ty) ∷ []) body)) ≡ false

-- the binder is a fresh variable of the new type
pub record IsRenamedBinder (env : List Entry) (types : List (HolType × HolType)) (name : List ℕ) (ty : HolType) (body binder : NamedTerm) : Type 0 where
  pub is_variable : IsTrue (is_variable binder)
  pub typed : type_of binder ≡ Some (type_put types ty)
  pub is_fresh : IsFreshBinder (replaced env types (image_under ((name, ty) ∷ []) body)) name (type_put types ty) binder

-- a binder over a body after the replacement
abbrev pub IsBinderAfter : List Entry → List (HolType × HolType) → List ℕ → HolType → NamedTerm → NewBinder → Type 0
IsBinderAfter env types name ty body (Kept new_type) = IsKeptBinder env types name ty body new_type
IsBinderAfter env types name ty body (Renamed binder) = IsRenamedBinder env types name ty body binder
