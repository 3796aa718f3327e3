-- Filling the place of a closed variable replaces the variable.
use Rattle.std.proofs.Common.{◌≡◌, ◌≢◌, ℕ, zero, suc, List, [], ◌∷◌, length, Bool, true, false, refl, Some, if◌then◌else◌}
use Rattle.std.specs.Prelude.{slice_get, nat_eq}
use Rattle.std.specs.Cmp.{unsigned_Decides}
use Rattle.hol_model.specs.Terms.HolType.{HolType, function_type}
use Rattle.hol_model.specs.Terms.NamedTerm.{same_variable}
use Rattle.hol_model.specs.Terms.Nameless.{Nameless, free, const, bound, app, lam, HasType}
use Rattle.hol_model.specs.Terms.Substitution.{close_at, fill_at, put, only}
use Rattle.hol_model.proofs.Logic.Conditions.{if_same, if_other}

-- a binder that is there is not the one outside
inside : (binders : List HolType) (index : ℕ) (ty : HolType) → slice_get binders index ≡ Some ty → index ≢ length binders
inside [] index ty e = cc
inside (a ∷ binders) zero ty e = λ k. cc
inside (a ∷ binders) (suc index) ty e = λ k. let same : index ≡ length binders = cc in inside binders index ty e same

pub fill_at-close_at : (name : List ℕ) (a : HolType) (new term : Nameless) (binders : List HolType) (ty : HolType) → HasType binders term ty
    → fill_at (length binders) new (close_at (length binders) name a term) ≡ put (only name a new) term
fill_at-close_at name a new (free other s) binders ty h = go (same_variable name a other s)
  where
    go : (test : Bool) → fill_at (length binders) new (if test then bound (length binders) else free other s) ≡ (if test then new else free other s)
    go true = if_same (nat_eq (length binders) (length binders)) (unsigned_Decides (length binders) (length binders)) new (bound (length binders)) refl
    go false = refl
fill_at-close_at name a new (const other s) binders ty h = refl
fill_at-close_at name a new (bound index) binders ty h =
    if_other (nat_eq index (length binders)) (unsigned_Decides index (length binders)) new (bound index) (inside binders index ty h)
fill_at-close_at name a new (app f x) binders ty h =
    cc (fill_at-close_at name a new f binders (function_type h.0 ty) h.1, fill_at-close_at name a new x binders h.0 h.2)
fill_at-close_at name a new (lam s body) binders ty h = cc (fill_at-close_at name a new body (s ∷ binders) h.0 h.1)
