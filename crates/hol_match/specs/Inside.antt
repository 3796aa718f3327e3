-- By which classes of names a part of the term is seen to be free of the binders around it.
use Rattle.std.specs.Prelude.{◌≡◌, ℕ, List, true, bit_and}
use Rattle.hol_model.specs.Terms.HolType.{HolType}
use Rattle.hol_model.specs.Terms.NamedTerm.{Binder}
use Rattle.hol_model.specs.Terms.Nameless.{binder_index}
use Rattle.hol_terms.specs.Classes.{class_of_name}
use Rattle.hol_match.specs.Walk.{is_inside}

-- a variable whose name is of none of the classes is bound by none of the binders but the `inner` first
pub record CoversOuter (classes inner : ℕ) (binders : List Binder) : Type 0 where
  pub inside : (name : List ℕ) (ty : HolType) → bit_and (class_of_name name) classes ≡ 0 → is_inside inner (binder_index binders name ty) ≡ true
