-- Types that stay as they are.
use Rattle.std.proofs.Common.{◌≡◌, sym, List, [], ◌∷◌, false}
use Rattle.hol_model.specs.Terms.HolType.{HolType, type_put}
use Rattle.hol_types.proofs.Closed.{unchanged}
use Rattle.hol_subst.specs.Touched.{changes_type}
use Rattle.hol_subst.proofs.Putting.{type_put-none}

-- a type that the test passes over stays
pub unchanged_by_test : (types : List (HolType × HolType)) (ty : HolType) → changes_type types ty ≡ false → ty ≡ type_put types ty
unchanged_by_test [] ty stays = sym (type_put-none ty)
unchanged_by_test (pair ∷ rest) ty stays = sym (unchanged (pair ∷ rest) ty stays)
