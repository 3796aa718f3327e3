-- Small terms: what is built of them stays roomy.
use Rattle.std.specs.Prelude.{ℕ, List, [], ◌∷◌, Bool, true, ◌&&◌, nat_le}
use Rattle.hol_model.specs.Terms.HolType.{HolType, function_type, type_nodes}
use Rattle.hol_model.specs.Terms.Nameless.{Nameless, free, const, bound, app, lam, nameless_type}
use Rattle.hol_model.specs.Terms.Measures.{nameless_height, nameless_nodes}

abbrev pub SMALL_HEIGHT : ℕ
SMALL_HEIGHT = 500

abbrev pub SMALL_NODES : ℕ
SMALL_NODES = 2000

abbrev pub SMALL_TYPE_NODES : ℕ
SMALL_TYPE_NODES = 100

abbrev pub is_small_type : HolType → Bool
is_small_type ty = nat_le (type_nodes ty) SMALL_TYPE_NODES

-- each type written in the term, which stands under binders of these types, and the type of each part of it, is small
abbrev pub has_small_types : List HolType → Nameless → Bool
has_small_types binders (free name ty) = is_small_type ty
has_small_types binders (const name ty) = is_small_type ty
has_small_types binders (bound index) = true
has_small_types binders (app function argument) = has_small_types binders function && has_small_types binders argument
has_small_types binders (lam ty body) = has_small_types (ty ∷ binders) body && is_small_type (function_type ty (nameless_type (ty ∷ binders) body))

abbrev pub is_small : Nameless → Bool
is_small term = nat_le (nameless_height term) SMALL_HEIGHT && nat_le (nameless_nodes term) SMALL_NODES && has_small_types [] term
