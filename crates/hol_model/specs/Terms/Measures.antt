-- The height, the nodes and the types of terms without bound names, and the limits on them.
use Rattle.std.specs.Prelude.{ℕ, ◌+◌, max, List, [], ◌∷◌, Bool, true, ◌&&◌, nat_le}
use Rattle.hol_model.specs.declared.limits.TheConstants.{TERM_NODES_LIMIT, TERM_HEIGHT_LIMIT}
use Rattle.hol_model.specs.Terms.HolType.{HolType, function_type}
use Rattle.hol_model.specs.Terms.NamedTerm.{type_fits}
use Rattle.hol_model.specs.Terms.Nameless.{Nameless, free, const, bound, app, lam, nameless_type}

abbrev pub nameless_height : Nameless → ℕ
nameless_height (free name ty) = 1
nameless_height (const name ty) = 1
nameless_height (bound index) = 1
nameless_height (app function argument) = max (nameless_height function) (nameless_height argument) + 1
nameless_height (lam ty body) = nameless_height body + 1

abbrev pub nameless_nodes : Nameless → ℕ
nameless_nodes (free name ty) = 1
nameless_nodes (const name ty) = 1
nameless_nodes (bound index) = 1
nameless_nodes (app function argument) = nameless_nodes function + nameless_nodes argument + 1
nameless_nodes (lam ty body) = nameless_nodes body + 1

-- each type written in the term, which stands under binders of these types, and the type of each part of it, is within
-- the limit
abbrev pub nameless_types_fit : List HolType → Nameless → Bool
nameless_types_fit binders (free name ty) = type_fits ty
nameless_types_fit binders (const name ty) = type_fits ty
nameless_types_fit binders (bound index) = true
nameless_types_fit binders (app function argument) = nameless_types_fit binders function && nameless_types_fit binders argument
nameless_types_fit binders (lam ty body) = nameless_types_fit (ty ∷ binders) body && type_fits (function_type ty (nameless_type (ty ∷ binders) body))

-- height, nodes and types are within the limits
abbrev pub nameless_within_limits : Nameless → Bool
nameless_within_limits term = nat_le (nameless_height term) TERM_HEIGHT_LIMIT && nat_le (nameless_nodes term) TERM_NODES_LIMIT && nameless_types_fit [] term
