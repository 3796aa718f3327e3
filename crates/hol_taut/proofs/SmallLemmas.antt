-- Where a term is small there is room for what is made of it.
use Rattle.std.proofs.Common.{◌≡◌, ◌≤◌, List, [], ◌∷◌, true, ◌&&◌, refl, arith, nat_le}
use Rattle.std.proofs.lemmas.Bool.{leb-true, le-leb}
use Rattle.hol_model.specs.declared.limits.TheConstants.{TYPE_NODES_LIMIT}
use Rattle.hol_model.specs.Terms.HolType.{HolType, function_type, type_nodes}
use Rattle.hol_model.specs.Terms.NamedTerm.{type_fits}
use Rattle.hol_model.specs.Terms.Nameless.{Nameless, free, const, bound, app, lam, nameless_type}
use Rattle.hol_model.specs.Terms.Measures.{nameless_height, nameless_nodes, nameless_types_fit}
use Rattle.hol_model.proofs.Tests.{first_of_both, second_of_both, both}
use Rattle.hol_model.specs.Rewrites.SmallTerms.{SMALL_HEIGHT, SMALL_NODES, SMALL_TYPE_NODES, is_small_type, has_small_types, is_small}
use Rattle.hol_taut.specs.Ways.{IsSmallIf}

small_types-fit : (binders : List HolType) (term : Nameless) → has_small_types binders term ≡ true → nameless_types_fit binders term ≡ true
small_types-fit binders (free name ty) small = let few : type_nodes ty ≤ SMALL_TYPE_NODES = leb-true _ _ small in le-leb (type_nodes ty) TYPE_NODES_LIMIT (omega arith)
small_types-fit binders (const name ty) small = let few : type_nodes ty ≤ SMALL_TYPE_NODES = leb-true _ _ small in le-leb (type_nodes ty) TYPE_NODES_LIMIT (omega arith)
small_types-fit binders (bound index) small = refl
small_types-fit binders (app f x) small =
    both (nameless_types_fit binders f) (nameless_types_fit binders x)
    (small_types-fit binders f (first_of_both (has_small_types binders f) (has_small_types binders x) small))
    (small_types-fit binders x (second_of_both (has_small_types binders f) (has_small_types binders x) small))
small_types-fit binders (lam ty body) small =
    let whole = function_type ty (nameless_type (ty ∷ binders) body) in
    let few : type_nodes whole ≤ SMALL_TYPE_NODES = leb-true _ _ (second_of_both (has_small_types (ty ∷ binders) body) (is_small_type whole) small) in
    both (nameless_types_fit (ty ∷ binders) body) (type_fits whole)
    (small_types-fit (ty ∷ binders) body (first_of_both (has_small_types (ty ∷ binders) body) (is_small_type whole) small))
    (le-leb (type_nodes whole) TYPE_NODES_LIMIT (omega arith))

-- there is room where the term is small
pub small-room : (term : Nameless) → IsSmallIf (is_small term) term
small-room term small =
    let h = nat_le (nameless_height term) SMALL_HEIGHT in
    let n = nat_le (nameless_nodes term) SMALL_NODES in
    let two : (h && n) ≡ true = first_of_both (h && n) (has_small_types [] term) small in
    let types : has_small_types [] term ≡ true = second_of_both (h && n) (has_small_types [] term) small in
    record { height = leb-true _ _ (first_of_both h n two); nodes = leb-true _ _ (second_of_both h n two); types = small_types-fit [] term types }
