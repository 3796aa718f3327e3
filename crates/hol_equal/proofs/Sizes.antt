-- What is made of terms that leave room is within the limits.
use Rattle.std.proofs.Common.{◌≡◌, ℕ, ◌+◌, ◌≤◌, List, [], ◌∷◌, Bool, true, false, ◌&&◌, refl, inl, inr, arith, nat_le}
use Rattle.std.proofs.lemmas.Bool.{leb-true, le-leb}
use Rattle.hol_model.specs.declared.fault.Fault.{Fault}
use Rattle.hol_model.specs.declared.limits.TheConstants.{TERM_NODES_LIMIT, TERM_HEIGHT_LIMIT, TYPE_NODES_LIMIT}
use Rattle.hol_model.specs.Terms.HolType.{HolType, function_type, type_nodes}
use Rattle.hol_model.specs.Terms.NamedTerm.{type_fits}
use Rattle.hol_model.specs.Terms.Nameless.{Nameless, free, const, bound, app, lam, nameless_type}
use Rattle.hol_model.specs.Terms.Measures.{nameless_height, nameless_nodes, nameless_types_fit, nameless_within_limits}
use Rattle.hol_model.specs.Logic.Theory.{equality_name, equality_type}
use Rattle.hol_model.specs.Logic.Derivable.{nameless_equation}
use Rattle.hol_model.specs.Derived.DerivedRules.{is_roomy, is_roomy_type, has_roomy_types, ROOMY_HEIGHT, ROOMY_NODES, ROOMY_TYPE_NODES}
use Rattle.hol_model.proofs.Tests.{first_of_both, second_of_both, both}
use Rattle.hol_equal.specs.Sequents.{IsPast}
pub use Rattle.hol_equal.specs.Room.{IsSized}

pub sized-within : (tall many : ℕ) (term : Nameless) → IsSized tall many term → tall ≤ 2000 → many ≤ 4000000 → nameless_within_limits term ≡ true
sized-within tall many term sized low few =
    let h : nameless_height term ≤ TERM_HEIGHT_LIMIT = let a = sized.height in omega arith in
    let n : nameless_nodes term ≤ TERM_NODES_LIMIT = let a = sized.nodes in omega arith in
    both (nat_le (nameless_height term) TERM_HEIGHT_LIMIT && nat_le (nameless_nodes term) TERM_NODES_LIMIT) (nameless_types_fit [] term)
    (both (nat_le (nameless_height term) TERM_HEIGHT_LIMIT) (nat_le (nameless_nodes term) TERM_NODES_LIMIT) (le-leb _ _ h) (le-leb _ _ n))
    sized.types

pub sized-app : (tall many more : ℕ) (f x : Nameless) → IsSized tall many f → IsSized tall more x → IsSized (tall + 1) (many + more + 1) (app f x)
sized-app tall many more f x one two = record {
  height = let a = one.height in let b = two.height in omega arith;
  nodes = let a = one.nodes in let b = two.nodes in omega arith;
  types = both (nameless_types_fit [] f) (nameless_types_fit [] x) one.types two.types;
}

pub sized-more : (tall many taller more : ℕ) (t : Nameless) → IsSized tall many t → tall ≤ taller → many ≤ more → IsSized taller more t
sized-more tall many taller more t sized low few = record {
  height = let a = sized.height in omega arith;
  nodes = let a = sized.nodes in omega arith;
  types = sized.types;
}

-- a type with at most so many nodes may be that of the sides of an equation
pub equality-sized : (ty : HolType) → type_nodes ty ≤ 1900 → IsSized 1 1 (const equality_name (equality_type ty))
equality-sized ty few = record { height = omega arith; nodes = omega arith; types = le-leb (type_nodes (equality_type ty)) TYPE_NODES_LIMIT (omega arith) }

pub sized-equation : (tall many more : ℕ) (ty : HolType) (l r : Nameless) → 1 ≤ tall → type_nodes ty ≤ 1900 → IsSized tall many l → IsSized tall more r
    → IsSized (tall + 2) (many + more + 3) (nameless_equation ty l r)
sized-equation tall many more ty l r low few one two =
    let equality = sized-more 1 1 tall 1 (const equality_name (equality_type ty)) (equality-sized ty few) low (omega arith) in
    let left = sized-app tall 1 many (const equality_name (equality_type ty)) l equality one in
    let right = sized-more tall more (tall + 1) more r two (omega arith) (omega arith) in
    let whole = sized-app (tall + 1) (1 + many + 1) more (app (const equality_name (equality_type ty)) l) r left right in
    sized-more (tall + 1 + 1) (1 + many + 1 + more + 1) (tall + 2) (many + more + 3) (nameless_equation ty l r) whole (omega arith) (omega arith)

-- a term that leaves room is within the limits

roomy_types-fit : (binders : List HolType) (term : Nameless) → has_roomy_types binders term ≡ true → nameless_types_fit binders term ≡ true
roomy_types-fit binders (free name ty) roomy = let few : type_nodes ty ≤ ROOMY_TYPE_NODES = leb-true _ _ roomy in le-leb (type_nodes ty) TYPE_NODES_LIMIT (omega arith)
roomy_types-fit binders (const name ty) roomy = let few : type_nodes ty ≤ ROOMY_TYPE_NODES = leb-true _ _ roomy in le-leb (type_nodes ty) TYPE_NODES_LIMIT (omega arith)
roomy_types-fit binders (bound index) roomy = refl
roomy_types-fit binders (app f x) roomy =
    both (nameless_types_fit binders f) (nameless_types_fit binders x)
    (roomy_types-fit binders f (first_of_both (has_roomy_types binders f) (has_roomy_types binders x) roomy))
    (roomy_types-fit binders x (second_of_both (has_roomy_types binders f) (has_roomy_types binders x) roomy))
roomy_types-fit binders (lam ty body) roomy =
    let whole = function_type ty (nameless_type (ty ∷ binders) body) in
    let few : type_nodes whole ≤ ROOMY_TYPE_NODES = leb-true _ _ (second_of_both (has_roomy_types (ty ∷ binders) body) (is_roomy_type whole) roomy) in
    both (nameless_types_fit (ty ∷ binders) body) (type_fits whole)
    (roomy_types-fit (ty ∷ binders) body (first_of_both (has_roomy_types (ty ∷ binders) body) (is_roomy_type whole) roomy))
    (le-leb (type_nodes whole) TYPE_NODES_LIMIT (omega arith))

-- what a term that leaves room has
pub record LeavesRoom (term : Nameless) : Type 0 where
  pub sized : IsSized 1000 5000 term
  pub types : has_roomy_types [] term ≡ true

pub leaves_room : (term : Nameless) → is_roomy term ≡ true → LeavesRoom term
leaves_room term roomy =
    let h = nat_le (nameless_height term) ROOMY_HEIGHT in
    let n = nat_le (nameless_nodes term) ROOMY_NODES in
    let two : (h && n) ≡ true = first_of_both (h && n) (has_roomy_types [] term) roomy in
    let types : has_roomy_types [] term ≡ true = second_of_both (h && n) (has_roomy_types [] term) roomy in
    record { sized = record { height = leb-true _ _ (first_of_both h n two); nodes = leb-true _ _ (second_of_both h n two); types = roomy_types-fit [] term types }; types = types }

-- what is past the limits is made of a term that leaves no room
pub past-room : (fault : Fault) (within roomy : Bool) → IsPast fault within → (roomy ≡ true → within ≡ true) → IsPast fault roomy
past-room fault within roomy (inl memory) room = inl memory
past-room fault within true (inr past) room = let fits : within ≡ true = room refl in let not_fits : within ≡ false = past.1 in cc
past-room fault within false (inr past) room = inr (past.0, refl)

-- the sides of an equation that leaves room, and their type
pub record EquationRoom (ty : HolType) (l r : Nameless) : Type 0 where
  pub left : IsSized 1000 5000 l
  pub right : IsSized 1000 5000 r
  pub few : type_nodes (equality_type ty) ≤ 250

pub equation-room : (ty : HolType) (l r : Nameless) → is_roomy (nameless_equation ty l r) ≡ true → EquationRoom ty l r
equation-room ty l r roomy =
    let whole = leaves_room (nameless_equation ty l r) roomy in
    let few = is_roomy_type (equality_type ty) in
    let first : (few && has_roomy_types [] l) ≡ true = first_of_both (few && has_roomy_types [] l) (has_roomy_types [] r) whole.types in
    record {
      left = record {
        height = let a = whole.sized.height in omega arith;
        nodes = let a = whole.sized.nodes in omega arith;
        types = roomy_types-fit [] l (second_of_both few (has_roomy_types [] l) first);
      };
      right = record {
        height = let a = whole.sized.height in omega arith;
        nodes = let a = whole.sized.nodes in omega arith;
        types = roomy_types-fit [] r (second_of_both (few && has_roomy_types [] l) (has_roomy_types [] r) whole.types);
      };
      few = leb-true _ _ (first_of_both few (has_roomy_types [] l) first);
    }
