-- The limits on terms, from those on their parts.
use Rattle.std.proofs.Common.{◌≡◌, ℕ, ◌<◌, List, [], ◌∷◌, Bool, true, false, ◌&&◌, refl, inl, inr, Result, Ok, Err, nat_le, arith}
use Rattle.hol_model.specs.declared.fault.Fault.{Fault}
use Rattle.hol_model.specs.declared.limits.TheConstants.{TERM_HEIGHT_LIMIT, TERM_NODES_LIMIT}
use Rattle.hol_model.specs.Terms.HolType.{HolType, function_type}
use Rattle.hol_model.specs.Terms.NamedTerm.{type_fits}
use Rattle.hol_model.specs.Terms.Nameless.{Nameless, free, const, bound, app, lam, nameless_type}
use Rattle.hol_model.specs.Terms.Measures.{nameless_height, nameless_nodes, nameless_types_fit, nameless_within_limits}
use Rattle.hol_model.proofs.Terms.Measures.{past_limit-type}
use Rattle.hol_check_changes.specs.Change.{WritesLargeType, IsPastLimits, IsAnswered, IsMade}

first-fails : (p q : Bool) → p ≡ false → (p && q) ≡ false
first-fails true q failed = cc
first-fails false q failed = refl

pub second-fails : (p q : Bool) → q ≡ false → (p && q) ≡ false
second-fails true q failed = failed
second-fails false q failed = refl

writes-large : (binders : List HolType) (t : Nameless) → WritesLargeType t → nameless_types_fit binders t ≡ false
writes-large binders (free name ty) large = past_limit-type ty large
writes-large binders (const name ty) large = past_limit-type ty large
writes-large binders (bound index) large = absurd large
writes-large binders (app f a) (inl large) = first-fails (nameless_types_fit binders f) (nameless_types_fit binders a) (writes-large binders f large)
writes-large binders (app f a) (inr large) = second-fails (nameless_types_fit binders f) (nameless_types_fit binders a) (writes-large binders a large)
writes-large binders (lam ty body) (inl large) =
    let whole = function_type ty (nameless_type (ty ∷ binders) body) in
    second-fails (nameless_types_fit (ty ∷ binders) body) (type_fits whole) (past_limit-type whole (omega (arith, large)))
writes-large binders (lam ty body) (inr large) =
    first-fails (nameless_types_fit (ty ∷ binders) body) (type_fits (function_type ty (nameless_type (ty ∷ binders) body))) (writes-large (ty ∷ binders) body large)

over : (n limit : ℕ) → limit < n → nat_le n limit ≡ false
over n limit past = grind arith

pub past-limits : (t : Nameless) → IsPastLimits t → nameless_within_limits t ≡ false
past-limits t (inl (inl high)) =
    let h = nat_le (nameless_height t) TERM_HEIGHT_LIMIT in
    let n = nat_le (nameless_nodes t) TERM_NODES_LIMIT in
    first-fails (h && n) (nameless_types_fit [] t) (first-fails h n (over (nameless_height t) TERM_HEIGHT_LIMIT high))
past-limits t (inl (inr many)) =
    let h = nat_le (nameless_height t) TERM_HEIGHT_LIMIT in
    let n = nat_le (nameless_nodes t) TERM_NODES_LIMIT in
    first-fails (h && n) (nameless_types_fit [] t) (second-fails h n (over (nameless_nodes t) TERM_NODES_LIMIT many))
past-limits t (inr large) = second-fails (nat_le (nameless_height t) TERM_HEIGHT_LIMIT && nat_le (nameless_nodes t) TERM_NODES_LIMIT) (nameless_types_fit [] t) (writes-large [] t large)

pub is-made : (wanted : Nameless) (result : Result ℕ Fault) (terms : List Nameless) → IsAnswered wanted result terms → IsMade wanted result terms
is-made wanted (Ok new) terms answered = record { number = answered.number; refused = tt }
is-made wanted (Err fault) terms answered = record { number = tt; refused = elim answered.refused [ inl memory ↦ inl memory | inr large ↦ inr (large.0, past-limits wanted large.1) ] }
