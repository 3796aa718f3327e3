-- A known predicate and a known element may stand for variables of their types.
use Rattle.std.proofs.Common.{◌≡◌, ℕ, List, [], ◌∷◌, Bool, true, false, ◌&&◌, not, if◌then◌else◌, refl, Some, None}
use Rattle.hol_model.specs.declared.fault.Fault.{Fault}
use Rattle.hol_model.specs.Terms.HolType.{HolType}
use Rattle.hol_model.specs.Terms.NamedTerm.{NamedTerm, variable, type_of}
use Rattle.hol_model.specs.Terms.Nameless.{image}
use Rattle.hol_model.specs.Logic.Theory.{Theory, IsKnown, IsKnownType, type_a}
use Rattle.hol_model.specs.Logic.KnownTerm.{knows_types, knows_constants, has_instances}
use Rattle.hol_model.specs.Kernel.Instantiation.{replacements_refusal, type_replacements_refusal}
use Rattle.hol_model.proofs.Terms.HolTypeEq.{type_eq-self}
use Rattle.hol_model.proofs.Terms.NamedTests.{is_known-Decides}
use Rattle.hol_model.proofs.Terms.TypeTests.{knows_type-Decides}

pub type-passes : (theory : Theory) (ty : HolType) → IsKnownType theory ty → type_replacements_refusal theory ((ty, type_a) ∷ []) ≡ None
type-passes theory ty known = rw ((knows_type-Decides theory ty).1 known) refl

pub two-pass : (theory : Theory) (first second : NamedTerm) (one two : List ℕ) (s t : HolType) → type_of first ≡ Some s → type_of second ≡ Some t
    → IsKnown theory (image first) s → IsKnown theory (image second) t
    → replacements_refusal theory ((first, variable one s) ∷ (second, variable two t) ∷ []) ≡ None
two-pass theory first second one two s t first_typed second_typed first_known second_known =
    rw (first_typed, second_typed, type_eq-self s, type_eq-self t)
    (go (knows_types theory first) (knows_constants theory first) (has_instances theory first) (knows_types theory second) (knows_constants theory second) (has_instances theory second)
    ((is_known-Decides theory first s first_typed).1 first_known) ((is_known-Decides theory second t second_typed).1 second_known))
  where
    go : (a b c d e f : Bool) → (a && b && c) ≡ true → (d && e && f) ≡ true
        → (if not (a && (d && true)) then Some Fault.UnknownType else
        (if not (b && (e && true)) then Some Fault.UnknownConst else (if not (c && (f && true)) then Some Fault.NotInstance else None))) ≡ None
    go true true true true true true known also = refl
    go true true true true true false known also = cc
    go true true true true false f known also = cc
    go true true true false e f known also = cc
    go true true false d e f known also = cc
    go true false c d e f known also = cc
    go false b c d e f known also = cc
