-- A part of an instance has no more nodes than the instance.
use Rattle.std.proofs.Common.{◌≡◌, ◌≤◌, ℕ, List, Bool, true, false, Option, Some, None, arith, if◌then◌else◌}
use Rattle.std.specs.Str.{bytes_eq}
use Rattle.hol_model.specs.Terms.HolType.{HolType, type_variable, bool_type, function_type, declared_type, type_nodes, part_at, first_answer}

pub part-nodes : (generic ty : HolType) (name : List ℕ) (part : HolType) → part_at generic ty name ≡ Some part → type_nodes part ≤ type_nodes ty
part-nodes (type_variable other) ty name part e = go (bytes_eq other name) e
  where
    go : (test : Bool) → (if test then Some ty else None) ≡ Some part → type_nodes part ≤ type_nodes ty
    go true e = let same : ty ≡ part = cc in rw same (omega arith)
    go false e = cc
part-nodes bool_type ty name part e = cc
part-nodes (function_type a b) (function_type c d) name part e =
    go (part_at a c name) (part_at b d name) e (λ k. part-nodes a c name part k) (λ k. part-nodes b d name part k)
  where
    go : (p q : Option HolType) → first_answer p q ≡ Some part → (p ≡ Some part → type_nodes part ≤ type_nodes c) → (q ≡ Some part → type_nodes part ≤ type_nodes d)
        → type_nodes part ≤ type_nodes (function_type c d)
    go (Some found) q e left right = omega (arith, left e)
    go None q e left right = omega (arith, right e)
part-nodes (function_type a b) _ name part e = cc
part-nodes (declared_type other) ty name part e = cc
