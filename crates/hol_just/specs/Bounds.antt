-- Lines whose numbers of subgoals are not past a limit.
use Rattle.std.specs.Prelude.{ℕ, ◌+◌, List, map, Bool, true, nat_le, if◌then◌else◌}
use Rattle.std.specs.List.{list_all}
use Rattle.hol_just.specs.Flat.{FlatLine, flat_sub, flat_named, flat_lemma, flat_rule}

abbrev pub number_is_within : ℕ → FlatLine → Bool
number_is_within limit (flat_sub i) = nat_le i limit
number_is_within limit _ = true

abbrev pub numbers_are_within : ℕ → List FlatLine → Bool
numbers_are_within limit lines = list_all (number_is_within limit) lines

-- the number, or the limit in its place
abbrev pub bounded : ℕ → ℕ → ℕ
bounded limit i = if nat_le i limit then i else limit

abbrev pub bounded_line : ℕ → FlatLine → FlatLine
bounded_line limit (flat_sub i) = flat_sub (bounded limit i)
bounded_line limit (flat_named name) = flat_named name
bounded_line limit (flat_lemma k) = flat_lemma k
bounded_line limit (flat_rule rule cites) = flat_rule rule (map (λ place. 0 + place) cites)
