-- What a table of names stands for.
use Rattle.std.specs.Prelude.{ℕ, List, map}
use Rattle.std.specs.List.{IsDistinct}
use Rattle.std.specs.Str.{bytes_eq}
use Rattle.hol_check_terms.specs.declared.names.Names.TheInside.{Inside}

abbrev pub viewed_names : Inside → List (List ℕ)
viewed_names names = map (λ name. name.items) names.set.keys

-- no two names of a list are the same
abbrev pub AreDistinctNames : Inside → Type 0
AreDistinctNames names = IsDistinct (λ a b. bytes_eq a.items b.items) names.set.keys
