-- Ordered lists of terms, by numbers.
use Rattle.std.specs.Prelude.{◌≡◌, ℕ, List, [], ◌∷◌, map}
use Rattle.std.specs.declared.cmp.Ordering.TheVariants.{Less}
use Rattle.hol_model.specs.Terms.Nameless.{Nameless, nameless_cmp}
use Rattle.hol_check_terms.specs.Terms.{term_at}

-- the terms of the numbers
abbrev pub terms_in : List Nameless → List ℕ → List Nameless
terms_in terms numbers = map (term_at terms) numbers

-- the term comes before the first of a list, where there is one
abbrev pub IsBefore : Nameless → List Nameless → Type 0
IsBefore term [] = Unit {0}
IsBefore term (first ∷ rest) = nameless_cmp term first ≡ Less

-- each term comes before the next, so no two of them are the same
abbrev pub AreOrdered : List Nameless → Type 0
AreOrdered [] = Unit {0}
AreOrdered (first ∷ rest) = IsBefore first rest × AreOrdered rest
