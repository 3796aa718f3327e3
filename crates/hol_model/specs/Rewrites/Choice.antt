-- The first of a list of rules that matches a term.
use Rattle.std.specs.Prelude.{◌≡◌, ℕ, ◌<◌, List, map, Some, slice_get}
use Rattle.std.specs.Coded.{Coded, coded_list, coded×}
use Rattle.hol_model.specs.Terms.HolType.{HolType}
use Rattle.hol_model.specs.Terms.NamedTerm.{NamedTerm}
use Rattle.hol_model.specs.Terms.NamedTermCode.{term_code}
use Rattle.hol_model.specs.Rewrites.Matching.{Matches, HasNoMatch}

-- the left side of a rule: the variables that stay, and the pattern
abbrev pub Side : Type 0
Side = List NamedTerm × NamedTerm

abbrev pub sides_code : Coded (List Side)
sides_code = coded_list (coded× (coded_list term_code) term_code)

abbrev pub patterns_of : List Side → List NamedTerm
patterns_of sides = map (λ side. side.1) sides

-- the left side at a place of a list does not match the term
pub record DoesNotMatch (sides : List Side) (term : NamedTerm) (place : ℕ) : Type 0 where
  pub refused : (side : Side) → slice_get sides place ≡ Some side → HasNoMatch side.0 side.1 term

-- the left side at the place matches the term by these pairs (new, old), and none before it matches
pub record IsFirstMatch (sides : List Side) (term : NamedTerm) (place : ℕ) (types : List (HolType × HolType)) (terms : List (NamedTerm × NamedTerm)) : Type 0 where
  pub side : Side
  pub is_at_place : slice_get sides place ≡ Some side
  pub matches : Matches side.0 side.1 term types terms
  pub is_first : (earlier : ℕ) → earlier < place → DoesNotMatch sides term earlier

-- no left side matches the term
pub record NoneMatches (sides : List Side) (term : NamedTerm) : Type 0 where
  pub refused : (place : ℕ) → DoesNotMatch sides term place
