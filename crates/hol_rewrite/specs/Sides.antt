-- What the code's left sides stand for, and what a try at one of them answers.
use Rattle.std.specs.Prelude.{◌≡◌, ℕ, List, map, Option, Some, None, slice_get}
use Rattle.hol_model.specs.Terms.NamedTerm.{NamedTerm}
use Rattle.hol_match.specs.declared.matching.Match.{Match}
use Rattle.hol_model.specs.Rewrites.Matching.{Matches}
use Rattle.hol_rewrite.specs.declared.choice.LeftSide.{LeftSide}
use Rattle.hol_model.specs.Rewrites.Choice.{Side, DoesNotMatch}

abbrev pub viewed_sides : List LeftSide → List Side
viewed_sides sides = map (λ side. (side.fixed.items, side.pattern)) sides

-- the left side at the place matches the term
pub record MatchesAt (sides : List Side) (term : NamedTerm) (place : ℕ) (found : Match) : Type 0 where
  pub side : Side
  pub is_at_place : slice_get sides place ≡ Some side
  pub matches : Matches side.0 side.1 term found.types.items found.terms.items

abbrev pub IsTried : List Side → NamedTerm → ℕ → Option Match → Type 0
IsTried sides term place None = DoesNotMatch sides term place
IsTried sides term place (Some found) = MatchesAt sides term place found
