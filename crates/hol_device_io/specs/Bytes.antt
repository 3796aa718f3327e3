-- What a sink has taken of a piece, and how much a source has given.
use Rattle.std.specs.Prelude.{◌≡◌, ◌≤◌, ℕ, List, [], ◌∷◌, ◌++◌, Option, length}
use Rattle.std.proofs.Common.{Bor}
use Rattle.std.specs.Io.KnownBytes.{Appends, Consumes}

-- the front of the piece was appended, and the rest was not
pub record AppendsFront (old new : Option (List ℕ)) (piece : List ℕ) : Type 0 where
  pub front : List ℕ
  pub rest : List ℕ
  pub whole : piece ≡ front ++ rest
  pub taken : Appends old new front

-- no more bytes than this were taken from a source
pub record TakesWithin (old new : Option (List ℕ)) (limit : ℕ) : Type 0 where
  pub taken : List ℕ
  pub told : Consumes old new taken
  pub within_limit : length taken ≤ limit

-- the pieces one after another
abbrev pub joined : List (Bor (List ℕ)) → List ℕ
joined [] = []
joined (piece ∷ pieces) = piece.now ++ joined pieces

-- what was held, and the piece behind it: the front of them was appended, and the rest is held
pub record Puts (old new : Option (List ℕ)) (before after piece : List ℕ) : Type 0 where
  pub front : List ℕ
  pub whole : before ++ piece ≡ front ++ after
  pub taken : Appends old new front
