-- How the bytes of a script are cut into commands.
use Rattle.std.specs.Prelude.{◌≡◌, ℕ, ◌+◌, Bool, true, false, ◌==◌, ◌&&◌, ◌||◌, List, [], ◌∷◌, ◌++◌, Option, None, Some, count_by}
use Rattle.std.specs.List.{list_all, take_while}
use Rattle.hol_model.specs.Texts.Lexing.{is_blank}

-- `;;` stands at the front
abbrev pub begins_mark : List ℕ → Bool
begins_mark [] = false
begins_mark (a ∷ []) = false
begins_mark (a ∷ b ∷ rest) = (a == 59) && (b == 59)

abbrev pub has_mark : List ℕ → Bool
has_mark [] = false
has_mark (a ∷ rest) = begins_mark (a ∷ rest) || has_mark rest

-- the first `;;` stands between the two parts
pub record IsCut (bytes piece rest : List ℕ) : Type 0 where
  pub whole : bytes ≡ piece ++ 59 ∷ 59 ∷ rest
  pub first : has_mark (piece ++ 59 ∷ []) ≡ false

-- each of the pieces ends at the first `;;` from there on, and none stands in what comes last
abbrev pub Cuts : List ℕ → List (List ℕ) → List ℕ → Type 0
Cuts bytes [] last = (bytes ≡ last) × (has_mark last ≡ false)
Cuts bytes (piece ∷ pieces) last = (rest : List ℕ) × IsCut bytes piece rest × Cuts rest pieces last

-- a piece of a script with the line of its first byte that is not white space; `None`: the text behind the last `;;`
pub record Request : Type 0 where
  pub line : ℕ
  pub text : Option (List ℕ)

abbrev pub is_line_feed : ℕ → Bool
is_line_feed byte = byte == 10

abbrev pub line_feeds : List ℕ → ℕ
line_feeds bytes = count_by is_line_feed bytes

-- the line feeds in the white space at the front
abbrev pub leading_line_feeds : List ℕ → ℕ
leading_line_feeds bytes = line_feeds (take_while is_blank bytes)

abbrev pub is_blank_text : List ℕ → Bool
is_blank_text bytes = list_all is_blank bytes

-- a request for a text that is not blank, before others
abbrev pub request_and : Bool → Request → List Request → List Request
request_and true request others = others
request_and false request others = request ∷ others

-- the requests of a script's pieces from a line on: a blank piece asks for nothing
abbrev pub requested : ℕ → List (List ℕ) → List ℕ → List Request
requested line [] last = request_and (is_blank_text last) (record { line = line + leading_line_feeds last; text = None }) []
requested line (piece ∷ pieces) last =
    request_and (is_blank_text piece) (record { line = line + leading_line_feeds piece; text = Some piece }) (requested (line + line_feeds piece) pieces last)
