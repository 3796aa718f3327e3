-- The depths of the trees of lines, computed from line to line.
use Rattle.std.specs.Prelude.{ℕ, ◌+◌, ◌≤◌, List, [], ◌∷◌, ◌++◌, max, slice_index_or}
use Rattle.hol_just.specs.Flat.{FlatLine, flat_rule}

-- the greatest of the numbers at these places, of a place without a number the other one
abbrev pub greatest_at : ℕ → List ℕ → List ℕ → ℕ
greatest_at other numbers [] = 0
greatest_at other numbers (place ∷ places) = max (slice_index_or numbers place other) (greatest_at other numbers places)

-- the depth of a cited line
abbrev pub cited_depth : List ℕ → ℕ → ℕ
cited_depth depths place = slice_index_or depths place 1

-- the depth of a line's tree, behind lines of these depths
abbrev pub depth_of_line : List ℕ → FlatLine → ℕ
depth_of_line depths (flat_rule rule places) = greatest_at 1 depths places + 1
depth_of_line depths _ = 1

-- the depths of lines' trees, after those of the lines before
abbrev pub depths_after : List ℕ → List FlatLine → List ℕ
depths_after depths [] = depths
depths_after depths (line ∷ lines) = depths_after (depths ++ depth_of_line depths line ∷ []) lines

-- each number is at most the limit
abbrev pub AreWithin : ℕ → List ℕ → Type 0
AreWithin limit [] = Unit {0}
AreWithin limit (x ∷ xs) = (x ≤ limit) × AreWithin limit xs
