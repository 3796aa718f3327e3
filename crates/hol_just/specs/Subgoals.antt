-- Whether a justification names subgoals below a count alone: of its tree, and computed from line to line.
use Rattle.std.specs.Prelude.{ℕ, suc, List, [], ◌∷◌, ◌++◌, Bool, true, ◌&&◌, nat_le, slice_index_or}
use Rattle.hol_model.specs.Goals.Justifications.{Justification, sub, named, lemma, by_rule, Parts, no_parts, part}
use Rattle.hol_just.specs.Flat.{FlatLine, flat_sub, flat_rule}

-- each subgoal of the tree has a number below the count
abbrev mutual
  pub subgoals_are_below : ℕ → Justification → Bool
  subgoals_are_below count (sub i) = nat_le (suc i) count
  subgoals_are_below count (named name) = true
  subgoals_are_below count (lemma k) = true
  subgoals_are_below count (by_rule rule parts) = all_subgoals_are_below count parts

  pub all_subgoals_are_below : ℕ → Parts → Bool
  all_subgoals_are_below count no_parts = true
  all_subgoals_are_below count (part first rest) = subgoals_are_below count first && all_subgoals_are_below count rest

-- the answer for a cited line
abbrev pub cited_answer : List Bool → ℕ → Bool
cited_answer answers place = slice_index_or answers place true

abbrev pub all_cited : List Bool → List ℕ → Bool
all_cited answers [] = true
all_cited answers (place ∷ places) = cited_answer answers place && all_cited answers places

-- the answer for a line, behind lines with these answers
abbrev pub answer_of_line : ℕ → List Bool → FlatLine → Bool
answer_of_line count answers (flat_sub i) = nat_le (suc i) count
answer_of_line count answers (flat_rule rule places) = all_cited answers places
answer_of_line count answers _ = true

-- the answers for lines, after those for the lines before
abbrev pub answers_after : ℕ → List Bool → List FlatLine → List Bool
answers_after count answers [] = answers
answers_after count answers (line ∷ lines) = answers_after count (answers ++ answer_of_line count answers line ∷ []) lines
