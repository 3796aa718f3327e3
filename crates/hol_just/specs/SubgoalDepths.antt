-- How deep a subgoal stands in a justification: in its tree, and computed from line to line.
use Rattle.std.specs.Prelude.{ℕ, zero, suc, List, [], ◌∷◌, ◌++◌, max, ◌==◌, if◌then◌else◌}
use Rattle.hol_model.specs.Goals.Justifications.{Justification, sub, named, lemma, by_rule, Parts, no_parts, part}
use Rattle.hol_just.specs.Depths.{greatest_at}
use Rattle.hol_just.specs.Flat.{FlatLine, flat_sub, flat_rule}

-- one level more, where it stands there
abbrev pub raised : ℕ → ℕ
raised zero = 0
raised (suc depth) = suc (suc depth)

abbrev pub depth_if : ℕ → ℕ → ℕ
depth_if number other = if other == number then 1 else 0

-- the levels of the tree down to the deepest place of the subgoal with this number; 0 where it does not stand there
abbrev mutual
  pub subgoal_depth : ℕ → Justification → ℕ
  subgoal_depth number (sub i) = depth_if number i
  subgoal_depth number (named name) = 0
  subgoal_depth number (lemma k) = 0
  subgoal_depth number (by_rule rule parts) = raised (subgoal_depth_in_parts number parts)

  pub subgoal_depth_in_parts : ℕ → Parts → ℕ
  subgoal_depth_in_parts number no_parts = 0
  subgoal_depth_in_parts number (part first rest) = max (subgoal_depth number first) (subgoal_depth_in_parts number rest)

-- how deep it stands in a line's tree, behind lines in whose trees it stands so deep
abbrev pub subgoal_depth_of_line : ℕ → List ℕ → FlatLine → ℕ
subgoal_depth_of_line number depths (flat_sub i) = depth_if number i
subgoal_depth_of_line number depths (flat_rule rule places) = raised (greatest_at 0 depths places)
subgoal_depth_of_line number depths _ = 0

-- the same for lines, after those before
abbrev pub subgoal_depths_after : ℕ → List ℕ → List FlatLine → List ℕ
subgoal_depths_after number depths [] = depths
subgoal_depths_after number depths (line ∷ lines) = subgoal_depths_after number (depths ++ subgoal_depth_of_line number depths line ∷ []) lines
