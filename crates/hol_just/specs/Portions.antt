-- Justifications that are refined at their first subgoal again and again: their trees, and the same computed from lines.
use Rattle.std.specs.Prelude.{ℕ, zero, suc, ◌+◌, ◌-◌, List, [], ◌∷◌, length, drop, slice_get, slice_index, Option, Some, None}
use Rattle.hol_model.specs.Goals.Justifications.{Justification, sub}
use Rattle.hol_model.specs.Goals.Splicing.{Portion, replace_subs}
use Rattle.hol_just.specs.Flat.{FlatLine, FlatPortion, cited, trees_after, Redirected, redirected}
use Rattle.hol_just.specs.Steps.{flat_of, tree_of}
use Rattle.hol_just.specs.declared.portion.Portion as code

-- ---- trees

-- what stands for each subgoal once the first is refined: the others are numbered behind its subgoals
abbrev pub in_place_of_first : Portion → ℕ → Justification
in_place_of_first portion zero = portion.justification
in_place_of_first portion (suc i) = sub (portion.subgoals + i)

-- the portion in place of the first subgoal
abbrev pub refined_first : Portion → Justification → Justification
refined_first portion justification = replace_subs (in_place_of_first portion) justification

-- the portions one after another, the newest first in the list, each in place of the subgoal that is first then
abbrev pub refined_in_turn : List Portion → Justification → Justification
refined_in_turn [] justification = justification
refined_in_turn (newest ∷ older) justification = refined_first newest (refined_in_turn older justification)

abbrev pub portion_of : code.Portion → Portion
portion_of portion = record { subgoals = portion.subgoals; justification = tree_of portion.just }

-- ---- lines

abbrev pub flat_portion_of : code.Portion → FlatPortion
flat_portion_of portion = record { subgoals = portion.subgoals; justification = flat_of portion.just }

-- what stands for each subgoal: the tree at its root among the lines; past the roots the subgoals from a number on
pub record FlatFront : Type 0 where
  pub lines : List FlatLine
  pub roots : List ℕ
  pub subgoals : ℕ

abbrev pub stands_at : List Justification → Justification → Option ℕ → Justification
stands_at trees past (Some root) = cited trees root
stands_at trees past None = past

abbrev pub stands_for : FlatFront → ℕ → Justification
stands_for front i = stands_at (trees_after [] front.lines) (sub (front.subgoals + (i - length front.roots))) (slice_get front.roots i)

-- nothing stands for a subgoal but itself
abbrev pub bare_front : FlatFront
bare_front = record { lines = []; roots = []; subgoals = 0 }

-- the lines of a portion behind those of a front
abbrev pub behind_front : FlatFront → List FlatLine → Redirected
behind_front front lines = redirected front.roots front.subgoals (record { lines = front.lines; new_places = [] }) lines

-- the front before the portion: it stands for the first subgoal
abbrev pub front_before : FlatFront → FlatPortion → FlatFront
front_before front portion =
    let all : Redirected = behind_front front portion.justification.lines in
    record {
      lines = all.lines;
      roots = slice_index all.new_places portion.justification.root ∷ drop portion.subgoals front.roots;
      subgoals = front.subgoals + (portion.subgoals - length front.roots);
    }

-- the front before portions, the newest first in the list
abbrev pub front_before_all : List FlatPortion → FlatFront → FlatFront
front_before_all [] front = front
front_before_all (newest ∷ older) front = front_before_all older (front_before front newest)
