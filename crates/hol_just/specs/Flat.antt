-- Justifications as lists of lines that cite earlier lines of the list, and the trees that they stand for.
use Rattle.std.specs.Prelude.{ℕ, suc, ◌+◌, ◌-◌, List, [], ◌∷◌, ◌++◌, length, map, Bool, true, ◌&&◌, Option, Some, None, slice_get, slice_index, nat_le}
use Rattle.std.specs.List.{list_all}
use Rattle.std.specs.Option.{unwrap_or}
use Rattle.hol_model.specs.Derived.InferenceRules.{InferenceRule}
use Rattle.hol_model.specs.Goals.Justifications.{Justification, sub, named, lemma, by_rule, Parts, no_parts, part}
use Rattle.hol_model.specs.Goals.Splicing.{Portion}

-- a subgoal, a stored theorem, a lemma, or a rule with the places of the lines that justify its premises
pub data FlatLine : Type 0 where
  flat_sub : ℕ → FlatLine
  flat_named : List ℕ → FlatLine
  flat_lemma : ℕ → FlatLine
  flat_rule : InferenceRule → List ℕ → FlatLine

-- a list of lines, and the place of that which stands for the whole
pub record FlatJustification : Type 0 where
  pub lines : List FlatLine
  pub root : ℕ

-- the tree of a cited line
abbrev pub cited : List Justification → ℕ → Justification
cited trees place = unwrap_or (slice_get trees place) (named [])

abbrev pub cited_parts : List Justification → List ℕ → Parts
cited_parts trees [] = no_parts
cited_parts trees (place ∷ places) = part (cited trees place) (cited_parts trees places)

-- the tree of a line that comes after lines with these trees
abbrev pub tree_of_line : List Justification → FlatLine → Justification
tree_of_line trees (flat_sub i) = sub i
tree_of_line trees (flat_named name) = named name
tree_of_line trees (flat_lemma k) = lemma k
tree_of_line trees (flat_rule rule places) = by_rule rule (cited_parts trees places)

-- the trees of lines, after those of the lines before
abbrev pub trees_after : List Justification → List FlatLine → List Justification
trees_after trees [] = trees
trees_after trees (line ∷ lines) = trees_after (trees ++ tree_of_line trees line ∷ []) lines

-- the tree that a list of lines stands for
abbrev pub tree : FlatJustification → Justification
tree flat = cited (trees_after [] flat.lines) flat.root

-- each place is below a number
abbrev pub are_below : ℕ → List ℕ → Bool
are_below limit places = list_all (λ place. nat_le (suc place) limit) places

abbrev pub cites_below : ℕ → FlatLine → Bool
cites_below limit (flat_rule rule places) = are_below limit places
cites_below limit _ = true

-- each of the lines, which come after so many others, cites earlier ones alone
abbrev pub cite_earlier : ℕ → List FlatLine → Bool
cite_earlier before [] = true
cite_earlier before (line ∷ lines) = cites_below before line && cite_earlier (suc before) lines

abbrev pub is_well_cited : FlatJustification → Bool
is_well_cited flat = cite_earlier 0 flat.lines && nat_le (suc flat.root) (length flat.lines)

-- splicing

-- a flat justification over so many subgoals
pub record FlatPortion : Type 0 where
  pub subgoals : ℕ
  pub justification : FlatJustification

abbrev pub portion_of_flat : FlatPortion → Portion
portion_of_flat portion = record { subgoals = portion.subgoals; justification = tree portion.justification }

-- a line with places and subgoals numbered so much higher
abbrev pub moved_line : ℕ → ℕ → FlatLine → FlatLine
moved_line places subgoals (flat_sub i) = flat_sub (subgoals + i)
moved_line places subgoals (flat_named name) = flat_named name
moved_line places subgoals (flat_lemma k) = flat_lemma k
moved_line places subgoals (flat_rule rule cites) = flat_rule rule (map (λ place. places + place) cites)

-- the lines of all portions, one portion after another
abbrev pub joined_lines : ℕ → ℕ → List FlatPortion → List FlatLine
joined_lines places subgoals [] = []
joined_lines places subgoals (portion ∷ portions) =
    map (moved_line places subgoals) portion.justification.lines
    ++ joined_lines (places + length portion.justification.lines) (subgoals + portion.subgoals) portions

-- where the line stands that stands for each portion
abbrev pub roots : ℕ → List FlatPortion → List ℕ
roots places [] = []
roots places (portion ∷ portions) = (places + portion.justification.root) ∷ roots (places + length portion.justification.lines) portions

-- the subgoals of all portions
abbrev pub all_subgoals : List FlatPortion → ℕ
all_subgoals [] = 0
all_subgoals (portion ∷ portions) = portion.subgoals + all_subgoals portions

-- a line that cites the new places of the lines that it cited
abbrev pub redirected_line : List ℕ → FlatLine → FlatLine
redirected_line new_places (flat_sub i) = flat_sub i
redirected_line new_places (flat_named name) = flat_named name
redirected_line new_places (flat_lemma k) = flat_lemma k
redirected_line new_places (flat_rule rule cites) = flat_rule rule (map (slice_index new_places) cites)

-- what a line becomes: the place of a portion's root for its subgoal, or a line of its own; a subgoal past the portions
-- is one past all their subgoals
pub data Replaced : Type 0 where
  by_root : ℕ → Replaced
  by_line : FlatLine → Replaced

abbrev pub replaced_sub : ℕ → ℕ → Option ℕ → Replaced
replaced_sub subgoals past (Some root) = by_root root
replaced_sub subgoals past None = by_line (flat_sub (subgoals + past))

abbrev pub replaced_line : List ℕ → ℕ → List ℕ → FlatLine → Replaced
replaced_line portion_roots subgoals new_places (flat_sub i) = replaced_sub subgoals (i - length portion_roots) (slice_get portion_roots i)
replaced_line portion_roots subgoals new_places line = by_line (redirected_line new_places line)

-- the lines so far, and the new place of each old line
pub record Redirected : Type 0 where
  pub lines : List FlatLine
  pub new_places : List ℕ

abbrev pub with_replaced : Redirected → Replaced → Redirected
with_replaced so_far (by_root place) = record { lines = so_far.lines; new_places = so_far.new_places ++ place ∷ [] }
with_replaced so_far (by_line line) = record { lines = so_far.lines ++ line ∷ []; new_places = so_far.new_places ++ length so_far.lines ∷ [] }

-- with the lines of a justification over the portions
abbrev pub redirected : List ℕ → ℕ → Redirected → List FlatLine → Redirected
redirected portion_roots subgoals so_far [] = so_far
redirected portion_roots subgoals so_far (line ∷ lines) =
    redirected portion_roots subgoals (with_replaced so_far (replaced_line portion_roots subgoals so_far.new_places line)) lines

abbrev pub flat_splice : FlatJustification → List FlatPortion → FlatJustification
flat_splice flat portions =
    let all : Redirected = redirected (roots 0 portions) (all_subgoals portions) (record { lines = joined_lines 0 0 portions; new_places = [] }) flat.lines in
    record { lines = all.lines; root = slice_index all.new_places flat.root }
