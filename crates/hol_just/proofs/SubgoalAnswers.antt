-- Which trees name subgoals below a count alone, computed from line to line.
use Rattle.std.proofs.Common.{◌≡◌, ℕ, List, [], ◌∷◌, ◌++◌, Bool, true, ◌&&◌, map, refl, sym, ap, ◌∙◌, Option, Some, None}
use Rattle.std.specs.Prelude.{slice_get}
use Rattle.std.specs.Option.{unwrap_or, option_map}
use Rattle.std.proofs.lemmas.Option.{slice_get-map, unwrap_or-slice_get}
use Rattle.hol_model.specs.Goals.Justifications.{Justification, named}
use Rattle.hol_just.specs.Flat.{FlatLine, flat_sub, flat_named, flat_lemma, flat_rule, cited, cited_parts, tree_of_line, trees_after, tree}
use Rattle.hol_just.specs.Lines.{flat_lines, flat_of_lines}
use Rattle.hol_just.specs.Subgoals.{subgoals_are_below, all_subgoals_are_below, cited_answer, all_cited, answer_of_line, answers_after}
use Rattle.hol_just.specs.declared.line.Line.{Line}

cited_answer-tree : (count : ℕ) (trees : List Justification) (place : ℕ) → cited_answer (map (subgoals_are_below count) trees) place ≡ subgoals_are_below count (cited trees place)
cited_answer-tree count trees place =
    sym (unwrap_or-slice_get (map (subgoals_are_below count) trees) place true)
    ∙ ap (λ found. unwrap_or found true) (slice_get-map (subgoals_are_below count) trees place) ∙ cases (slice_get trees place)
  where
    cases : (found : Option Justification) → unwrap_or (option_map (subgoals_are_below count) found) true ≡ subgoals_are_below count (unwrap_or found (named []))
    cases None = refl
    cases (Some found) = refl

all_cited-trees : (count : ℕ) (trees : List Justification) (places : List ℕ)
    → all_cited (map (subgoals_are_below count) trees) places ≡ all_subgoals_are_below count (cited_parts trees places)
all_cited-trees count trees [] = refl
all_cited-trees count trees (place ∷ places) = λ i. cited_answer-tree count trees place i && all_cited-trees count trees places i

answer_of_line-tree : (count : ℕ) (trees : List Justification) (line : FlatLine)
    → answer_of_line count (map (subgoals_are_below count) trees) line ≡ subgoals_are_below count (tree_of_line trees line)
answer_of_line-tree count trees (flat_sub i) = refl
answer_of_line-tree count trees (flat_named name) = refl
answer_of_line-tree count trees (flat_lemma k) = refl
answer_of_line-tree count trees (flat_rule rule places) = all_cited-trees count trees places

map-end : (count : ℕ) (trees : List Justification) (x : Justification)
    → map (subgoals_are_below count) (trees ++ x ∷ []) ≡ map (subgoals_are_below count) trees ++ subgoals_are_below count x ∷ []
map-end count [] x = refl
map-end count (y ∷ trees) x = ap (λ rest. subgoals_are_below count y ∷ rest) (map-end count trees x)

answers_after-trees : (count : ℕ) (trees : List Justification) (lines : List FlatLine)
    → answers_after count (map (subgoals_are_below count) trees) lines ≡ map (subgoals_are_below count) (trees_after trees lines)
answers_after-trees count trees [] = refl
answers_after-trees count trees (line ∷ lines) =
    ap (λ answers. answers_after count answers lines)
    (ap (λ found. map (subgoals_are_below count) trees ++ found ∷ []) (answer_of_line-tree count trees line) ∙ sym (map-end count trees (tree_of_line trees line)))
    ∙ answers_after-trees count (trees ++ tree_of_line trees line ∷ []) lines

-- the answer found along the lines is that of the tree
pub root_answer : (count : ℕ) (answers : List Bool) (lines : List Line) (root : ℕ) → answers ≡ answers_after count [] (flat_lines lines)
    → cited_answer answers root ≡ subgoals_are_below count (tree (flat_of_lines lines root))
root_answer count answers lines root are =
    ap (λ found. cited_answer found root) (are ∙ answers_after-trees count [] (flat_lines lines)) ∙ cited_answer-tree count (trees_after [] (flat_lines lines)) root
