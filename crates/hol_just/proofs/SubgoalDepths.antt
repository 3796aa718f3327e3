-- How deep a subgoal stands in trees, computed from line to line.
use Rattle.std.proofs.Common.{◌≡◌, ℕ, zero, suc, ◌+◌, ◌<◌, ◌≤◌, max, List, [], ◌∷◌, ◌++◌, drop, length, map, refl, sym, ap, ◌∙◌, arith, get_or, Bool, true, false, if◌then◌else◌, ◌==◌}
use Rattle.std.proofs.Common.{length-append, Option, Some, None}
use Rattle.std.specs.Prelude.{slice_get, slice_index}
use Rattle.std.specs.Option.{unwrap_or, option_map}
use Rattle.std.proofs.lemmas.Option.{slice_get-map, unwrap_or-slice_get}
use Rattle.hol_model.specs.Goals.Justifications.{Justification, named}
use Rattle.hol_just.specs.Flat.{FlatLine, flat_sub, flat_named, flat_lemma, flat_rule, cited, cited_parts, tree_of_line, trees_after, tree}
use Rattle.hol_just.specs.Depths.{AreWithin, greatest_at}
use Rattle.hol_just.specs.Lines.{flat_line, flat_lines, flat_of_lines}
use Rattle.hol_just.specs.SubgoalDepths.{raised, depth_if, subgoal_depth, subgoal_depth_in_parts, subgoal_depth_of_line, subgoal_depths_after}
use Rattle.hol_just.specs.declared.line.Line.{Line}
use Rattle.hol_just.proofs.Depths.{lines-drop, within-more, within-end, greatest-within}

pub depths-next : (number : ℕ) (depths grown : List ℕ) (lines : List Line) (i : ℕ) (line : Line) (depth : ℕ) → i < length lines → line ≡ get_or lines i line
    → grown ≡ depths ++ depth ∷ [] → depth ≡ subgoal_depth_of_line number depths (flat_line line)
    → subgoal_depths_after number grown (flat_lines (drop (i + 1) lines)) ≡ subgoal_depths_after number depths (flat_lines (drop i lines))
depths-next number depths grown lines i line depth within is more found =
    ap (λ all. subgoal_depths_after number all (flat_lines (drop (i + 1) lines))) (more ∙ ap (λ d. depths ++ d ∷ []) found)
    ∙ ap (subgoal_depths_after number depths) (sym (lines-drop lines i line within is))

depth_at-tree : (number : ℕ) (trees : List Justification) (place : ℕ) → slice_index (map (subgoal_depth number) trees) place ≡ subgoal_depth number (cited trees place)
depth_at-tree number trees place =
    sym (unwrap_or-slice_get (map (subgoal_depth number) trees) place 0)
    ∙ ap (λ found. unwrap_or found 0) (slice_get-map (subgoal_depth number) trees place) ∙ cases (slice_get trees place)
  where
    cases : (found : Option Justification) → unwrap_or (option_map (subgoal_depth number) found) 0 ≡ subgoal_depth number (unwrap_or found (named []))
    cases None = refl
    cases (Some found) = refl

greatest-trees : (number : ℕ) (trees : List Justification) (places : List ℕ)
    → greatest_at 0 (map (subgoal_depth number) trees) places ≡ subgoal_depth_in_parts number (cited_parts trees places)
greatest-trees number trees [] = refl
greatest-trees number trees (place ∷ places) = λ i. max (depth_at-tree number trees place i) (greatest-trees number trees places i)

depth_of_line-tree : (number : ℕ) (trees : List Justification) (line : FlatLine)
    → subgoal_depth_of_line number (map (subgoal_depth number) trees) line ≡ subgoal_depth number (tree_of_line trees line)
depth_of_line-tree number trees (flat_sub i) = refl
depth_of_line-tree number trees (flat_named name) = refl
depth_of_line-tree number trees (flat_lemma k) = refl
depth_of_line-tree number trees (flat_rule rule places) = ap raised (greatest-trees number trees places)

map-end : (number : ℕ) (trees : List Justification) (x : Justification)
    → map (subgoal_depth number) (trees ++ x ∷ []) ≡ map (subgoal_depth number) trees ++ subgoal_depth number x ∷ []
map-end number [] x = refl
map-end number (y ∷ trees) x = ap (λ rest. subgoal_depth number y ∷ rest) (map-end number trees x)

depths_after-trees : (number : ℕ) (trees : List Justification) (lines : List FlatLine)
    → subgoal_depths_after number (map (subgoal_depth number) trees) lines ≡ map (subgoal_depth number) (trees_after trees lines)
depths_after-trees number trees [] = refl
depths_after-trees number trees (line ∷ lines) =
    ap (λ depths. subgoal_depths_after number depths lines)
    (ap (λ found. map (subgoal_depth number) trees ++ found ∷ []) (depth_of_line-tree number trees line) ∙ sym (map-end number trees (tree_of_line trees line)))
    ∙ depths_after-trees number (trees ++ tree_of_line trees line ∷ []) lines

-- the depth found along the lines is that in the tree
pub root_depth : (number : ℕ) (depths : List ℕ) (lines : List Line) (root : ℕ) → depths ≡ subgoal_depths_after number [] (flat_lines lines)
    → slice_index depths root ≡ subgoal_depth number (tree (flat_of_lines lines root))
root_depth number depths lines root are =
    ap (λ found. slice_index found root) (are ∙ depths_after-trees number [] (flat_lines lines)) ∙ depth_at-tree number (trees_after [] (flat_lines lines)) root

-- ---- limits of depths

raised-within : (depth limit : ℕ) → depth ≤ limit → raised depth ≤ limit + 1
raised-within zero limit le = omega arith
raised-within (suc depth) limit le = omega (arith, le)

depth_if-within : (number other limit : ℕ) → depth_if number other ≤ limit + 1
depth_if-within number other limit = go (other == number)
  where
    go : (same : Bool) → (if same then 1 else 0) ≤ limit + 1
    go true = omega arith
    go false = omega arith

depth_of_line-within : (number limit : ℕ) (depths : List ℕ) (line : FlatLine) → AreWithin limit depths → subgoal_depth_of_line number depths line ≤ limit + 1
depth_of_line-within number limit depths (flat_sub i) within = depth_if-within number i limit
depth_of_line-within number limit depths (flat_named name) within = omega arith
depth_of_line-within number limit depths (flat_lemma k) within = omega arith
depth_of_line-within number limit depths (flat_rule rule places) within = raised-within (greatest_at 0 depths places) limit (greatest-within limit 0 depths places (omega arith) within)

-- one line more
pub line-within : (number : ℕ) (depths grown : List ℕ) (line : FlatLine) (depth : ℕ) → grown ≡ depths ++ depth ∷ [] → depth ≡ subgoal_depth_of_line number depths line
    → AreWithin (length depths) depths → AreWithin (length grown) grown
line-within number depths grown line depth is found within =
    let here = depth_of_line-within number (length depths) depths line within in
    let longer = length-append depths (depth ∷ []) in
    rw (is, longer) (within-end (length depths + 1) depths depth (within-more (length depths) (length depths + 1) depths (omega arith) within) (omega (arith, here, found)))

pub raised-none : (depth : ℕ) → depth ≡ 0 → raised depth ≡ 0
raised-none zero is = refl
raised-none (suc depth) is = absurd (omega (arith, is))

pub raised-some : (depth : ℕ) → ¬ (depth ≡ 0) → raised depth ≡ depth + 1
raised-some zero some = absurd (some refl)
raised-some (suc depth) some = omega arith
