-- Depths of trees, computed from line to line.
use Rattle.std.proofs.Common.{◌≡◌, ℕ, zero, suc, ◌+◌, ◌<◌, ◌≤◌, max, List, [], ◌∷◌, ◌++◌, drop, length, map, refl, sym, ap, ◌∙◌, arith, add-one, drop-cons, get_or, length-append, Option, Some, None}
use Rattle.std.specs.Prelude.{slice_get}
use Rattle.std.specs.Option.{unwrap_or, option_map}
use Rattle.std.proofs.lemmas.Option.{slice_get-map, unwrap_or-slice_get}
use Rattle.hol_model.specs.Goals.Justifications.{Justification, named}
use Rattle.hol_just.specs.Flat.{FlatLine, flat_sub, flat_named, flat_lemma, flat_rule, cited, cited_parts, tree_of_line, trees_after, tree}
use Rattle.hol_just.specs.Lines.{flat_line, flat_lines}
use Rattle.hol_just.specs.declared.line.Line.{Line}
use Rattle.hol_just.specs.Depths.{AreWithin, cited_depth, greatest_at, depth_of_line, depths_after}
use Rattle.hol_model.specs.Goals.Replays.{depth, depth_of_parts}

-- the lines that are left, and the first of them
pub lines-drop : (lines : List Line) (i : ℕ) (line : Line) → i < length lines → line ≡ get_or lines i line → flat_lines (drop i lines) ≡ flat_line line ∷ flat_lines (drop (i + 1) lines)
lines-drop lines i line within is = rw (add-one, drop-cons lines i line within, ← is) refl

pub depths-next : (depths grown : List ℕ) (lines : List Line) (i : ℕ) (line : Line) (depth : ℕ) → i < length lines → line ≡ get_or lines i line → grown ≡ depths ++ depth ∷ []
    → depth ≡ depth_of_line depths (flat_line line) → depths_after grown (flat_lines (drop (i + 1) lines)) ≡ depths_after depths (flat_lines (drop i lines))
depths-next depths grown lines i line depth within is more found =
    ap (λ all. depths_after all (flat_lines (drop (i + 1) lines))) (more ∙ ap (λ d. depths ++ d ∷ []) found) ∙ ap (depths_after depths) (sym (lines-drop lines i line within is))

pub greatest-drop : (other : ℕ) (numbers places : List ℕ) (i : ℕ) → i < length places
    → greatest_at other numbers (drop i places) ≡ max (get_or numbers (get_or places i 0) other) (greatest_at other numbers (drop (i + 1) places))
greatest-drop other numbers places i within =
    ap (greatest_at other numbers) (drop-cons places i 0 within)
    ∙ ap (λ n. max (get_or numbers (get_or places i 0) other) (greatest_at other numbers (drop n places))) next
  where
    next : suc i ≡ i + 1
    next = omega arith

cited_depth-tree : (trees : List Justification) (place : ℕ) → cited_depth (map depth trees) place ≡ depth (cited trees place)
cited_depth-tree trees place =
    sym (unwrap_or-slice_get (map depth trees) place 1) ∙ ap (λ found. unwrap_or found 1) (slice_get-map depth trees place) ∙ cases (slice_get trees place)
  where
    cases : (found : Option Justification) → unwrap_or (option_map depth found) 1 ≡ depth (unwrap_or found (named []))
    cases None = refl
    cases (Some found) = refl

deepest-trees : (trees : List Justification) (places : List ℕ) → greatest_at 1 (map depth trees) places ≡ depth_of_parts (cited_parts trees places)
deepest-trees trees [] = refl
deepest-trees trees (place ∷ places) = λ i. max (cited_depth-tree trees place i) (deepest-trees trees places i)

depth_of_line-tree : (trees : List Justification) (line : FlatLine) → depth_of_line (map depth trees) line ≡ depth (tree_of_line trees line)
depth_of_line-tree trees (flat_sub i) = refl
depth_of_line-tree trees (flat_named name) = refl
depth_of_line-tree trees (flat_lemma k) = refl
depth_of_line-tree trees (flat_rule rule places) = ap (λ n. n + 1) (deepest-trees trees places)

map-end : (trees : List Justification) (x : Justification) → map depth (trees ++ x ∷ []) ≡ map depth trees ++ depth x ∷ []
map-end [] x = refl
map-end (y ∷ trees) x = ap (λ rest. depth y ∷ rest) (map-end trees x)

depths_after-trees : (trees : List Justification) (lines : List FlatLine) → depths_after (map depth trees) lines ≡ map depth (trees_after trees lines)
depths_after-trees trees [] = refl
depths_after-trees trees (line ∷ lines) =
    ap (λ depths. depths_after depths lines) (ap (λ found. map depth trees ++ found ∷ []) (depth_of_line-tree trees line) ∙ sym (map-end trees (tree_of_line trees line)))
    ∙ depths_after-trees (trees ++ tree_of_line trees line ∷ []) lines

-- the depth found along the lines is that of the tree
pub root_depth : (depths : List ℕ) (lines : List FlatLine) (root : ℕ) → depths ≡ depths_after [] lines → cited_depth depths root ≡ depth (tree (record { lines = lines; root = root }))
root_depth depths lines root are =
    ap (λ found. cited_depth found root) (are ∙ depths_after-trees [] lines) ∙ cited_depth-tree (trees_after [] lines) root

-- ---- limits of depths

pub within-more : (limit more : ℕ) (xs : List ℕ) → limit ≤ more → AreWithin limit xs → AreWithin more xs
within-more limit more [] le within = tt
within-more limit more (x ∷ xs) le within = let first = within.0 in (omega (arith, first, le), within-more limit more xs le within.1)

pub within-end : (limit : ℕ) (xs : List ℕ) (x : ℕ) → AreWithin limit xs → x ≤ limit → AreWithin limit (xs ++ x ∷ [])
within-end limit [] x within last = (last, tt)
within-end limit (y ∷ xs) x within last = (within.0, within-end limit xs x within.1 last)

pub within-at : (limit other : ℕ) (xs : List ℕ) (place : ℕ) → other ≤ limit → AreWithin limit xs → get_or xs place other ≤ limit
within-at limit other [] place le within = le
within-at limit other (x ∷ xs) zero le within = within.0
within-at limit other (x ∷ xs) (suc place) le within = within-at limit other xs place le within.1

pub greatest-within : (limit other : ℕ) (numbers places : List ℕ) → other ≤ limit → AreWithin limit numbers → greatest_at other numbers places ≤ limit
greatest-within limit other numbers [] le within = omega arith
greatest-within limit other numbers (place ∷ places) le within =
    let first = within-at limit other numbers place le within in
    let rest = greatest-within limit other numbers places le within in
    omega (arith, first, rest)

depth_of_line-within : (limit : ℕ) (depths : List ℕ) (line : FlatLine) → 1 ≤ limit → AreWithin limit depths → depth_of_line depths line ≤ limit + 1
depth_of_line-within limit depths (flat_sub i) le within = omega (arith, le)
depth_of_line-within limit depths (flat_named name) le within = omega (arith, le)
depth_of_line-within limit depths (flat_lemma k) le within = omega (arith, le)
depth_of_line-within limit depths (flat_rule rule places) le within = let all = greatest-within limit 1 depths places le within in omega (arith, all)

-- one line more
pub line-within : (depths grown : List ℕ) (line : FlatLine) (depth : ℕ) → grown ≡ depths ++ depth ∷ [] → depth ≡ depth_of_line depths line
    → AreWithin (length depths + 1) depths → AreWithin (length grown + 1) grown
line-within depths grown line depth is found within =
    let here = depth_of_line-within (length depths + 1) depths line (omega arith) within in
    let longer = length-append depths (depth ∷ []) in
    rw (is, longer)
    (within-end (length depths + 1 + 1) depths depth (within-more (length depths + 1) (length depths + 1 + 1) depths (omega arith) within) (omega (arith, here, found)))
