-- Lines whose numbers of subgoals are not past a limit: they cite as before, and the tree is the same where it needs none past it.
use Rattle.std.proofs.Common.{◌≡◌, ℕ, zero, suc, ◌+◌, List, [], ◌∷◌, ◌++◌, Bool, true, false, ◌&&◌, if◌then◌else◌, length, map, refl, sym, ap, ◌∙◌, subst, arith, Option, Some, None}
use Rattle.std.specs.Prelude.{slice_get, nat_le}
use Rattle.std.specs.List.{list_all}
use Rattle.std.specs.Option.{unwrap_or, option_map}
use Rattle.std.proofs.lemmas.Option.{slice_get-map}
use Rattle.std.proofs.lemmas.Bool.{leb-true, le-leb}
use Rattle.hol_model.specs.Goals.Justifications.{Justification, sub, named, lemma, by_rule, Parts, no_parts, part}
use Rattle.hol_model.specs.Goals.Splicing.{replace_subs, replace_subs_in_parts}
use Rattle.hol_just.specs.Flat.{FlatLine, flat_sub, flat_named, flat_lemma, flat_rule, cited, cited_parts, tree_of_line, trees_after, tree, are_below, cites_below, cite_earlier, is_well_cited}
use Rattle.hol_just.specs.Lines.{flat_lines, flat_of_lines}
use Rattle.hol_just.specs.Subgoals.{subgoals_are_below, all_subgoals_are_below}
use Rattle.hol_just.specs.Bounds.{number_is_within, numbers_are_within, bounded, bounded_line}

first_of_both : (p q : Bool) → (p && q) ≡ true → p ≡ true
first_of_both true q passed = refl
first_of_both false q passed = cc

second_of_both : (p q : Bool) → (p && q) ≡ true → q ≡ true
second_of_both true q passed = passed
second_of_both false q passed = cc

same-places : (places : List ℕ) → map (λ place. 0 + place) places ≡ places
same-places [] = refl
same-places (place ∷ places) = λ i. (zero-more place i) ∷ (same-places places i)
  where
    zero-more : (n : ℕ) → 0 + n ≡ n
    zero-more n = omega arith

same-length : (limit : ℕ) (lines : List FlatLine) → length (map (bounded_line limit) lines) ≡ length lines
same-length limit [] = refl
same-length limit (line ∷ lines) = ap suc (same-length limit lines)

-- ---- citations

cites-same : (limit before : ℕ) (line : FlatLine) → cites_below before (bounded_line limit line) ≡ cites_below before line
cites-same limit before (flat_sub i) = refl
cites-same limit before (flat_named name) = refl
cites-same limit before (flat_lemma k) = refl
cites-same limit before (flat_rule rule places) = ap (are_below before) (same-places places)

earlier-same : (limit before : ℕ) (lines : List FlatLine) → cite_earlier before (map (bounded_line limit) lines) ≡ cite_earlier before lines
earlier-same limit before [] = refl
earlier-same limit before (line ∷ lines) = λ i. cites-same limit before line i && earlier-same limit (suc before) lines i

pub cited_bounded : (limit root : ℕ) (lines made : List FlatLine) → made ≡ map (bounded_line limit) lines → is_well_cited (record { lines = lines; root = root }) ≡ true
    → is_well_cited (record { lines = made; root = root }) ≡ true
cited_bounded limit root lines made is well =
    let same : is_well_cited (record { lines = map (bounded_line limit) lines; root = root }) ≡ is_well_cited (record { lines = lines; root = root }) =
    λ i. earlier-same limit 0 lines i && nat_le (suc root) (same-length limit lines i) in
    rw is (same ∙ well)

-- ---- trees

abbrev bounded_tree : ℕ → Justification → Justification
bounded_tree limit justification = replace_subs (λ i. sub (bounded limit i)) justification

cited-tree : (limit : ℕ) (trees : List Justification) (place : ℕ) → cited (map (bounded_tree limit) trees) place ≡ bounded_tree limit (cited trees place)
cited-tree limit trees place = ap (λ found. unwrap_or found (named [])) (slice_get-map (bounded_tree limit) trees place) ∙ cases (slice_get trees place)
  where
    cases : (found : Option Justification) → unwrap_or (option_map (bounded_tree limit) found) (named []) ≡ bounded_tree limit (unwrap_or found (named []))
    cases None = refl
    cases (Some found) = refl

cited_parts-trees : (limit : ℕ) (trees : List Justification) (places : List ℕ)
    → cited_parts (map (bounded_tree limit) trees) places ≡ replace_subs_in_parts (λ i. sub (bounded limit i)) (cited_parts trees places)
cited_parts-trees limit trees [] = refl
cited_parts-trees limit trees (place ∷ places) = λ i. part (cited-tree limit trees place i) (cited_parts-trees limit trees places i)

tree_of_line-bounded : (limit : ℕ) (trees : List Justification) (line : FlatLine)
    → tree_of_line (map (bounded_tree limit) trees) (bounded_line limit line) ≡ bounded_tree limit (tree_of_line trees line)
tree_of_line-bounded limit trees (flat_sub i) = refl
tree_of_line-bounded limit trees (flat_named name) = refl
tree_of_line-bounded limit trees (flat_lemma k) = refl
tree_of_line-bounded limit trees (flat_rule rule places) =
    ap (by_rule rule) (ap (cited_parts (map (bounded_tree limit) trees)) (same-places places) ∙ cited_parts-trees limit trees places)

map-end : (limit : ℕ) (trees : List Justification) (x : Justification) → map (bounded_tree limit) (trees ++ x ∷ []) ≡ map (bounded_tree limit) trees ++ bounded_tree limit x ∷ []
map-end limit [] x = refl
map-end limit (y ∷ trees) x = ap (λ rest. bounded_tree limit y ∷ rest) (map-end limit trees x)

trees_after-bounded : (limit : ℕ) (trees : List Justification) (lines : List FlatLine)
    → trees_after (map (bounded_tree limit) trees) (map (bounded_line limit) lines) ≡ map (bounded_tree limit) (trees_after trees lines)
trees_after-bounded limit trees [] = refl
trees_after-bounded limit trees (line ∷ lines) =
    ap (λ all. trees_after all (map (bounded_line limit) lines))
    (ap (λ found. map (bounded_tree limit) trees ++ found ∷ []) (tree_of_line-bounded limit trees line) ∙ sym (map-end limit trees (tree_of_line trees line)))
    ∙ trees_after-bounded limit (trees ++ tree_of_line trees line ∷ []) lines

below-bounded : (limit i : ℕ) → nat_le (suc i) limit ≡ true → bounded limit i ≡ i
below-bounded limit i below =
    let h = leb-true (suc i) limit below in
    let within : nat_le i limit ≡ true = le-leb i limit (omega (arith, h)) in
    rw within refl

mutual
  tree-kept : (limit : ℕ) (justification : Justification) → subgoals_are_below limit justification ≡ true → bounded_tree limit justification ≡ justification
  tree-kept limit (sub i) below = ap sub (below-bounded limit i below)
  tree-kept limit (named name) below = refl
  tree-kept limit (lemma k) below = refl
  tree-kept limit (by_rule rule parts) below = ap (by_rule rule) (parts-kept limit parts below)

  parts-kept : (limit : ℕ) (parts : Parts) → all_subgoals_are_below limit parts ≡ true → replace_subs_in_parts (λ i. sub (bounded limit i)) parts ≡ parts
  parts-kept limit no_parts below = refl
  parts-kept limit (part first rest) below =
      let here = tree-kept limit first (first_of_both (subgoals_are_below limit first) (all_subgoals_are_below limit rest) below) in
      let others = parts-kept limit rest (second_of_both (subgoals_are_below limit first) (all_subgoals_are_below limit rest) below) in
      λ i. part (here i) (others i)

pub tree_bounded : (limit root : ℕ) (lines made : List FlatLine) → made ≡ map (bounded_line limit) lines → subgoals_are_below limit (tree (record { lines = lines; root = root })) ≡ true
    → tree (record { lines = made; root = root }) ≡ tree (record { lines = lines; root = root })
tree_bounded limit root lines made is below =
    ap (λ all. cited (trees_after [] all) root) is ∙ ap (λ trees. cited trees root) (trees_after-bounded limit [] lines) ∙ cited-tree limit (trees_after [] lines) root
    ∙ tree-kept limit (tree (record { lines = lines; root = root })) below

-- ---- numbers

bounded-within : (limit i : ℕ) → nat_le (bounded limit i) limit ≡ true
bounded-within limit i = go (nat_le i limit) refl
  where
    go : (within : Bool) → nat_le i limit ≡ within → nat_le (if within then i else limit) limit ≡ true
    go true is = is
    go false is = le-leb limit limit (omega arith)

line-bounded : (limit : ℕ) (line : FlatLine) → number_is_within limit (bounded_line limit line) ≡ true
line-bounded limit (flat_sub i) = bounded-within limit i
line-bounded limit (flat_named name) = refl
line-bounded limit (flat_lemma k) = refl
line-bounded limit (flat_rule rule places) = refl

all-bounded : (limit : ℕ) (lines : List FlatLine) → numbers_are_within limit (map (bounded_line limit) lines) ≡ true
all-bounded limit [] = refl
all-bounded limit (line ∷ lines) = λ i. line-bounded limit line i && all-bounded limit lines i

pub numbers_bounded : (limit : ℕ) (lines made : List FlatLine) → made ≡ map (bounded_line limit) lines → numbers_are_within limit made ≡ true
numbers_bounded limit lines made is = rw is (all-bounded limit lines)

pub steps_bounded : (limit : ℕ) (lines made : List FlatLine) → made ≡ map (bounded_line limit) lines → length made ≡ length lines
steps_bounded limit lines made is = rw is (same-length limit lines)
