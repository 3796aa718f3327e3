-- The trees of lines, of lines behind others, and of the roots of portions.
use Rattle.std.proofs.Common.{◌≡◌, ℕ, zero, suc, ◌+◌, ◌<◌, List, [], ◌∷◌, ◌++◌, Bool, true, false, ◌&&◌, length, map, refl, sym, ◌∙◌, ap, Option, Some, None, arith, length-append, append_assoc}
use Rattle.std.proofs.Common.{append-nil}
use Rattle.std.specs.Prelude.{slice_get, slice_index, nat_le}
use Rattle.std.specs.Option.{unwrap_or, option_map}
use Rattle.std.proofs.lemmas.Option.{slice_get-map}
use Rattle.std.proofs.lemmas.Bool.{leb-true, le-leb}
use Rattle.hol_model.specs.Goals.Justifications.{Justification, sub, named, by_rule, part}
use Rattle.hol_model.specs.Goals.Splicing.{replace_subs_in_parts, shift_subs, numbered_portion}
use Rattle.hol_just.specs.Flat.{FlatLine, flat_sub, flat_named, flat_lemma, flat_rule, FlatJustification, FlatPortion, cited, cited_parts, tree_of_line, trees_after, tree, are_below, cites_below}
use Rattle.hol_just.specs.Flat.{cite_earlier, is_well_cited, moved_line, joined_lines, roots, portion_of_flat}

-- what the test of citations says

abbrev pub AreBelow : ℕ → List ℕ → Type 0
AreBelow limit [] = Unit {0}
AreBelow limit (place ∷ places) = (place < limit) × AreBelow limit places

abbrev pub CitesBelow : ℕ → FlatLine → Type 0
CitesBelow limit (flat_rule rule places) = AreBelow limit places
CitesBelow limit _ = Unit {0}

abbrev pub CiteEarlier : ℕ → List FlatLine → Type 0
CiteEarlier before [] = Unit {0}
CiteEarlier before (line ∷ lines) = CitesBelow before line × CiteEarlier (suc before) lines

pub record IsWellCited (flat : FlatJustification) : Type 0 where
  pub lines : CiteEarlier 0 flat.lines
  pub root : flat.root < length flat.lines

first_of_both : (p q : Bool) → (p && q) ≡ true → p ≡ true
first_of_both true q passed = refl
first_of_both false q passed = cc

second_of_both : (p q : Bool) → (p && q) ≡ true → q ≡ true
second_of_both true q passed = passed
second_of_both false q passed = cc

of_both : (p q : Bool) → p ≡ true → q ≡ true → (p && q) ≡ true
of_both p q first second = cc

below-test : (m n : ℕ) → nat_le (suc m) n ≡ true → m < n
below-test m n passed = let h = leb-true (suc m) n passed in omega (arith, h)

test-below : (m n : ℕ) → m < n → nat_le (suc m) n ≡ true
test-below m n below = le-leb (suc m) n (omega (arith, below))

below-from : (limit : ℕ) (places : List ℕ) → are_below limit places ≡ true → AreBelow limit places
below-from limit [] passed = tt
below-from limit (place ∷ places) passed = (
  below-test place limit (first_of_both (nat_le (suc place) limit) (are_below limit places) passed),
  below-from limit places (second_of_both (nat_le (suc place) limit) (are_below limit places) passed),
)

below-to : (limit : ℕ) (places : List ℕ) → AreBelow limit places → are_below limit places ≡ true
below-to limit [] below = refl
below-to limit (place ∷ places) below = of_both (nat_le (suc place) limit) (are_below limit places) (test-below place limit below.0) (below-to limit places below.1)

cites-from : (limit : ℕ) (line : FlatLine) → cites_below limit line ≡ true → CitesBelow limit line
cites-from limit (flat_sub i) passed = tt
cites-from limit (flat_named name) passed = tt
cites-from limit (flat_lemma k) passed = tt
cites-from limit (flat_rule rule places) passed = below-from limit places passed

cites-to : (limit : ℕ) (line : FlatLine) → CitesBelow limit line → cites_below limit line ≡ true
cites-to limit (flat_sub i) below = refl
cites-to limit (flat_named name) below = refl
cites-to limit (flat_lemma k) below = refl
cites-to limit (flat_rule rule places) below = below-to limit places below

earlier-from : (before : ℕ) (lines : List FlatLine) → cite_earlier before lines ≡ true → CiteEarlier before lines
earlier-from before [] passed = tt
earlier-from before (line ∷ lines) passed = (
  cites-from before line (first_of_both (cites_below before line) (cite_earlier (suc before) lines) passed),
  earlier-from (suc before) lines (second_of_both (cites_below before line) (cite_earlier (suc before) lines) passed),
)

earlier-to : (before : ℕ) (lines : List FlatLine) → CiteEarlier before lines → cite_earlier before lines ≡ true
earlier-to before [] below = refl
earlier-to before (line ∷ lines) below = of_both (cites_below before line) (cite_earlier (suc before) lines) (cites-to before line below.0) (earlier-to (suc before) lines below.1)

pub well_cited-from : (flat : FlatJustification) → is_well_cited flat ≡ true → IsWellCited flat
well_cited-from flat passed =
    record {
      lines = earlier-from 0 flat.lines (first_of_both (cite_earlier 0 flat.lines) (nat_le (suc flat.root) (length flat.lines)) passed);
      root = below-test flat.root (length flat.lines) (second_of_both (cite_earlier 0 flat.lines) (nat_le (suc flat.root) (length flat.lines)) passed);
    }

pub well_cited-to : (flat : FlatJustification) → IsWellCited flat → is_well_cited flat ≡ true
well_cited-to flat well =
    of_both (cite_earlier 0 flat.lines) (nat_le (suc flat.root) (length flat.lines)) (earlier-to 0 flat.lines well.lines) (test-below flat.root (length flat.lines) well.root)

abbrev pub AreWellCited : List FlatPortion → Type 0
AreWellCited [] = Unit {0}
AreWellCited (portion ∷ portions) = IsWellCited portion.justification × AreWellCited portions

-- places in joined lists

pub slice_get-kept : (xs more : List Justification) (i : ℕ) (x : Justification) → slice_get xs i ≡ Some x → slice_get (xs ++ more) i ≡ Some x
slice_get-kept [] more i x is = cc
slice_get-kept (y ∷ xs) more zero x is = is
slice_get-kept (y ∷ xs) more (suc i) x is = slice_get-kept xs more i x is

pub slice_get-after : (xs ys : List Justification) (i : ℕ) → slice_get (xs ++ ys) (length xs + i) ≡ slice_get ys i
slice_get-after [] ys i = ap (slice_get ys) (omega arith)
slice_get-after (x ∷ xs) ys i =
    let next : length (x ∷ xs) + i ≡ suc (length xs + i) = omega arith in
    rw next (slice_get-after xs ys i)

pub slice_get-end : (xs : List Justification) (x : Justification) → slice_get (xs ++ x ∷ []) (length xs) ≡ Some x
slice_get-end [] x = refl
slice_get-end (y ∷ xs) x = slice_get-end xs x

pub slice_get-there : (xs : List Justification) (i : ℕ) → i < length xs → slice_get xs i ≡ Some (cited xs i)
slice_get-there [] i within = absurd (omega arith)
slice_get-there (x ∷ xs) zero within = refl
slice_get-there (x ∷ xs) (suc i) within = slice_get-there xs i (omega arith)

-- the trees of a list of lines

pub trees_after-append : (trees : List Justification) (firsts lasts : List FlatLine) → trees_after trees (firsts ++ lasts) ≡ trees_after (trees_after trees firsts) lasts
trees_after-append trees [] lasts = refl
trees_after-append trees (line ∷ firsts) lasts = trees_after-append (trees ++ tree_of_line trees line ∷ []) firsts lasts

pub trees_after-keeps : (trees : List Justification) (lines : List FlatLine) (i : ℕ) (x : Justification) → slice_get trees i ≡ Some x → slice_get (trees_after trees lines) i ≡ Some x
trees_after-keeps trees [] i x is = is
trees_after-keeps trees (line ∷ lines) i x is = trees_after-keeps (trees ++ tree_of_line trees line ∷ []) lines i x (slice_get-kept trees (tree_of_line trees line ∷ []) i x is)

pub length-one_more : (trees : List Justification) (x : Justification) → length (trees ++ x ∷ []) ≡ length trees + 1
length-one_more [] x = refl
length-one_more (y ∷ trees) x = let shorter = length-one_more trees x in omega (arith, shorter)

pub more : (xs : List Justification) (x : Justification) (n : ℕ) → length xs ≡ n → length (xs ++ x ∷ []) ≡ suc n
more xs x n same = let longer = length-one_more xs x in omega (arith, longer, same)

pub length-trees_after : (trees : List Justification) (lines : List FlatLine) → length (trees_after trees lines) ≡ length trees + length lines
length-trees_after trees [] = omega arith
length-trees_after trees (line ∷ lines) =
    let deeper = length-trees_after (trees ++ tree_of_line trees line ∷ []) lines in
    let longer = length-one_more trees (tree_of_line trees line) in
    omega (arith, deeper, longer)

-- moved lines

cited-moved : (trees own : List Justification) (places subgoals place : ℕ) → length trees ≡ places
    → cited (trees ++ map (shift_subs subgoals) own) (places + place) ≡ shift_subs subgoals (cited own place)
cited-moved trees own places subgoals place same =
    ap (λ found. unwrap_or found (named [])) (there ∙ slice_get-map (shift_subs subgoals) own place) ∙ cases (slice_get own place)
  where
    there : slice_get (trees ++ map (shift_subs subgoals) own) (places + place) ≡ slice_get (map (shift_subs subgoals) own) place
    there = rw (← same) (slice_get-after trees (map (shift_subs subgoals) own) place)

    cases : (found : Option Justification) → unwrap_or (option_map (shift_subs subgoals) found) (named []) ≡ shift_subs subgoals (unwrap_or found (named []))
    cases None = refl
    cases (Some found) = refl

cited_parts-moved : (trees own : List Justification) (places subgoals : ℕ) (cites : List ℕ) → length trees ≡ places
    → cited_parts (trees ++ map (shift_subs subgoals) own) (map (λ place. places + place) cites) ≡ replace_subs_in_parts (λ i. sub (subgoals + i)) (cited_parts own cites)
cited_parts-moved trees own places subgoals [] same = refl
cited_parts-moved trees own places subgoals (place ∷ cites) same =
    λ i. part (cited-moved trees own places subgoals place same i) (cited_parts-moved trees own places subgoals cites same i)

tree_of_line-moved : (trees own : List Justification) (places subgoals : ℕ) (line : FlatLine) → length trees ≡ places
    → tree_of_line (trees ++ map (shift_subs subgoals) own) (moved_line places subgoals line) ≡ shift_subs subgoals (tree_of_line own line)
tree_of_line-moved trees own places subgoals (flat_sub i) same = refl
tree_of_line-moved trees own places subgoals (flat_named name) same = refl
tree_of_line-moved trees own places subgoals (flat_lemma k) same = refl
tree_of_line-moved trees own places subgoals (flat_rule rule cites) same = ap (by_rule rule) (cited_parts-moved trees own places subgoals cites same)

map-one_more : (f : Justification → Justification) (own : List Justification) (x : Justification) → map f (own ++ x ∷ []) ≡ map f own ++ f x ∷ []
map-one_more f [] x = refl
map-one_more f (y ∷ own) x = ap (λ rest. f y ∷ rest) (map-one_more f own x)

trees_after-moved : (trees own : List Justification) (places subgoals : ℕ) (lines : List FlatLine) → length trees ≡ places
    → trees_after (trees ++ map (shift_subs subgoals) own) (map (moved_line places subgoals) lines) ≡ trees ++ map (shift_subs subgoals) (trees_after own lines)
trees_after-moved trees own places subgoals [] same = refl
trees_after-moved trees own places subgoals (line ∷ lines) same =
    ap (λ so_far. trees_after so_far (map (moved_line places subgoals) lines)) one_more ∙ trees_after-moved trees (own ++ tree_of_line own line ∷ []) places subgoals lines same
  where
    one_more : (trees ++ map (shift_subs subgoals) own) ++ tree_of_line (trees ++ map (shift_subs subgoals) own) (moved_line places subgoals line) ∷ []
        ≡ trees ++ map (shift_subs subgoals) (own ++ tree_of_line own line ∷ [])
    one_more = rw (tree_of_line-moved trees own places subgoals line same, map-one_more (shift_subs subgoals) own (tree_of_line own line))
        (append_assoc trees (map (shift_subs subgoals) own) (shift_subs subgoals (tree_of_line own line) ∷ []))

length_map : (f : Justification → Justification) (xs : List Justification) → length (map f xs) ≡ length xs
length_map f [] = refl
length_map f (x ∷ xs) = ap suc (length_map f xs)

-- where each portion's tree stands

pub portion_at_root : (portions : List FlatPortion) (trees : List Justification) (places subgoals : ℕ) → length trees ≡ places → AreWellCited portions → (i : ℕ) → i < length portions
    → slice_get (trees_after trees (joined_lines places subgoals portions)) (slice_index (roots places portions) i) ≡ Some (numbered_portion subgoals (map portion_of_flat portions) i)
portion_at_root [] trees places subgoals same well i within = absurd (omega arith)
portion_at_root (portion ∷ portions) trees places subgoals same well i within =
    ap (λ all. slice_get all (slice_index (roots places (portion ∷ portions)) i)) in_front
    ∙ go i within (λ k below. portion_at_root portions (trees ++ map (shift_subs subgoals) (trees_after [] portion.justification.lines)) (places + length portion.justification.lines)
    (subgoals + portion.subgoals) longer well.1 k below)
  where
    in_front : trees_after trees (map (moved_line places subgoals) portion.justification.lines ++
        (joined_lines (places + length portion.justification.lines) (subgoals + portion.subgoals) portions)) ≡ trees_after
        (trees ++ map (shift_subs subgoals) (trees_after [] portion.justification.lines)) (joined_lines (places + length portion.justification.lines) (subgoals + portion.subgoals) portions)
    in_front =
        trees_after-append trees (map (moved_line places subgoals) portion.justification.lines) (joined_lines (places + length portion.justification.lines) (subgoals + portion.subgoals) portions)
        ∙ ap (λ all. trees_after all (joined_lines (places + length portion.justification.lines) (subgoals + portion.subgoals) portions))
        (ap (λ all. trees_after all (map (moved_line places subgoals) portion.justification.lines)) (sym (append-nil trees)) ∙ trees_after-moved trees [] places subgoals
        portion.justification.lines same)

    at_root : slice_get (trees ++ map (shift_subs subgoals) (trees_after [] portion.justification.lines)) (places + portion.justification.root) ≡ Some
        (shift_subs subgoals (tree portion.justification))
    at_root =
        let many = length-trees_after [] portion.justification.lines in
        let root_within = well.0.root in
        let within_own : portion.justification.root < length (trees_after [] portion.justification.lines) = omega (arith, many, root_within) in
        let place = slice_get-after trees (map (shift_subs subgoals) (trees_after [] portion.justification.lines)) portion.justification.root in
        ap (λ n. slice_get (trees ++ map (shift_subs subgoals) (trees_after [] portion.justification.lines)) (n + portion.justification.root)) (sym same)
        ∙ place ∙ slice_get-map (shift_subs subgoals) (trees_after [] portion.justification.lines) portion.justification.root
        ∙ ap (option_map (shift_subs subgoals)) (slice_get-there (trees_after [] portion.justification.lines) portion.justification.root within_own)

    longer : length (trees ++ map (shift_subs subgoals) (trees_after [] portion.justification.lines)) ≡ places + length portion.justification.lines
    longer =
        let many = length-trees_after [] portion.justification.lines in
        rw (length-append, length_map (shift_subs subgoals) (trees_after [] portion.justification.lines)) (omega (arith, many, same))

    go : (i : ℕ) → i < length (portion ∷ portions)
        → ((k : ℕ) → k < length portions
        → slice_get (trees_after (trees ++ map (shift_subs subgoals) (trees_after [] portion.justification.lines))
        (joined_lines (places + length portion.justification.lines) (subgoals + portion.subgoals) portions)) (slice_index (roots (places + length portion.justification.lines) portions) k)
        ≡ Some (numbered_portion (subgoals + portion.subgoals) (map portion_of_flat portions) k))
        → slice_get (trees_after (trees ++ map (shift_subs subgoals) (trees_after [] portion.justification.lines))
        (joined_lines (places + length portion.justification.lines) (subgoals + portion.subgoals) portions)) (slice_index (roots places (portion ∷ portions)) i)
        ≡ Some (numbered_portion subgoals (map portion_of_flat (portion ∷ portions)) i)
    go zero within deeper =
        trees_after-keeps (trees ++ map (shift_subs subgoals) (trees_after [] portion.justification.lines))
        (joined_lines (places + length portion.justification.lines) (subgoals + portion.subgoals) portions)
        (places + portion.justification.root) (shift_subs subgoals (tree portion.justification)) at_root
    go (suc i) within deeper = deeper i (omega arith)
