-- The tree of lines behind a front is the tree refined in turn, and no step makes a tree deeper than the bound says.
use Rattle.std.proofs.Common.{◌≡◌, ℕ, zero, suc, ◌+◌, ◌-◌, ◌<◌, ◌≤◌, max, List, [], ◌∷◌, length, map, drop, true, refl, sym, ◌∙◌, ap, subst, Option, Some, None, arith, zero-add}
use Rattle.std.specs.Prelude.{slice_get, slice_index, Result, Ok, Err, IfOk, IfErr}
use Rattle.hol_model.specs.declared.fault.Fault.{Fault}
use Rattle.hol_model.specs.Goals.Justifications.{Justification, sub, named, lemma, by_rule, Parts, no_parts, part}
use Rattle.hol_model.specs.Goals.Splicing.{Portion, replace_subs, replace_subs_in_parts}
use Rattle.hol_model.specs.Goals.Replays.{depth, depth_of_parts}
use Rattle.hol_just.specs.Flat.{FlatLine, FlatJustification, FlatPortion, portion_of_flat, cited, trees_after, tree, is_well_cited, Redirected, redirected}
use Rattle.hol_just.specs.Lines.{flat_lines, flat_of_lines}
use Rattle.hol_just.specs.Steps.{flat_of, tree_of, IsRefused}
use Rattle.hol_just.specs.Joining.{redirected_of}
use Rattle.hol_just.specs.Growing.{front_of, grown_tree}
use Rattle.hol_just.specs.declared.just.Just.{Just}
use Rattle.hol_just.specs.declared.line.Line.{Line}
use Rattle.hol_just.specs.declared.front.Front.{Front}
use Rattle.hol_just.specs.declared.growing.Growing.{Growing}
use Rattle.hol_just.specs.declared.splicing.Spliced.{Spliced}
use Rattle.hol_just.specs.Portions.{in_place_of_first, refined_first, refined_in_turn, portion_of, flat_portion_of, FlatFront, stands_at, stands_for, bare_front, behind_front, front_before, front_before_all}
use Rattle.hol_just.specs.declared.portion.Portion as code
use Rattle.hol_just.proofs.FlatTrees.{AreBelow, CiteEarlier, IsWellCited, AreWellCited, well_cited-to, length-trees_after}
use Rattle.hol_just.proofs.FlatCitations.{AreBelow-get, AreBelow-at, IsRedirected, all-redirected}
use Rattle.std.specs.Option.{unwrap_or}
use Rattle.hol_just.proofs.FlatSplicing.{Carried, Carried-cited, Stands, StandsPast, redirected-stands}
use Rattle.hol_just.proofs.Joining.{well_cited}

-- ---- replacements

-- subgoals that are replaced by themselves
mutual
  replaced-same : (justification : Justification) → replace_subs sub justification ≡ justification
  replaced-same (sub i) = refl
  replaced-same (named name) = refl
  replaced-same (lemma k) = refl
  replaced-same (by_rule rule parts) = ap (by_rule rule) (replaced-same-parts parts)

  replaced-same-parts : (parts : Parts) → replace_subs_in_parts sub parts ≡ parts
  replaced-same-parts no_parts = refl
  replaced-same-parts (part first rest) = λ i. part (replaced-same first i) (replaced-same-parts rest i)

-- two replacements, one after the other
mutual
  replaced-twice : (outer inner : ℕ → Justification) (justification : Justification)
      → replace_subs outer (replace_subs inner justification) ≡ replace_subs (λ i. replace_subs outer (inner i)) justification
  replaced-twice outer inner (sub i) = refl
  replaced-twice outer inner (named name) = refl
  replaced-twice outer inner (lemma k) = refl
  replaced-twice outer inner (by_rule rule parts) = ap (by_rule rule) (replaced-twice-parts outer inner parts)

  replaced-twice-parts : (outer inner : ℕ → Justification) (parts : Parts)
      → replace_subs_in_parts outer (replace_subs_in_parts inner parts) ≡ replace_subs_in_parts (λ i. replace_subs outer (inner i)) parts
  replaced-twice-parts outer inner no_parts = refl
  replaced-twice-parts outer inner (part first rest) = λ i. part (replaced-twice outer inner first i) (replaced-twice-parts outer inner rest i)

-- ---- fronts

-- the lines cite earlier ones, and the roots are among them
record IsSound (front : FlatFront) : Type 0 where
  earlier : CiteEarlier 0 front.lines
  roots : AreBelow (length front.lines) front.roots

bare-sound : IsSound bare_front
bare-sound = record { earlier = tt; roots = tt }

-- a place within has its tree
get-cited : (trees : List Justification) (place : ℕ) → place < length trees → slice_get trees place ≡ Some (cited trees place)
get-cited [] place within = absurd (omega (arith, within))
get-cited (tree ∷ trees) zero within = refl
get-cited (tree ∷ trees) (suc place) within = get-cited trees place (omega (arith, within))

at-root : (front : FlatFront) → IsSound front → (i root : ℕ) → slice_get front.roots i ≡ Some root → slice_get (trees_after [] front.lines) root ≡ Some (stands_for front i)
at-root front sound i root there =
    let many = length-trees_after [] front.lines in
    let within = AreBelow-get (length front.lines) front.roots i root sound.roots there in
    get-cited (trees_after [] front.lines) root (omega (arith, many, within))
    ∙ sym (ap (λ (found : Option ℕ). Some (stands_at (trees_after [] front.lines) (sub (front.subgoals + (i - length front.roots))) found)) there)

past-roots : (front : FlatFront) → StandsPast (stands_for front) front.roots front.subgoals
past-roots front i none = ap (stands_at (trees_after [] front.lines) (sub (front.subgoals + (i - length front.roots)))) none

behind-stands : (front : FlatFront) (flat : FlatJustification) → IsSound front → IsWellCited flat
    → Stands (stands_for front) (slice_get front.roots) (behind_front front flat.lines) (trees_after [] flat.lines)
behind-stands front flat sound well =
    redirected-stands (stands_for front) front.roots front.subgoals flat.lines (record { lines = front.lines; new_places = [] }) [] 0 (past-roots front) refl well.lines
    (record { carried = tt; at_roots = at-root front sound })

behind-redirected : (front : FlatFront) (flat : FlatJustification) → IsSound front → IsWellCited flat → IsRedirected front.roots (length flat.lines) (behind_front front flat.lines)
behind-redirected front flat sound well =
    subst (λ (n : ℕ). IsRedirected front.roots n (behind_front front flat.lines)) (zero-add (length flat.lines))
    (all-redirected front.roots front.subgoals flat.lines 0 (record { lines = front.lines; new_places = [] })
    (record { earlier = sound.earlier; roots_below = sound.roots; places_below = tt; one_each = refl }) well.lines)

-- the tree at the new place of the root
behind-tree : (front : FlatFront) (flat : FlatJustification) → IsSound front → IsWellCited flat
    → cited (trees_after [] (behind_front front flat.lines).lines) (slice_index (behind_front front flat.lines).new_places flat.root) ≡ replace_subs (stands_for front) (tree flat)
behind-tree front flat sound well =
    let many = length-trees_after [] flat.lines in
    let root = well.root in
    Carried-cited (stands_for front) (trees_after [] (behind_front front flat.lines).lines) (behind_front front flat.lines).new_places (trees_after [] flat.lines)
    (behind-stands front flat sound well).carried flat.root (omega (arith, many, root))

behind-root : (front : FlatFront) (flat : FlatJustification) → IsSound front → IsWellCited flat
    → slice_index (behind_front front flat.lines).new_places flat.root < length (behind_front front flat.lines).lines
behind-root front flat sound well =
    let is = behind-redirected front flat sound well in
    let each = is.one_each in
    let root = well.root in
    AreBelow-at (length (behind_front front flat.lines).lines) (behind_front front flat.lines).new_places flat.root is.places_below (omega (arith, each, root))

AreBelow-drop : (limit n : ℕ) (xs : List ℕ) → AreBelow limit xs → AreBelow limit (drop n xs)
AreBelow-drop limit zero xs below = below
AreBelow-drop limit (suc n) [] below = tt
AreBelow-drop limit (suc n) (x ∷ xs) below = AreBelow-drop limit n xs below.1

before-sound : (front : FlatFront) (portion : FlatPortion) → IsSound front → IsWellCited portion.justification → IsSound (front_before front portion)
before-sound front portion sound well =
    let is = behind-redirected front portion.justification sound well in
    record {
      earlier = is.earlier;
      roots = (
        behind-root front portion.justification sound well,
        AreBelow-drop (length (behind_front front portion.justification.lines).lines) portion.subgoals front.roots is.roots_below,
      );
    }

get-drop : (xs : List ℕ) (n i : ℕ) → slice_get (drop n xs) i ≡ slice_get xs (n + i)
get-drop xs zero i = let same : i ≡ 0 + i = omega arith in ap (slice_get xs) same
get-drop [] (suc n) i = refl
get-drop (x ∷ xs) (suc n) i = let same : suc (n + i) ≡ suc n + i = omega arith in get-drop xs n i ∙ ap (slice_get (x ∷ xs)) same

none-past : (xs : List ℕ) (i : ℕ) → slice_get xs i ≡ None → length xs ≤ i
none-past [] i none = omega arith
none-past (x ∷ xs) zero none = cc
none-past (x ∷ xs) (suc i) none = let rest = none-past xs i none in omega (arith, rest)

length-drop : (xs : List ℕ) (n : ℕ) → length (drop n xs) ≡ length xs - n
length-drop xs zero = omega arith
length-drop [] (suc n) = omega arith
length-drop (x ∷ xs) (suc n) = let rest = length-drop xs n in omega (arith, rest)

-- the front before the portion stands for what the portion leaves to the front
before-stands : (front : FlatFront) (portion : FlatPortion) → IsSound front → IsWellCited portion.justification → (i : ℕ)
    → stands_for (front_before front portion) i ≡ replace_subs (stands_for front) (in_place_of_first (portion_of_flat portion) i)
before-stands front portion sound well zero = behind-tree front portion.justification sound well
before-stands front portion sound well (suc i) =
    ap (stands_at trees (sub past)) (get-drop front.roots portion.subgoals i) ∙ go (slice_get front.roots (portion.subgoals + i)) refl
  where
    trees : List Justification
    trees = trees_after [] (behind_front front portion.justification.lines).lines

    past : ℕ
    past = front.subgoals + (portion.subgoals - length front.roots) + (suc i - suc (length (drop portion.subgoals front.roots)))

    go : (found : Option ℕ) → slice_get front.roots (portion.subgoals + i) ≡ found → stands_at trees (sub past) found ≡ stands_for front (portion.subgoals + i)
    go None none =
        let more = none-past front.roots (portion.subgoals + i) none in
        let fewer = length-drop front.roots portion.subgoals in
        ap sub (omega (arith, more, fewer)) ∙ sym (past-roots front (portion.subgoals + i) none)
    go (Some root) there =
        ap (λ (found : Option Justification). unwrap_or found (named [])) ((behind-stands front portion.justification sound well).at_roots (portion.subgoals + i) root there)

-- ---- portions one after another

-- all portions at once
all-before : (portions : List FlatPortion) (front : FlatFront) (base : Justification) → IsSound front → AreWellCited portions
    → replace_subs (stands_for (front_before_all portions front)) base ≡ replace_subs (stands_for front) (refined_in_turn (map portion_of_flat portions) base)
all-before [] front base sound well = refl
all-before (newest ∷ older) front base sound well =
    all-before older (front_before front newest) base (before-sound front newest sound well.0) well.1
    ∙ ap (λ (new : ℕ → Justification). replace_subs new (refined_in_turn (map portion_of_flat older) base)) (λ i n. before-stands front newest sound well.0 n i)
    ∙ sym (replaced-twice (stands_for front) (in_place_of_first (portion_of_flat newest)) (refined_in_turn (map portion_of_flat older) base))

all-sound : (portions : List FlatPortion) (front : FlatFront) → IsSound front → AreWellCited portions → IsSound (front_before_all portions front)
all-sound [] front sound well = sound
all-sound (newest ∷ older) front sound well = all-sound older (front_before front newest) (before-sound front newest sound well.0) well.1

bare-stands : (base : Justification) → replace_subs (stands_for bare_front) base ≡ base
bare-stands base = ap (λ (new : ℕ → Justification). replace_subs new base) (λ i n. sub (same n i)) ∙ replaced-same base
  where
    same : (n : ℕ) → 0 + (n - 0) ≡ n
    same n = omega arith

pub each-well_cited : (portions : List code.Portion) → AreWellCited (map flat_portion_of portions)
each-well_cited [] = tt
each-well_cited (portion ∷ portions) = (well_cited portion.just, each-well_cited portions)

pub portions-same : (portions : List code.Portion) → map portion_of_flat (map flat_portion_of portions) ≡ map portion_of portions
portions-same [] = refl
portions-same (portion ∷ portions) = ap (λ (rest : List Portion). portion_of portion ∷ rest) (portions-same portions)

-- ---- the whole

pub record IsRefined (just : Just) (portions : List code.Portion) (lines : List Line) (root : ℕ) : Type 0 where
  pub cited : is_well_cited (flat_of_lines lines root) ≡ true
  pub tree : tree (flat_of_lines lines root) ≡ refined_in_turn (map portion_of portions) (tree_of just)

pub is-refined : (just : Just) (portions : List code.Portion) (front : Front) (made : Spliced) (root : ℕ)
    → front_of front ≡ front_before_all (map flat_portion_of portions) bare_front
    → redirected_of made ≡ redirected front.joined.roots.items front.subgoals (record { lines = flat_lines front.joined.lines.items; new_places = [] }) (flat_of just).lines
    → root ≡ slice_index made.new_places.items just.node.value.root
    → IsRefined just portions made.lines.items root
is-refined just portions front made root front_is made_is root_is =
    let flats = map flat_portion_of portions in
    let whole = front_before_all flats bare_front in
    let base = flat_of just in
    let well = each-well_cited portions in
    let sound : IsSound whole = all-sound flats bare_front bare-sound well in
    let all : Redirected = behind_front whole base.lines in
    let same : redirected_of made ≡ all = made_is ∙ ap (λ (front : FlatFront). behind_front front base.lines) front_is in
    let flat : FlatJustification = record { lines = all.lines; root = slice_index all.new_places base.root } in
    let is_flat : flat_of_lines made.lines.items root ≡ flat =
    (λ i. record { lines = flat_lines made.lines.items; root = root_is i }) ∙ ap (λ (found : Redirected). record { lines = found.lines; root = slice_index found.new_places base.root }) same in
    record {
      cited =
          ap is_well_cited is_flat
          ∙ well_cited-to flat (record { lines = (behind-redirected whole base sound (well_cited just)).earlier; root = behind-root whole base sound (well_cited just) });
      tree =
          ap tree is_flat
          ∙ behind-tree whole base sound (well_cited just)
          ∙ all-before flats bare_front (tree base) bare-sound well
          ∙ bare-stands (refined_in_turn (map portion_of_flat flats) (tree base))
          ∙ ap (λ (all : List Portion). refined_in_turn all (tree base)) (portions-same portions);
    }

-- ---- depth

mutual
  replaced-depth : (new : ℕ → Justification) (more : ℕ) (justification : Justification) → ((i : ℕ) → depth (new i) ≤ suc more) → depth (replace_subs new justification) ≤ depth justification + more
  replaced-depth new more (sub i) each = let here = each i in omega (arith, here)
  replaced-depth new more (named name) each = omega arith
  replaced-depth new more (lemma k) each = omega arith
  replaced-depth new more (by_rule rule parts) each = let all = replaced-depths new more parts each in omega (arith, all)

  replaced-depths : (new : ℕ → Justification) (more : ℕ) (parts : Parts) → ((i : ℕ) → depth (new i) ≤ suc more) → depth_of_parts (replace_subs_in_parts new parts) ≤ depth_of_parts parts + more
  replaced-depths new more no_parts each = omega arith
  replaced-depths new more (part first rest) each =
      let one = replaced-depth new more first each in
      let others = replaced-depths new more rest each in
      omega (arith, one, others)

refined-depth : (portion : Portion) (justification : Justification) → depth (refined_first portion justification) ≤ depth justification + (depth portion.justification - 1)
refined-depth portion justification = replaced-depth (in_place_of_first portion) (depth portion.justification - 1) justification each
  where
    each : (i : ℕ) → depth (in_place_of_first portion i) ≤ suc (depth portion.justification - 1)
    each zero = omega arith
    each (suc i) = omega arith

-- ---- one portion more

pub older-tree : (base copied : Just) (all older : List code.Portion) (portion : code.Portion) → flat_of copied ≡ flat_of base → map flat_portion_of all ≡ flat_portion_of portion ∷ map flat_portion_of older
    → refined_in_turn (map portion_of all) (tree_of copied) ≡ refined_first (portion_of portion) (refined_in_turn (map portion_of older) (tree_of base))
older-tree base copied all older portion same is =
    let portions : map portion_of all ≡ portion_of portion ∷ map portion_of older =
    sym (portions-same all) ∙ ap (map portion_of_flat) is ∙ ap (λ (rest : List Portion). portion_of portion ∷ rest) (portions-same older) in
    ap (λ (found : List Portion). refined_in_turn found (tree_of copied)) portions ∙ ap (λ (flat : FlatJustification). refined_in_turn (portion_of portion ∷ map portion_of older) (tree flat)) same

pub deeper-bound : (base copied : Just) (all older : List code.Portion) (portion : code.Portion) (deeper bound next : ℕ) → flat_of copied ≡ flat_of base
    → map flat_portion_of all ≡ flat_portion_of portion ∷ map flat_portion_of older
    → deeper ≡ depth (tree_of portion.just) - 1 → depth (refined_in_turn (map portion_of older) (tree_of base)) ≤ bound → next ≡ bound + deeper
    → depth (refined_in_turn (map portion_of all) (tree_of copied)) ≤ next
deeper-bound base copied all older portion deeper bound next same is deeper_is within next_is =
    let step = refined-depth (portion_of portion) (refined_in_turn (map portion_of older) (tree_of base)) in
    let tree : depth (refined_in_turn (map portion_of all) (tree_of copied)) ≡ depth (refined_first (portion_of portion) (refined_in_turn (map portion_of older) (tree_of base))) =
    ap depth (older-tree base copied all older portion same is) in
    omega (arith, step, tree, within, deeper_is, next_is)

pub tree-of-folded : (growing : Growing) (all : List code.Portion) (portion : code.Portion) (result : Result Growing Fault) → map flat_portion_of all ≡ flat_portion_of portion ∷ map flat_portion_of growing.portions.items
    → IfOk result (λ made. grown_tree made ≡ refined_in_turn (map portion_of all) (tree_of growing.just)) → IfOk result (λ made. grown_tree made ≡ refined_first (portion_of portion) (grown_tree growing))
tree-of-folded growing all portion (Ok made) is folded = folded ∙ older-tree growing.just growing.just all growing.portions.items portion refl is
tree-of-folded growing all portion (Err fault) is folded = tt

pub refusal-of-folded : (growing : Growing) (all : List code.Portion) (portion : code.Portion) (result : Result Growing Fault) → map flat_portion_of all ≡ flat_portion_of portion ∷ map flat_portion_of growing.portions.items
    → IfErr result (IsRefused (refined_in_turn (map portion_of all) (tree_of growing.just))) → IfErr result (IsRefused (refined_first (portion_of portion) (grown_tree growing)))
refusal-of-folded growing all portion (Ok made) is refused = tt
refusal-of-folded growing all portion (Err fault) is refused =
    subst (λ (t : Justification). IsRefused t fault) (older-tree growing.just growing.just all growing.portions.items portion refl is) refused
