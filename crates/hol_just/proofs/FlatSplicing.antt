-- The tree of spliced lists of lines is the spliced tree, and spliced lists cite earlier lines alone.
use Rattle.std.proofs.Common.{◌≡◌, ℕ, zero, suc, ◌+◌, ◌-◌, ◌<◌, List, [], ◌∷◌, ◌++◌, length, map, refl, sym, ◌∙◌, ap, subst, Option, Some, None, arith, zero-add}
use Rattle.std.specs.Prelude.{slice_get, slice_index}
use Rattle.std.specs.Option.{unwrap_or}
use Rattle.hol_model.specs.Goals.Justifications.{Justification, sub, named, lemma, by_rule, part}
use Rattle.hol_model.specs.Goals.Splicing.{replace_subs, replace_subs_in_parts, numbered_portion, splice}
use Rattle.hol_just.specs.Flat.{FlatLine, flat_sub, flat_named, flat_lemma, flat_rule, FlatJustification, FlatPortion, cited, cited_parts, tree_of_line, trees_after, tree, joined_lines, roots}
use Rattle.hol_just.specs.Flat.{all_subgoals, portion_of_flat, by_line, replaced_line, replaced_sub, Redirected, with_replaced, redirected, flat_splice}
use Rattle.hol_just.proofs.FlatTrees.{AreBelow, CitesBelow, CiteEarlier, IsWellCited, AreWellCited, slice_get-kept, slice_get-end, trees_after-append, length-trees_after, length-one_more}
use Rattle.hol_just.proofs.FlatTrees.{portion_at_root}

-- each old tree, its subgoals replaced, stands among the new ones at its new place
abbrev pub Carried : (ℕ → Justification) → List Justification → List ℕ → List Justification → Type 0
Carried new trees [] [] = Unit {0}
Carried new trees (place ∷ places) (old ∷ olds) = (slice_get trees place ≡ Some (replace_subs new old)) × Carried new trees places olds
Carried new trees _ _ = ⊥

Carried-kept : (new : ℕ → Justification) (trees more : List Justification) (places : List ℕ) (olds : List Justification) → Carried new trees places olds → Carried new (trees ++ more) places olds
Carried-kept new trees more [] [] carried = tt
Carried-kept new trees more [] (old ∷ olds) carried = absurd carried
Carried-kept new trees more (place ∷ places) [] carried = absurd carried
Carried-kept new trees more (place ∷ places) (old ∷ olds) carried =
    (slice_get-kept trees more place (replace_subs new old) carried.0, Carried-kept new trees more places olds carried.1)

Carried-one_more : (new : ℕ → Justification) (trees : List Justification) (places : List ℕ) (olds : List Justification) (place : ℕ) (old : Justification)
    → Carried new trees places olds → slice_get trees place ≡ Some (replace_subs new old) → Carried new trees (places ++ place ∷ []) (olds ++ old ∷ [])
Carried-one_more new trees [] [] place old carried is = (is, tt)
Carried-one_more new trees [] (other ∷ olds) place old carried is = absurd carried
Carried-one_more new trees (other ∷ places) [] place old carried is = absurd carried
Carried-one_more new trees (first ∷ places) (other ∷ olds) place old carried is = (carried.0, Carried-one_more new trees places olds place old carried.1 is)

pub Carried-at : (new : ℕ → Justification) (trees : List Justification) (places : List ℕ) (olds : List Justification) → Carried new trees places olds → (i : ℕ) → i < length olds
    → slice_get trees (slice_index places i) ≡ Some (replace_subs new (cited olds i))
Carried-at new trees [] [] carried i within = absurd (omega arith)
Carried-at new trees [] (old ∷ olds) carried i within = absurd carried
Carried-at new trees (place ∷ places) [] carried i within = absurd carried
Carried-at new trees (place ∷ places) (old ∷ olds) carried zero within = carried.0
Carried-at new trees (place ∷ places) (old ∷ olds) carried (suc i) within = Carried-at new trees places olds carried.1 i (omega arith)

pub Carried-cited : (new : ℕ → Justification) (trees : List Justification) (places : List ℕ) (olds : List Justification) → Carried new trees places olds → (i : ℕ) → i < length olds
    → cited trees (slice_index places i) ≡ replace_subs new (cited olds i)
Carried-cited new trees places olds carried i within = ap (λ found. unwrap_or found (named [])) (Carried-at new trees places olds carried i within)

Carried-parts : (new : ℕ → Justification) (trees : List Justification) (places : List ℕ) (olds : List Justification) → Carried new trees places olds → (cites : List ℕ) → AreBelow (length olds) cites
    → cited_parts trees (map (slice_index places) cites) ≡ replace_subs_in_parts new (cited_parts olds cites)
Carried-parts new trees places olds carried [] below = refl
Carried-parts new trees places olds carried (cite ∷ cites) below =
    λ i. part (Carried-cited new trees places olds carried cite below.0 i) (Carried-parts new trees places olds carried cites below.1 i)

-- the trees of all lines so far, and where the old ones stand among them
pub record StandAmong (new : ℕ → Justification) (roots_are : ℕ → Option ℕ) (trees : List Justification) (new_places : List ℕ) (olds : List Justification) : Type 0 where
  pub carried : Carried new trees new_places olds
  pub at_roots : (i place : ℕ) → roots_are i ≡ Some place → slice_get trees place ≡ Some (new i)

abbrev pub Stands : (ℕ → Justification) → (ℕ → Option ℕ) → Redirected → List Justification → Type 0
Stands new roots_are so_far olds = StandAmong new roots_are (trees_after [] so_far.lines) so_far.new_places olds

-- one line more at the end
with_line : (new : ℕ → Justification) (roots_are : ℕ → Option ℕ) (so_far : Redirected) (olds : List Justification) (line : FlatLine) (old : Justification)
    → Stands new roots_are so_far olds → tree_of_line (trees_after [] so_far.lines) line ≡ replace_subs new old
    → Stands new roots_are (with_replaced so_far (by_line line)) (olds ++ old ∷ [])
with_line new roots_are so_far olds line old stands is =
    let trees : List Justification = trees_after [] so_far.lines in
    let longer : trees_after [] (so_far.lines ++ line ∷ []) ≡ trees ++ tree_of_line trees line ∷ [] = trees_after-append [] so_far.lines (line ∷ []) in
    let many : length trees ≡ length so_far.lines = length-trees_after [] so_far.lines ∙ zero-add (length so_far.lines) in
    subst (λ (all : List Justification). StandAmong new roots_are all (so_far.new_places ++ length so_far.lines ∷ []) (olds ++ old ∷ [])) (sym longer) (record {
      carried = Carried-one_more new (trees ++ tree_of_line trees line ∷ []) so_far.new_places olds (length so_far.lines) old
          (Carried-kept new trees (tree_of_line trees line ∷ []) so_far.new_places olds stands.carried)
          (ap (slice_get (trees ++ tree_of_line trees line ∷ [])) (sym many) ∙ slice_get-end trees (tree_of_line trees line) ∙ ap Some is);
      at_roots = λ i place there. slice_get-kept trees (tree_of_line trees line ∷ []) place (new i) (stands.at_roots i place there);
    })

-- what stands for a subgoal is its portion, or a subgoal past all of theirs
abbrev pub StandsPast : (ℕ → Justification) → List ℕ → ℕ → Type 0
StandsPast new portion_roots subgoals = (i : ℕ) → slice_get portion_roots i ≡ None → new i ≡ sub (subgoals + (i - length portion_roots))

with_sub : (new : ℕ → Justification) (portion_roots : List ℕ) (subgoals : ℕ) (so_far : Redirected) (olds : List Justification) (i : ℕ) → StandsPast new portion_roots subgoals
    → Stands new (slice_get portion_roots) so_far olds
    → Stands new (slice_get portion_roots) (with_replaced so_far (replaced_line portion_roots subgoals so_far.new_places (flat_sub i))) (olds ++ sub i ∷ [])
with_sub new portion_roots subgoals so_far olds i past stands = go (slice_get portion_roots i) refl
  where
    go : (found : Option ℕ) → slice_get portion_roots i ≡ found
        → Stands new (slice_get portion_roots) (with_replaced so_far (replaced_sub subgoals (i - length portion_roots) found)) (olds ++ sub i ∷ [])
    go None is = with_line new (slice_get portion_roots) so_far olds (flat_sub (subgoals + (i - length portion_roots))) (sub i) stands (sym (past i is))
    go (Some root) is = record {
      carried = Carried-one_more new (trees_after [] so_far.lines) so_far.new_places olds root (sub i) stands.carried (stands.at_roots i root is);
      at_roots = stands.at_roots;
    }

with_replaced-stands : (new : ℕ → Justification) (portion_roots : List ℕ) (subgoals : ℕ) (so_far : Redirected) (olds : List Justification) (line : FlatLine) → StandsPast new portion_roots subgoals
    → CitesBelow (length olds) line → Stands new (slice_get portion_roots) so_far olds
    → Stands new (slice_get portion_roots) (with_replaced so_far (replaced_line portion_roots subgoals so_far.new_places line)) (olds ++ tree_of_line olds line ∷ [])
with_replaced-stands new portion_roots subgoals so_far olds (flat_sub i) past cites stands = with_sub new portion_roots subgoals so_far olds i past stands
with_replaced-stands new portion_roots subgoals so_far olds (flat_named name) past cites stands = with_line new (slice_get portion_roots) so_far olds (flat_named name) (named name) stands refl
with_replaced-stands new portion_roots subgoals so_far olds (flat_lemma k) past cites stands = with_line new (slice_get portion_roots) so_far olds (flat_lemma k) (lemma k) stands refl
with_replaced-stands new portion_roots subgoals so_far olds (flat_rule rule places) past cites stands =
    with_line new (slice_get portion_roots) so_far olds (flat_rule rule (map (slice_index so_far.new_places) places)) (by_rule rule (cited_parts olds places)) stands
    (ap (by_rule rule) (Carried-parts new (trees_after [] so_far.lines) so_far.new_places olds stands.carried places cites))

pub redirected-stands : (new : ℕ → Justification) (portion_roots : List ℕ) (subgoals : ℕ) (lines : List FlatLine) (so_far : Redirected) (olds : List Justification) (count : ℕ) →
    StandsPast new portion_roots subgoals
    → length olds ≡ count → CiteEarlier count lines → Stands new (slice_get portion_roots) so_far olds
    → Stands new (slice_get portion_roots) (redirected portion_roots subgoals so_far lines) (trees_after olds lines)
redirected-stands new portion_roots subgoals [] so_far olds count past same earlier stands = stands
redirected-stands new portion_roots subgoals (line ∷ lines) so_far olds count past same earlier stands =
    let longer = length-one_more olds (tree_of_line olds line) in
    redirected-stands new portion_roots subgoals lines (with_replaced so_far (replaced_line portion_roots subgoals so_far.new_places line)) (olds ++ tree_of_line olds line ∷ []) (suc count) past
    (omega (arith, longer, same)) earlier.1
    (with_replaced-stands new portion_roots subgoals so_far olds line past (subst (λ (n : ℕ). CitesBelow n line) (sym same) earlier.0) stands)

-- subgoals past the portions

pub length-roots : (places : ℕ) (portions : List FlatPortion) → length (roots places portions) ≡ length portions
length-roots places [] = refl
length-roots places (portion ∷ portions) = ap suc (length-roots (places + length portion.justification.lines) portions)

portion-past : (portions : List FlatPortion) (places before i : ℕ) → slice_get (roots places portions) i ≡ None
    → numbered_portion before (map portion_of_flat portions) i ≡ sub (before + all_subgoals portions + (i - length (roots places portions)))
portion-past [] places before i none = ap sub (omega arith)
portion-past (portion ∷ portions) places before zero none = cc
portion-past (portion ∷ portions) places before (suc i) none =
    portion-past portions (places + length portion.justification.lines) (before + portion.subgoals) i none ∙ ap sub (omega arith)

root-within : (portions : List FlatPortion) (places i place : ℕ) → slice_get (roots places portions) i ≡ Some place → i < length portions
root-within [] places i place is = cc
root-within (portion ∷ portions) places zero place is = omega arith
root-within (portion ∷ portions) places (suc i) place is = let rest = root-within portions (places + length portion.justification.lines) i place is in omega (arith, rest)

index-of : (xs : List ℕ) (i x : ℕ) → slice_get xs i ≡ Some x → slice_index xs i ≡ x
index-of [] i x is = cc
index-of (y ∷ xs) zero x is = cc
index-of (y ∷ xs) (suc i) x is = index-of xs i x is

pub flat-splice-tree : (flat : FlatJustification) (portions : List FlatPortion) → IsWellCited flat → AreWellCited portions
    → tree (flat_splice flat portions) ≡ splice (tree flat) (map portion_of_flat portions)
flat-splice-tree flat portions well portions_well =
    let new : ℕ → Justification = numbered_portion 0 (map portion_of_flat portions) in
    let start : Redirected = record { lines = joined_lines 0 0 portions; new_places = [] } in
    let at_start : (i place : ℕ) → slice_get (roots 0 portions) i ≡ Some place → slice_get (trees_after [] (joined_lines 0 0 portions)) place ≡ Some (new i) =
    λ i place is. ap (slice_get (trees_after [] (joined_lines 0 0 portions))) (sym (index-of (roots 0 portions) i place is)) ∙ portion_at_root portions [] 0 0 refl portions_well i
    (root-within portions 0 i place is) in
    let stands = redirected-stands new (roots 0 portions) (all_subgoals portions) flat.lines start [] 0
    (λ i none. portion-past portions 0 0 i none ∙ ap sub (omega arith)) refl well.lines (record { carried = tt; at_roots = at_start }) in
    let many = length-trees_after [] flat.lines in
    let root = well.root in
    let within : flat.root < length (trees_after [] flat.lines) = omega (arith, many, root) in
    Carried-cited new (trees_after [] (redirected (roots 0 portions) (all_subgoals portions) start flat.lines).lines)
    (redirected (roots 0 portions) (all_subgoals portions) start flat.lines).new_places
    (trees_after [] flat.lines) stands.carried flat.root within
