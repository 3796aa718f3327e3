-- How deep a spliced justification is at least: a portion's levels stand below those above the subgoal that it refines.
use Rattle.std.proofs.Common.{◌≡◌, ℕ, zero, suc, ◌+◌, ◌<◌, ◌≤◌, max, ◌⊎◌, inl, inr, List, [], ◌∷◌, ◌++◌, length, map, Bool, true, false, if◌then◌else◌, ◌==◌, eqb-true, refl, sym, ap, ◌∙◌, subst}
use Rattle.std.proofs.Common.{arith}
use Rattle.std.proofs.lemmas.Bool.{cases_lt}
use Rattle.hol_model.specs.Goals.Justifications.{Justification, sub, named, lemma, by_rule, Parts, no_parts, part}
use Rattle.hol_model.specs.Goals.Splicing.{Portion, replace_subs, replace_subs_in_parts, shift_subs, numbered_portion, splice}
use Rattle.hol_model.specs.Goals.Replays.{depth, depth_of_parts}
use Rattle.hol_just.specs.SubgoalDepths.{raised, depth_if, subgoal_depth, subgoal_depth_in_parts}

mutual
  shifted-depth : (by : ℕ) (justification : Justification) → depth (shift_subs by justification) ≡ depth justification
  shifted-depth by (sub i) = refl
  shifted-depth by (named name) = refl
  shifted-depth by (lemma k) = refl
  shifted-depth by (by_rule rule parts) = ap (λ n. n + 1) (shifted-depths by parts)

  shifted-depths : (by : ℕ) (parts : Parts) → depth_of_parts (replace_subs_in_parts (λ i. sub (by + i)) parts) ≡ depth_of_parts parts
  shifted-depths by no_parts = refl
  shifted-depths by (part first rest) = λ i. max (shifted-depth by first i) (shifted-depths by rest i)

-- what stands for a subgoal is as deep as its portion
portion-depth : (before : ℕ) (firsts lasts : List Portion) (portion : Portion) → depth (numbered_portion before (firsts ++ portion ∷ lasts) (length firsts)) ≡ depth portion.justification
portion-depth before [] lasts portion = shifted-depth before portion.justification
portion-depth before (first ∷ firsts) lasts portion = portion-depth (before + first.subgoals) firsts lasts portion

-- so many levels, those of the subgoal taken off, are not more than the limit; nothing is said where it does not stand there
abbrev pub StandsWithin : ℕ → ℕ → ℕ → Type 0
StandsWithin zero levels limit = Unit {0}
StandsWithin (suc above) levels limit = above + levels ≤ limit

stands-more : (found levels limit more : ℕ) → limit ≤ more → StandsWithin found levels limit → StandsWithin found levels more
stands-more zero levels limit more le stands = tt
stands-more (suc above) levels limit more le stands = omega (arith, le, stands)

stands-raised : (found levels limit : ℕ) → StandsWithin found levels limit → StandsWithin (raised found) levels (limit + 1)
stands-raised zero levels limit stands = tt
stands-raised (suc above) levels limit stands = omega (arith, stands)

stands-either : (a b levels limit : ℕ) → StandsWithin a levels limit → StandsWithin b levels limit → StandsWithin (max a b) levels limit
stands-either a b levels limit h k = go (cases_lt a b)
  where
    go : (a < b) ⊎ (b ≤ a) → StandsWithin (max a b) levels limit
    go (inl less) = let second : b ≡ max a b = omega (arith, less) in subst (λ found. StandsWithin found levels limit) second k
    go (inr more) = let first : a ≡ max a b = omega (arith, more) in subst (λ found. StandsWithin found levels limit) first h

module _ (number : ℕ) (new : ℕ → Justification) where
  at-subgoal : (i : ℕ) (same : Bool) → i == number ≡ same → StandsWithin (if same then 1 else 0) (depth (new number)) (depth (new i))
  at-subgoal i true is = subst (λ k. 0 + depth (new number) ≤ depth (new k)) (sym (eqb-true i number is)) (omega arith)
  at-subgoal i false is = tt

  mutual
    replaced-stands : (justification : Justification) → StandsWithin (subgoal_depth number justification) (depth (new number)) (depth (replace_subs new justification))
    replaced-stands (sub i) = at-subgoal i (i == number) refl
    replaced-stands (named name) = tt
    replaced-stands (lemma k) = tt
    replaced-stands (by_rule rule parts) =
        stands-raised (subgoal_depth_in_parts number parts) (depth (new number)) (depth_of_parts (replace_subs_in_parts new parts)) (replaced-all-stand parts)

    replaced-all-stand : (parts : Parts) → StandsWithin (subgoal_depth_in_parts number parts) (depth (new number)) (depth_of_parts (replace_subs_in_parts new parts))
    replaced-all-stand no_parts = tt
    replaced-all-stand (part first rest) =
        let deep = depth (replace_subs new first) in
        let others = depth_of_parts (replace_subs_in_parts new rest) in
        stands-either (subgoal_depth number first) (subgoal_depth_in_parts number rest) (depth (new number)) (max deep others)
        (stands-more (subgoal_depth number first) (depth (new number)) deep (max deep others) (omega arith) (replaced-stands first))
        (stands-more (subgoal_depth_in_parts number rest) (depth (new number)) others (max deep others) (omega arith) (replaced-all-stand rest))

-- the levels above a subgoal and those of its portion
pub spliced-stands : (justification : Justification) (firsts lasts : List Portion) (portion : Portion)
    → StandsWithin (subgoal_depth (length firsts) justification) (depth portion.justification) (depth (splice justification (firsts ++ portion ∷ lasts)))
spliced-stands justification firsts lasts portion =
    let new = numbered_portion 0 (firsts ++ portion ∷ lasts) in
    subst (λ levels. StandsWithin (subgoal_depth (length firsts) justification) levels (depth (replace_subs new justification))) (portion-depth 0 firsts lasts portion)
    (replaced-stands (length firsts) new justification)
