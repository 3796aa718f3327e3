-- Justifications put one behind another.
use Rattle.std.proofs.Common.{◌≡◌, ℕ, suc, ◌+◌, ◌<◌, ◌≤◌, List, [], ◌∷◌, ◌++◌, length, map, drop, get_or, drop-cons, drop_of_length-le, true, refl, sym, ◌∙◌, ap, subst, Some, arith}
use Rattle.std.proofs.Common.{length-append, append_assoc, append-nil, zero-add}
use Rattle.std.proofs.lemmas.List.{map-append}
use Rattle.std.proofs.lemmas.List.Sums.{sum_by-cons}
use Rattle.std.specs.Prelude.{slice_get, slice_index, sum_by, Result, Ok, Err, IfOk, IfErr}
use Rattle.hol_model.specs.declared.fault.Fault.{Fault}
use Rattle.std.specs.Option.{unwrap_or}
use Rattle.hol_model.specs.Derived.InferenceRules.{InferenceRule}
use Rattle.hol_model.specs.Goals.Justifications.{Justification, sub, named, lemma, by_rule, Parts, no_parts}
use Rattle.hol_model.specs.Goals.Justifications as justified
use Rattle.hol_model.specs.Goals.Goals as spec
use Rattle.hol_model.specs.Goals.Splicing.{replace_subs_in_parts, shift_subs, numbered_portion, goals_of_steps, splice, portion_of}
use Rattle.hol_just.specs.Flat.{FlatLine, flat_rule, FlatJustification, FlatPortion, cited, cited_parts, trees_after, tree, is_well_cited, moved_line, joined_lines, roots, all_subgoals}
use Rattle.hol_just.specs.Flat.{portion_of_flat, redirected, flat_splice}
use Rattle.hol_just.specs.Lines.{flat_line, flat_lines, flat_of_lines}
use Rattle.hol_just.specs.Steps.{flat_of, goal_of, tree_of, steps_of, step_of, goals_of, parts_of, flat_portion, IsRefused}
use Rattle.hol_just.specs.Joining.{Adds, IsJoined, own_portion, redirected_of}
use Rattle.hol_just.specs.declared.just.Just.{Just}
use Rattle.hol_just.specs.declared.goal.Goal.{Goal}
use Rattle.hol_just.specs.declared.goal.Step.{Step}
use Rattle.hol_just.specs.declared.line.Line.{Line}
use Rattle.hol_just.specs.declared.moving.Joined.{Joined}
use Rattle.hol_just.specs.declared.splicing.Spliced.{Spliced}
use Rattle.hol_just.proofs.FlatTrees.{AreBelow, IsWellCited, AreWellCited, well_cited-from, well_cited-to, slice_get-end, trees_after-append, length-trees_after, portion_at_root}
use Rattle.hol_just.proofs.FlatSplicing.{length-roots, flat-splice-tree}
use Rattle.hol_just.proofs.FlatCitations.{length-moved, all_lines, length-joined_lines, joined-earlier, roots-below, CiteEarlier-append, flat-splice-is-well-cited, flat-splice-is-small}

length-flat : (lines : List Line) → length (flat_lines lines) ≡ length lines
length-flat [] = refl
length-flat (line ∷ lines) = let rest = length-flat lines in omega (arith, rest)

pub one-joined : (old new : Joined) (subgoals next : ℕ) (portion : FlatPortion) (left all : List FlatPortion) → IsJoined old subgoals (portion ∷ left) all → Adds old new subgoals portion.justification
    → next ≡ subgoals + portion.subgoals → IsJoined new next left all
one-joined old new subgoals next portion left all is adds same =
    let moved : List FlatLine = map (moved_line (length old.lines.items) subgoals) portion.justification.lines in
    let longer : length new.lines.items ≡ length old.lines.items + length portion.justification.lines = many in
    record {
      lines =
          ap (λ (lines : List FlatLine). lines ++ joined_lines (length new.lines.items) next left) adds.lines
          ∙ append_assoc (flat_lines old.lines.items) moved (joined_lines (length new.lines.items) next left)
          ∙ ap (λ (n : ℕ). flat_lines old.lines.items ++ (moved ++ joined_lines n next left)) longer
          ∙ ap (λ (n : ℕ). flat_lines old.lines.items ++ (moved ++ joined_lines (length old.lines.items + length portion.justification.lines) n left)) same
          ∙ is.lines;
      roots =
          ap (λ (places : List ℕ). places ++ roots (length new.lines.items) left) adds.roots
          ∙ append_assoc old.roots.items ((length old.lines.items + portion.justification.root) ∷ []) (roots (length new.lines.items) left)
          ∙ ap (λ (n : ℕ). old.roots.items ++ ((length old.lines.items + portion.justification.root) ∷ roots n left)) longer
          ∙ is.roots;
      subgoals = let whole = is.subgoals in omega (arith, whole, same);
    }
  where
    many : length new.lines.items ≡ length old.lines.items + length portion.justification.lines
    many =
        let all_new = length-flat new.lines.items in
        let all_old = length-flat old.lines.items in
        let own = length-moved (length old.lines.items) subgoals portion.justification.lines in
        let both : length (flat_lines new.lines.items) ≡ length (flat_lines old.lines.items) + length (map (moved_line (length old.lines.items) subgoals) portion.justification.lines) =
        ap length adds.lines ∙ length-append (flat_lines old.lines.items) (map (moved_line (length old.lines.items) subgoals) portion.justification.lines) in
        omega (arith, all_new, all_old, own, both)

-- each justification is well cited

pub well_cited : (just : Just) → IsWellCited (flat_of just)
well_cited just = well_cited-from (flat_of just) just.node.value.well_cited

own-well_cited : (parts : List Just) → AreWellCited (map own_portion parts)
own-well_cited [] = tt
own-well_cited (part ∷ parts) = (well_cited part, own-well_cited parts)

portions-well_cited : (parts : List Step) → AreWellCited (map flat_portion parts)
portions-well_cited [] = tt
portions-well_cited (part ∷ parts) = (well_cited part.just, portions-well_cited parts)

-- a rule behind its parts

abbrev pub stepped : InferenceRule → List FlatPortion → FlatJustification
stepped rule all = record { lines = joined_lines 0 0 all ++ flat_rule rule (roots 0 all) ∷ []; root = length (joined_lines 0 0 all) }

stepped-well_cited : (rule : InferenceRule) (all : List FlatPortion) → AreWellCited all → is_well_cited (stepped rule all) ≡ true
stepped-well_cited rule all well =
    let many = length-joined_lines 0 0 all in
    let place : 0 + all_lines all ≡ 0 + length (joined_lines 0 0 all) = omega (arith, many) in
    let longer : length (joined_lines 0 0 all ++ flat_rule rule (roots 0 all) ∷ []) ≡ length (joined_lines 0 0 all) + 1 = length-append (joined_lines 0 0 all) (flat_rule rule (roots 0 all) ∷ []) in
    well_cited-to (stepped rule all) (record {
      lines = CiteEarlier-append 0 (joined_lines 0 0 all) (flat_rule rule (roots 0 all) ∷ []) (joined-earlier 0 0 all well)
          (subst (λ (n : ℕ). AreBelow n (roots 0 all)) place (roots-below 0 all well), tt);
      root = omega (arith, longer);
    })

mutual
  shift-none : (tree : Justification) → shift_subs 0 tree ≡ tree
  shift-none (sub i) = ap sub (zero-add i)
  shift-none (named name) = refl
  shift-none (lemma k) = refl
  shift-none (by_rule rule parts) = ap (by_rule rule) (shift-none_in_parts parts)

  shift-none_in_parts : (parts : Parts) → replace_subs_in_parts (λ i. sub (0 + i)) parts ≡ parts
  shift-none_in_parts no_parts = refl
  shift-none_in_parts (justified.part first rest) = λ i. justified.part (shift-none first i) (shift-none_in_parts rest i)

cited-parts : (trees : List Justification) (parts : List Just) (places : List ℕ) → length places ≡ length parts
    → ((i : ℕ) → i < length parts → slice_get trees (slice_index places i) ≡ Some (numbered_portion 0 (map portion_of_flat (map own_portion parts)) i))
    → cited_parts trees places ≡ parts_of (map tree_of parts)
cited-parts trees [] [] same at = refl
cited-parts trees [] (place ∷ places) same at = absurd (omega (arith, same))
cited-parts trees (first ∷ parts) [] same at = absurd (omega (arith, same))
cited-parts trees (first ∷ parts) (place ∷ places) same at =
    λ i. justified.part (head i) (cited-parts trees parts places (omega (arith, same)) (λ k within. at (suc k) (omega (arith, within))) i)
  where
    head : cited trees place ≡ tree_of first
    head = ap (λ found. unwrap_or found (named [])) (at 0 (omega arith)) ∙ shift-none (tree_of first)

length-own : (parts : List Just) → length (map own_portion parts) ≡ length parts
length-own [] = refl
length-own (part ∷ parts) = ap suc (length-own parts)

stepped-tree : (rule : InferenceRule) (parts : List Just) → tree (stepped rule (map own_portion parts)) ≡ by_rule rule (parts_of (map tree_of parts))
stepped-tree rule parts =
    let all = map own_portion parts in
    let trees : List Justification = trees_after [] (joined_lines 0 0 all) in
    let last : Justification = by_rule rule (cited_parts trees (roots 0 all)) in
    let many : length trees ≡ length (joined_lines 0 0 all) = length-trees_after [] (joined_lines 0 0 all) ∙ zero-add (length (joined_lines 0 0 all)) in
    let own = length-own parts in
    let one_each = length-roots 0 all in
    ap (λ (found : List Justification). cited found (length (joined_lines 0 0 all))) (trees_after-append [] (joined_lines 0 0 all) (flat_rule rule (roots 0 all) ∷ []))
    ∙ ap (λ found. unwrap_or found (named [])) (ap (slice_get (trees ++ last ∷ [])) (sym many) ∙ slice_get-end trees last)
    ∙ ap (by_rule rule) (cited-parts trees parts (roots 0 all) (omega (arith, own, one_each)) (λ i within. portion_at_root all [] 0 0 refl (own-well_cited parts) i (omega (arith, own, within))))

lines-own : (parts : List Just) → all_lines (map own_portion parts) ≡ sum_by steps_of parts
lines-own [] = refl
lines-own (part ∷ parts) = let rest = lines-own parts in let first = length-flat part.node.value.lines.items in let whole = sum_by-cons steps_of part parts in omega (arith, rest, first, whole)

-- what a rule behind its parts is
pub record IsStepped (rule : InferenceRule) (parts : List Just) (lines : List Line) (root : ℕ) : Type 0 where
  pub cited : is_well_cited (flat_of_lines lines root) ≡ true
  pub tree : tree (flat_of_lines lines root) ≡ by_rule rule (parts_of (map tree_of parts))
  pub steps : length lines ≡ sum_by steps_of parts + 1

flat-append : (lines : List Line) (line : Line) → flat_lines (lines ++ line ∷ []) ≡ flat_lines lines ++ flat_line line ∷ []
flat-append [] line = refl
flat-append (first ∷ lines) line = ap (λ rest. flat_line first ∷ rest) (flat-append lines line)

pub is-stepped : (rule : InferenceRule) (parts : List Just) (joined : Joined) (line : Line) (lines : List Line) (root : ℕ) → IsJoined joined 0 [] (map own_portion parts)
    → flat_line line ≡ flat_rule rule joined.roots.items → lines ≡ joined.lines.items ++ line ∷ [] → root ≡ length joined.lines.items
    → IsStepped rule parts lines root
is-stepped rule parts joined line lines root is line_is lines_are root_is =
    let all = map own_portion parts in
    let all_joined : flat_lines joined.lines.items ≡ joined_lines 0 0 all = sym (append-nil (flat_lines joined.lines.items)) ∙ is.lines in
    let all_roots : joined.roots.items ≡ roots 0 all = sym (append-nil joined.roots.items) ∙ is.roots in
    let many = length-flat joined.lines.items in
    let here : root ≡ length (joined_lines 0 0 all) = root_is ∙ sym many ∙ ap length all_joined in
    let flat : flat_of_lines lines root ≡ stepped rule all =
    λ i. record {
      lines = (ap flat_lines lines_are ∙ flat-append joined.lines.items line ∙ (λ j. all_joined j ++ line_is j ∷ []) ∙
          (λ j. joined_lines 0 0 all ++ flat_rule rule (all_roots j) ∷ [])) i;
      root = here i;
    } in
    let counted = length-joined_lines 0 0 all in
    let own = lines-own parts in
    let longer : length lines ≡ length joined.lines.items + 1 = ap length lines_are ∙ length-append joined.lines.items (line ∷ []) in
    record {
      cited = ap is_well_cited flat ∙ stepped-well_cited rule all (own-well_cited parts);
      tree = ap tree flat ∙ stepped-tree rule parts;
      steps = omega (arith, longer, root_is, here, counted, own);
    }

-- justifications in place of subgoals

pub record IsSpliced (just : Just) (parts : List Step) (lines : List Line) (root : ℕ) : Type 0 where
  pub cited : is_well_cited (flat_of_lines lines root) ≡ true
  pub tree : tree (flat_of_lines lines root) ≡ splice (tree_of just) (map (λ part. portion_of (step_of part)) parts)
  pub steps : length lines ≤ steps_of just + sum_by (λ part. steps_of part.just) parts

length-goals : (goals : List Goal) → length (goals_of goals) ≡ length goals
length-goals [] = refl
length-goals (goal ∷ goals) = ap suc (length-goals goals)

portions-same : (parts : List Step) → map portion_of_flat (map flat_portion parts) ≡ map (λ part. portion_of (step_of part)) parts
portions-same [] = refl
portions-same (part ∷ parts) =
    let many = length-goals part.goals.items in
    λ i. record { subgoals = sym many i; justification = tree_of part.just } ∷ portions-same parts i

lines-spliced : (parts : List Step) → all_lines (map flat_portion parts) ≡ sum_by (λ part. steps_of part.just) parts
lines-spliced [] = refl
lines-spliced (part ∷ parts) = let rest = lines-spliced parts in let first = length-flat part.just.node.value.lines.items in let whole =
    sum_by-cons (λ (step : Step). steps_of step.just) part parts in omega (arith, rest, first, whole)

pub is-spliced : (just : Just) (parts : List Step) (joined : Joined) (subgoals : ℕ) (made : Spliced) (root : ℕ) → IsJoined joined subgoals [] (map flat_portion parts)
    → redirected_of made ≡ redirected joined.roots.items subgoals (record { lines = flat_lines joined.lines.items; new_places = [] }) (flat_of just).lines
    → root ≡ slice_index made.new_places.items just.node.value.root
    → IsSpliced just parts made.lines.items root
is-spliced just parts joined subgoals made root is made_is root_is =
    let all = map flat_portion parts in
    let all_joined : flat_lines joined.lines.items ≡ joined_lines 0 0 all = sym (append-nil (flat_lines joined.lines.items)) ∙ is.lines in
    let all_roots : joined.roots.items ≡ roots 0 all = sym (append-nil joined.roots.items) ∙ is.roots in
    let counted = is.subgoals in
    let all_counted : subgoals ≡ all_subgoals all = omega (arith, counted) in
    let whole : redirected_of made ≡ redirected (roots 0 all) (all_subgoals all) (record { lines = joined_lines 0 0 all; new_places = [] }) (flat_of just).lines =
    made_is ∙ (λ i. redirected (all_roots i) (all_counted i) (record { lines = all_joined i; new_places = [] }) (flat_of just).lines) in
    let flat : flat_of_lines made.lines.items root ≡ flat_splice (flat_of just) all =
    (λ i. record { lines = flat_lines made.lines.items; root = root_is i })
    ∙ (λ i. record { lines = (whole i).lines; root = slice_index (whole i).new_places just.node.value.root }) in
    let small = flat-splice-is-small (flat_of just) all in
    let own = lines-spliced parts in
    let mine = length-flat just.node.value.lines.items in
    let these = length-flat made.lines.items in
    let same : length (flat_lines made.lines.items) ≡ length (flat_splice (flat_of just) all).lines = ap (λ (f : FlatJustification). length f.lines) flat in
    record {
      cited = ap is_well_cited flat ∙ well_cited-to (flat_splice (flat_of just) all) (flat-splice-is-well-cited (flat_of just) all (well_cited just) (portions-well_cited parts));
      tree = ap tree flat ∙ flat-splice-tree (flat_of just) all (well_cited just) (portions-well_cited parts) ∙ ap (splice (tree_of just)) (portions-same parts);
      steps = omega (arith, small, own, mine, these, same);
    }

-- what is finished

pub of-tree : (T : Justification) (lines : List Line) (root : ℕ) (result : Result Just Fault) → tree (flat_of_lines lines root) ≡ T
    → IfOk result (λ made. tree_of made ≡ tree (flat_of_lines lines root)) → IfOk result (λ made. tree_of made ≡ T)
of-tree T lines root (Ok made) same is = is ∙ same
of-tree T lines root (Err fault) same is = tt

pub of-refusal : (T : Justification) (lines : List Line) (root : ℕ) (result : Result Just Fault) → tree (flat_of_lines lines root) ≡ T
    → IfErr result (IsRefused (tree (flat_of_lines lines root))) → IfErr result (IsRefused T)
of-refusal T lines root (Ok made) same is = tt
of-refusal T lines root (Err fault) same is = subst (λ (t : Justification). IsRefused t fault) same is

pub of-steps : (count : ℕ) (lines : List Line) (result : Result Just Fault) → length lines ≡ count
    → IfOk result (λ made. steps_of made ≡ length lines) → IfOk result (λ made. steps_of made ≡ count)
of-steps count lines (Ok made) same is = is ∙ same
of-steps count lines (Err fault) same is = tt

pub of-fewer : (count : ℕ) (lines : List Line) (result : Result Just Fault) → length lines ≤ count
    → IfOk result (λ made. steps_of made ≡ length lines) → IfOk result (λ made. steps_of made ≤ count)
of-fewer count lines (Ok made) same is = omega (arith, same, is)
of-fewer count lines (Err fault) same is = tt

-- one part after another

pub one-part : (parts : List Step) (at : ℕ) (item : Step) (old new : Joined) (subgoals next : ℕ) (all : List FlatPortion) → at < length parts → item ≡ get_or parts at item
    → IsJoined old subgoals (map flat_portion (drop at parts)) all → Adds old new subgoals (flat_of item.just) → next ≡ subgoals + length item.goals.items
    → IsJoined new next (map flat_portion (drop (at + 1) parts)) all
one-part parts at item old new subgoals next all within is_item is adds same =
    let next_place : suc at ≡ at + 1 = omega arith in
    let here : drop at parts ≡ item ∷ drop (at + 1) parts =
    drop-cons parts at item within ∙ (λ i. sym is_item i ∷ drop (next_place i) parts) in
    one-joined old new subgoals next (flat_portion item) (map flat_portion (drop (at + 1) parts)) all
    (subst (λ (left : List Step). IsJoined old subgoals (map flat_portion left) all) here is) adds same

pub no-more-parts : (parts : List Step) (at : ℕ) (joined : Joined) (subgoals : ℕ) (all : List FlatPortion) → length parts ≤ at
    → IsJoined joined subgoals (map flat_portion (drop at parts)) all → IsJoined joined subgoals [] all
no-more-parts parts at joined subgoals all past is = subst (λ (left : List Step). IsJoined joined subgoals (map flat_portion left) all) (drop_of_length-le parts past) is

-- one step after another, and their subgoals

pub next-part : (items rest : List Step) (item : Step) (old new : Joined) (goals more grown : List Goal) (all : List FlatPortion) → items ≡ item ∷ rest
    → IsJoined old (length goals) (map flat_portion items) all → Adds old new (length goals) (flat_of item.just) → more ≡ item.goals.items → grown ≡ goals ++ more
    → IsJoined new (length grown) (map flat_portion rest) all
next-part items rest item old new goals more grown all goes is adds more_is grown_is =
    let longer : length grown ≡ length goals + length item.goals.items = ap length grown_is ∙ length-append goals more ∙ ap (λ (m : List Goal). length goals + length m) more_is in
    one-joined old new (length goals) (length grown) (flat_portion item) (map flat_portion rest) all
    (subst (λ (left : List Step). IsJoined old (length goals) (map flat_portion left) all) goes is) adds longer

pub next-goals : (items rest : List Step) (item : Step) (goals more grown : List Goal) (whole : List spec.Goal) → items ≡ item ∷ rest
    → goals_of goals ++ goals_of_steps (map step_of items) ≡ whole → more ≡ item.goals.items → grown ≡ goals ++ more
    → goals_of grown ++ goals_of_steps (map step_of rest) ≡ whole
next-goals items rest item goals more grown whole goes so_far more_is grown_is =
    let moved : goals_of (goals ++ item.goals.items) ≡ goals_of goals ++ goals_of item.goals.items = map-append goal_of goals item.goals.items in
    ap (λ (g : List Goal). goals_of g ++ goals_of_steps (map step_of rest)) (grown_is ∙ ap (λ (m : List Goal). goals ++ m) more_is)
    ∙ ap (λ (g : List spec.Goal). g ++ goals_of_steps (map step_of rest)) moved
    ∙ append_assoc (goals_of goals) (goals_of item.goals.items) (goals_of_steps (map step_of rest))
    ∙ ap (λ (i : List Step). goals_of goals ++ goals_of_steps (map step_of i)) (sym goes)
    ∙ so_far

pub all-parts : (items : List Step) (joined : Joined) (subgoals : ℕ) (all : List FlatPortion) → items ≡ [] → IsJoined joined subgoals (map flat_portion items) all → IsJoined joined subgoals [] all
all-parts items joined subgoals all none is = subst (λ (left : List Step). IsJoined joined subgoals (map flat_portion left) all) none is

pub all-goals : (items : List Step) (goals : List Goal) (whole : List spec.Goal) → items ≡ [] → goals_of goals ++ goals_of_steps (map step_of items) ≡ whole → goals_of goals ≡ whole
all-goals items goals whole none so_far = sym (append-nil (goals_of goals)) ∙ ap (λ (i : List Step). goals_of goals ++ goals_of_steps (map step_of i)) (sym none) ∙ so_far

-- what is refused of a tree is refused of the same tree
pub refused-tree : (T : Justification) (lines : List Line) (root : ℕ) (fault : Fault) → tree (flat_of_lines lines root) ≡ T → IsRefused (tree (flat_of_lines lines root)) fault → IsRefused T fault
refused-tree T lines root fault same is = subst (λ (t : Justification). IsRefused t fault) same is
