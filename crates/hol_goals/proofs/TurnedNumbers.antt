-- The steps that turn goals give each subgoal the number that it has behind so many turns.
use Rattle.std.proofs.Common.{◌≡◌, ℕ, zero, suc, ◌+◌, ◌-◌, ◌≤◌, ◌<◌, max, Bool, true, false, List, [], ◌∷◌, ◌++◌, length, map, take, drop, refl, sym, ◌∙◌, ap, arith}
use Rattle.std.specs.Prelude.{nat_lt, nat_le}
use Rattle.std.proofs.lemmas.Bool.{ltb-true, ltb-false}
use Rattle.std.proofs.lemmas.List.{append_assoc, map-append, length-take-le, length-drop, take-append-drop}
use Rattle.hol_model.specs.declared.limits.TheConstants.{JUSTIFICATION_DEPTH_LIMIT}
use Rattle.hol_model.specs.Goals.Goals.{Goal}
use Rattle.hol_model.specs.Goals.Justifications.{Justification, sub, named, lemma, by_rule, Parts, no_parts, part}
use Rattle.hol_model.specs.Goals.ValidSteps.{Step}
use Rattle.hol_model.specs.Goals.Splicing.{replace_subs, replace_subs_in_parts, Portion, portion_of, numbered_portion, splice}
use Rattle.hol_model.specs.Goals.Replays.{depth, depth_of_parts, is_within_depth}
use Rattle.hol_model.specs.Goals.GoalStates.{untouched, rotated}
use Rattle.hol_goals.specs.Turning.{numbered_from, last_of, turning_steps}
use Rattle.hol_goals.proofs.Turns.{number_after, goals_after, goals-turned, rotated-is, turned, past-goals, down, after-more}

-- a tree with other numbers is as deep

mutual
  pub depth-renumbered : (new : ℕ → ℕ) (justification : Justification) → depth (replace_subs (λ i. sub (new i)) justification) ≡ depth justification
  depth-renumbered new (sub i) = refl
  depth-renumbered new (named name) = refl
  depth-renumbered new (lemma k) = refl
  depth-renumbered new (by_rule rule parts) = ap (λ n. n + 1) (depth-renumbered-in-parts new parts)

  depth-renumbered-in-parts : (new : ℕ → ℕ) (parts : Parts) → depth_of_parts (replace_subs_in_parts (λ i. sub (new i)) parts) ≡ depth_of_parts parts
  depth-renumbered-in-parts new no_parts = refl
  depth-renumbered-in-parts new (part one rest) = λ i. max (depth-renumbered new one i) (depth-renumbered-in-parts new rest i)

-- the number of a subgoal among the first ones

to-end : (goals turns i : ℕ) → i < turns → turns < goals → number_after goals turns i ≡ goals - turns + i
to-end goals turns i first within =
    let rest : ℕ = turns - suc i in
    let split : turns ≡ i + suc rest = omega (arith, first) in
    let itself : i ≡ i + 0 = omega arith in
    let at_front : number_after goals i i ≡ 0 = ap (number_after goals i) itself ∙ down goals i 0 (omega (arith, first, within)) in
    let last : ℕ = goals - 1 - rest in
    let sum : goals - 1 ≡ rest + last = omega (arith, first, within) in
    let place : last ≡ goals - turns + i = omega (arith, first, within) in
    ap (λ (n : ℕ). number_after goals n i) split ∙ after-more goals i (suc rest) i ∙ ap (number_after goals (suc rest)) at_front
    ∙ ap (number_after goals rest) sum ∙ down goals rest last (omega (arith, first, within)) ∙ place

-- the number that each step gives

within-first : (before number count : ℕ) (rest : List Portion) (i : ℕ) → i < count → numbered_portion before (map portion_of (numbered_from number count) ++ rest) i ≡ sub (before + (number + i))
within-first before number zero rest i within = absurd (omega (arith, within))
within-first before number (suc count) rest zero within =
    let same : before + number ≡ before + (number + 0) = omega arith in
    ap sub same
within-first before number (suc count) rest (suc i) within =
    let next : before + 0 + (suc number + i) ≡ before + (number + suc i) = omega arith in
    within-first (before + 0) (suc number) count rest i (omega (arith, within)) ∙ ap sub next

past-first : (before number count : ℕ) (rest : List Portion) (i : ℕ) → numbered_portion before (map portion_of (numbered_from number count) ++ rest) (count + i) ≡ numbered_portion before rest i
past-first before number zero rest i =
    let same : 0 + i ≡ i = omega arith in
    ap (numbered_portion before rest) same
past-first before number (suc count) rest i =
    let next : suc count + i ≡ suc (count + i) = omega arith in
    let same : before + 0 ≡ before = omega arith in
    ap (numbered_portion before (map portion_of (numbered_from number (suc count)) ++ rest)) next ∙ past-first (before + 0) (suc number) count rest i ∙ ap (λ n. numbered_portion n rest i) same

within-others : (before : ℕ) (others : List Goal) (rest : List Portion) (i : ℕ) → i < length others
    → numbered_portion before (map portion_of (map untouched others) ++ rest) i ≡ sub (before + i)
within-others before [] rest i within = absurd (omega (arith, within))
within-others before (goal ∷ others) rest zero within = refl
within-others before (goal ∷ others) rest (suc i) within =
    let next : before + 1 + i ≡ before + suc i = omega arith in
    within-others (before + 1) others rest i (omega (arith, within)) ∙ ap sub next

-- so many subgoals and one more, of which the last is taken
abbrev last-portion : ℕ → Portion
last-portion n = record { subgoals = suc n; justification = sub n }

past-others : (before : ℕ) (others : List Goal) (n i : ℕ)
    → numbered_portion before (map portion_of (map untouched others) ++ last-portion n ∷ []) (length others + i) ≡ sub (before + (length others + n + i))
past-others before [] n zero =
    let same : before + n ≡ before + (0 + n + 0) = omega arith in
    ap sub same
past-others before [] n (suc i) =
    let same : 0 + suc i ≡ suc i = omega arith in
    let next : before + suc n + i ≡ before + (0 + n + suc i) = omega arith in
    ap (numbered_portion before (last-portion n ∷ [])) same ∙ ap sub next
past-others before (goal ∷ others) n i =
    let next : length (goal ∷ others) + i ≡ suc (length others + i) = omega arith in
    let same : before + 1 + (length others + n + i) ≡ before + (length (goal ∷ others) + n + i) = omega arith in
    ap (numbered_portion before (map portion_of (map untouched (goal ∷ others)) ++ last-portion n ∷ [])) next ∙ past-others (before + 1) others n i ∙ ap sub same

abbrev pub portions : ℕ → ℕ → List Goal → List Portion
portions count turns others = map portion_of (numbered_from (count - turns) turns) ++ (map portion_of (map untouched others) ++ last-portion turns ∷ [])

turned-number : (count turns : ℕ) (others : List Goal) → length others ≡ count - turns → turns < count → (i : ℕ)
    → numbered_portion 0 (portions count turns others) i ≡ sub (number_after count turns i)
turned-number count turns others long within i = go (nat_lt i turns) refl
  where
    behind : (j : ℕ) → i ≡ turns + j → (is_other : Bool) → nat_lt j (length others) ≡ is_other → numbered_portion 0 (portions count turns others) i ≡ sub (number_after count turns i)
    behind j place true is =
        let less : j < length others = ltb-true j (length others) is in
        let same : 0 + j ≡ j = omega arith in
        ap (numbered_portion 0 (portions count turns others)) place ∙ past-first 0 (count - turns) turns (map portion_of (map untouched others) ++ last-portion turns ∷ []) j
        ∙ within-others 0 others (last-portion turns ∷ []) j less ∙ ap sub same
        ∙ ap sub (sym (down count turns j (omega (arith, less, long, within)))) ∙ ap (λ n. sub (number_after count turns n)) (sym place)
    behind j place false is =
        let past : length others ≤ j = ltb-false j (length others) is in
        let rest : ℕ = j - length others in
        let split : j ≡ length others + rest = omega (arith, past) in
        let same : 0 + (length others + turns + rest) ≡ i = omega (arith, place, split) in
        ap (numbered_portion 0 (portions count turns others)) place ∙ past-first 0 (count - turns) turns (map portion_of (map untouched others) ++ last-portion turns ∷ []) j
        ∙ ap (numbered_portion 0 (map portion_of (map untouched others) ++ last-portion turns ∷ [])) split
        ∙ past-others 0 others turns rest ∙ ap sub same
        ∙ ap sub (sym (past-goals count turns i (omega (arith, place, past, long, within))))

    go : (is_first : Bool) → nat_lt i turns ≡ is_first → numbered_portion 0 (portions count turns others) i ≡ sub (number_after count turns i)
    go true is =
        let less : i < turns = ltb-true i turns is in
        let same : 0 + (count - turns + i) ≡ count - turns + i = omega arith in
        within-first 0 (count - turns) turns (map portion_of (map untouched others) ++ last-portion turns ∷ []) i less ∙ ap sub same
        ∙ ap sub (sym (to-end count turns i less within))
    go false is =
        let past : turns ≤ i = ltb-false i turns is in
        let place : i ≡ turns + (i - turns) = omega (arith, past) in
        behind (i - turns) place (nat_lt (i - turns) (length others)) refl

-- the whole

portions-are : (turns : ℕ) (goals : List Goal) → turns < length goals → map portion_of (turning_steps turns goals) ≡ portions (length goals) turns (drop turns goals)
portions-are turns goals within =
    let first = numbered_from (length goals - turns) turns in
    let others = map untouched (drop turns goals) in
    let more : turns + 1 ≤ length goals = omega (arith, within) in
    let one : turns + 1 ≡ suc turns = omega arith in
    let count : length (take (turns + 1) goals) ≡ suc turns = length-take-le (turns + 1) goals more ∙ one in
    map-append portion_of (first ++ others) (last_of turns goals ∷ []) ∙ ap (λ l. l ++ portion_of (last_of turns goals) ∷ []) (map-append portion_of first others)
    ∙ append_assoc (map portion_of first) (map portion_of others) (portion_of (last_of turns goals) ∷ [])
    ∙ ap (λ (n : ℕ). map portion_of first ++ (map portion_of others ++ record { subgoals = n; justification = sub turns } ∷ [])) count

numbers-are : (turns : ℕ) (goals : List Goal) → turns < length goals → (i : ℕ) → numbered_portion 0 (map portion_of (turning_steps turns goals)) i ≡ sub (number_after (length goals) turns i)
numbers-are turns goals within i =
    let long : length (drop turns goals) ≡ length goals - turns = length-drop turns goals in
    ap (λ l. numbered_portion 0 l i) (portions-are turns goals within) ∙ turned-number (length goals) turns (drop turns goals) long within i

goals-are : (turns : ℕ) (goals : List Goal) → turns < length goals → goals_after turns goals ≡ drop turns goals ++ take turns goals
goals-are turns goals within =
    let count : length (take turns goals) ≡ turns = length-take-le turns goals (omega (arith, within)) in
    ap (λ (n : ℕ). goals_after n goals) (sym count) ∙ ap (goals_after (length (take turns goals))) (sym (take-append-drop turns goals))
    ∙ goals-turned (take turns goals) (drop turns goals)

-- so many turns are one splice
pub turns-are : (turns : ℕ) (step : Step) → turns < length step.goals
    → record { goals = drop turns step.goals ++ take turns step.goals; justification = splice step.justification (map portion_of (turning_steps turns step.goals)) } ≡ rotated turns step
turns-are turns step within =
    let goals = goals-are turns step.goals within in
    let one : record { goals = drop turns step.goals ++ take turns step.goals; justification = splice step.justification (map portion_of (turning_steps turns step.goals)) } ≡ turned turns step =
    λ k. record { goals = sym goals k; justification = replace_subs (λ i. numbers-are turns step.goals within i k) step.justification } in
    one ∙ sym (rotated-is turns step)

-- which is as deep as before
pub depth-turned : (turns : ℕ) (goals : List Goal) (justification : Justification) → turns < length goals
    → is_within_depth (splice justification (map portion_of (turning_steps turns goals))) ≡ is_within_depth justification
depth-turned turns goals justification within =
    (λ k. is_within_depth (replace_subs (λ i. numbers-are turns goals within i k) justification))
    ∙ ap (λ (n : ℕ). nat_le n JUSTIFICATION_DEPTH_LIMIT) (depth-renumbered (number_after (length goals) turns) justification)
