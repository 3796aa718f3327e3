-- Turning the goals as often as there are goals changes nothing.
use Rattle.std.proofs.Common.{◌≡◌, ℕ, zero, suc, ◌+◌, ◌-◌, ◌*◌, ◌/◌, ◌%◌, ◌≤◌, ◌<◌, Bool, true, false, List, [], ◌∷◌, ◌++◌, length, refl, sym, ◌∙◌, ap, arith}
use Rattle.std.proofs.Math.Nat.{suc-mul}
use Rattle.std.proofs.lemmas.Nat.{div-add-mod'}
use Rattle.std.specs.Prelude.{nat_lt, if◌then◌else◌}
use Rattle.std.proofs.lemmas.Bool.{ltb-true, ltb-false, lt-ltb, le-ltb}
use Rattle.hol_model.specs.Goals.Goals.{Goal}
use Rattle.hol_model.specs.Goals.Justifications.{Justification, sub, named, lemma, by_rule, Parts, no_parts, part}
use Rattle.hol_model.specs.Goals.ValidSteps.{Step}
use Rattle.hol_model.specs.Goals.Splicing.{replace_subs, replace_subs_in_parts}
use Rattle.hol_model.specs.Goals.GoalStates.{rotated_goals, rotated_number, rotated_once, rotated}

-- subgoals renumbered twice, or not at all

mutual
  pub renumbered-twice : (first second : ℕ → ℕ) (justification : Justification)
      → replace_subs (λ i. sub (second i)) (replace_subs (λ i. sub (first i)) justification) ≡ replace_subs (λ i. sub (second (first i))) justification
  renumbered-twice first second (sub i) = refl
  renumbered-twice first second (named name) = refl
  renumbered-twice first second (lemma k) = refl
  renumbered-twice first second (by_rule rule parts) = ap (by_rule rule) (renumbered-twice-in-parts first second parts)

  renumbered-twice-in-parts : (first second : ℕ → ℕ) (parts : Parts)
      → replace_subs_in_parts (λ i. sub (second i)) (replace_subs_in_parts (λ i. sub (first i)) parts) ≡ replace_subs_in_parts (λ i. sub (second (first i))) parts
  renumbered-twice-in-parts first second no_parts = refl
  renumbered-twice-in-parts first second (part one rest) = λ i. part (renumbered-twice first second one i) (renumbered-twice-in-parts first second rest i)

mutual
  pub same-numbers : (new : ℕ → Justification) → ((i : ℕ) → new i ≡ sub i) → (justification : Justification) → replace_subs new justification ≡ justification
  same-numbers new same (sub i) = same i
  same-numbers new same (named name) = refl
  same-numbers new same (lemma k) = refl
  same-numbers new same (by_rule rule parts) = ap (by_rule rule) (same-numbers-in-parts new same parts)

  same-numbers-in-parts : (new : ℕ → Justification) → ((i : ℕ) → new i ≡ sub i) → (parts : Parts) → replace_subs_in_parts new parts ≡ parts
  same-numbers-in-parts new same no_parts = refl
  same-numbers-in-parts new same (part one rest) = λ i. part (same-numbers new same one i) (same-numbers-in-parts new same rest i)

-- what so many turns make of the goals and of a number

abbrev pub goals_after : ℕ → List Goal → List Goal
goals_after zero goals = goals
goals_after (suc n) goals = goals_after n (rotated_goals goals)

abbrev pub number_after : ℕ → ℕ → ℕ → ℕ
number_after goals zero i = i
number_after goals (suc n) i = number_after goals n (rotated_number goals i)

length-behind : (goals : List Goal) (goal : Goal) → length (goals ++ goal ∷ []) ≡ suc (length goals)
length-behind [] goal = refl
length-behind (first ∷ goals) goal = ap suc (length-behind goals goal)

pub length-rotated : (goals : List Goal) → length (rotated_goals goals) ≡ length goals
length-rotated [] = refl
length-rotated (goal ∷ goals) = length-behind goals goal

abbrev pub turned : ℕ → Step → Step
turned n step = record { goals = goals_after n step.goals; justification = replace_subs (λ i. sub (number_after (length step.goals) n i)) step.justification }

pub rotated-is : (n : ℕ) (step : Step) → rotated n step ≡ turned n step
rotated-is zero step =
    let same = same-numbers (λ (i : ℕ). sub i) (λ i. refl) step.justification in
    λ i. record { goals = step.goals; justification = sym same i }
rotated-is (suc n) step =
    let once = rotated_once step in
    let next = λ (count i : ℕ). number_after count n i in
    let same : replace_subs (λ i. sub (next (length once.goals) i)) once.justification ≡ replace_subs (λ i. sub (next (length step.goals) (rotated_number (length step.goals) i))) step.justification =
    ap (λ (count : ℕ). replace_subs (λ i. sub (next count i)) once.justification) (length-rotated step.goals)
    ∙ renumbered-twice (rotated_number (length step.goals)) (next (length step.goals)) step.justification in
    rotated-is n once ∙ (λ i. record { goals = goals_after n (rotated_goals step.goals); justification = same i })

-- as many turns as there are goals

append-nil : (goals : List Goal) → goals ++ [] ≡ goals
append-nil [] = refl
append-nil (goal ∷ goals) = ap (λ rest. goal ∷ rest) (append-nil goals)

append-more : (goals : List Goal) (goal : Goal) (others : List Goal) → (goals ++ goal ∷ []) ++ others ≡ goals ++ goal ∷ others
append-more [] goal others = refl
append-more (first ∷ goals) goal others = ap (λ rest. first ∷ rest) (append-more goals goal others)

append-again : (all goals others : List Goal) → (all ++ goals) ++ others ≡ all ++ (goals ++ others)
append-again [] goals others = refl
append-again (first ∷ all) goals others = ap (λ rest. first ∷ rest) (append-again all goals others)

pub goals-turned : (first others : List Goal) → goals_after (length first) (first ++ others) ≡ others ++ first
goals-turned [] others = sym (append-nil others)
goals-turned (goal ∷ first) others =
    ap (goals_after (length first)) (append-again first others (goal ∷ [])) ∙ goals-turned first (others ++ goal ∷ []) ∙ append-more others goal first

pub goals-whole : (goals : List Goal) → goals_after (length goals) goals ≡ goals
goals-whole goals = ap (goals_after (length goals)) (sym (append-nil goals)) ∙ goals-turned goals []

-- the number of a subgoal moves down, and then to the end

pub moves-down : (goals i : ℕ) → suc i < goals → rotated_number goals (suc i) ≡ i
moves-down goals i within = ap (λ (test : Bool). if test then i else suc i) (lt-ltb (suc i) goals within)

pub stays : (goals i : ℕ) → goals ≤ suc i → rotated_number goals (suc i) ≡ suc i
stays goals i past = ap (λ (test : Bool). if test then i else suc i) (le-ltb (suc i) goals past)

pub past-goals : (goals n i : ℕ) → goals ≤ i → number_after goals n i ≡ i
past-goals goals zero i past = refl
past-goals goals (suc n) zero past =
    let none : goals - 1 ≡ 0 = omega (arith, past) in
    ap (number_after goals n) none ∙ past-goals goals n zero past
past-goals goals (suc n) (suc i) past = ap (number_after goals n) (stays goals i past) ∙ past-goals goals n (suc i) past

pub down : (goals n i : ℕ) → n + i < goals → number_after goals n (n + i) ≡ i
down goals zero i within = omega arith
down goals (suc n) i within =
    let next : suc n + i ≡ suc (n + i) = omega arith in
    let less : suc (n + i) < goals = omega (arith, within) in
    ap (number_after goals (suc n)) next ∙ ap (number_after goals n) (moves-down goals (n + i) less) ∙ down goals n i (omega (arith, within))

pub after-more : (goals m n i : ℕ) → number_after goals (m + n) i ≡ number_after goals n (number_after goals m i)
after-more goals zero n i =
    let none : 0 + n ≡ n = omega arith in
    ap (λ (k : ℕ). number_after goals k i) none
after-more goals (suc m) n i =
    let next : suc m + n ≡ suc (m + n) = omega arith in
    ap (λ (k : ℕ). number_after goals k i) next ∙ after-more goals m n (rotated_number goals i)

pub number-whole : (goals i : ℕ) → number_after goals goals i ≡ i
number-whole goals i = go (nat_lt i goals) refl
  where
    go : (within : Bool) → nat_lt i goals ≡ within → number_after goals goals i ≡ i
    go true is =
        let less : i < goals = ltb-true i goals is in
        let rest : ℕ = goals - suc i in
        let split : goals ≡ i + suc rest = omega (arith, less) in
        let itself : i ≡ i + 0 = omega arith in
        let at_front : number_after goals i i ≡ 0 = ap (number_after goals i) itself ∙ down goals i 0 (omega (arith, less)) in
        let sum : goals - 1 ≡ rest + i = omega (arith, less) in
        ap (λ (n : ℕ). number_after goals n i) split ∙ after-more goals i (suc rest) i ∙ ap (number_after goals (suc rest)) at_front
        ∙ ap (number_after goals rest) sum ∙ down goals rest i (omega (arith, less))
    go false is = past-goals goals goals i (ltb-false i goals is)

pub whole-turn : (step : Step) → rotated (length step.goals) step ≡ step
whole-turn step =
    let goals = goals-whole step.goals in
    let justification = same-numbers (λ (i : ℕ). sub (number_after (length step.goals) (length step.goals) i)) (λ i. ap sub (number-whole (length step.goals) i)) step.justification in
    rotated-is (length step.goals) step ∙ (λ i. record { goals = goals i; justification = justification i })

pub rotated-more : (m n : ℕ) (step : Step) → rotated (m + n) step ≡ rotated n (rotated m step)
rotated-more zero n step =
    let none : 0 + n ≡ n = omega arith in
    ap (λ (k : ℕ). rotated k step) none
rotated-more (suc m) n step =
    let next : suc m + n ≡ suc (m + n) = omega arith in
    ap (λ (k : ℕ). rotated k step) next ∙ rotated-more m n (rotated_once step)

pub whole-turns : (times n : ℕ) (step : Step) → rotated (times * length step.goals + n) step ≡ rotated n step
whole-turns zero n step =
    let none : 0 * length step.goals + n ≡ n = omega arith in
    ap (λ (k : ℕ). rotated k step) none
whole-turns (suc times) n step =
    let count : ℕ = length step.goals in
    let more : suc times * count ≡ times * count + count = suc-mul times count in
    let split : suc times * count + n ≡ count + (times * count + n) = ap (λ (k : ℕ). k + n) more ∙ omega arith in
    ap (λ (m : ℕ). rotated m step) split ∙ rotated-more count (times * count + n) step
    ∙ ap (rotated (times * count + n)) (whole-turn step) ∙ whole-turns times n step

pub rest-of-turns : (n : ℕ) (step : Step) → rotated n step ≡ rotated (n % length step.goals) step
rest-of-turns n step =
    ap (λ (k : ℕ). rotated k step) (sym (div-add-mod' n (length step.goals))) ∙ whole-turns (n / length step.goals) (n % length step.goals) step
