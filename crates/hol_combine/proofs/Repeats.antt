-- Lemmas on REPEAT: a stack of steps whose subgoals are being refined.
use Rattle.std.proofs.Common.{◌≡◌, ℕ, zero, suc, ◌+◌, ◌*◌, ◌<◌, ◌≤◌, List, [], ◌∷◌, ◌++◌, length, map, true, false, Option, Some, None, Result, Ok, Err, inl, inr, refl, sym, ap, ◌∙◌, subst, arith}
use Rattle.std.proofs.Common.{append-nil, append_assoc}
use Rattle.std.proofs.lemmas.Bool.{leb-false, lt-leb}
use Rattle.std.proofs.lemmas.List.{map-append, length-map}
use Rattle.hol_model.specs.declared.fault.Fault.{Fault}
use Rattle.hol_model.specs.declared.fault.Fault.TheVariants.{Memory, TooLarge}
use Rattle.hol_model.specs.declared.limits.TheConstants.{JUSTIFICATION_DEPTH_LIMIT}
use Rattle.hol_model.specs.Logic.Theory.{Theory}
use Rattle.hol_model.specs.Goals.Goals.{Goal}
use Rattle.hol_model.specs.Goals.Justifications.{Justification}
use Rattle.hol_model.specs.Goals.ValidSteps.{Step}
use Rattle.hol_model.specs.Goals.Splicing.{Portion, splice, spliced, portion_of}
use Rattle.hol_model.specs.Goals.Replays.{depth, is_within_depth}
use Rattle.hol_model.specs.Refining.HostFunctions.{Host}
use Rattle.hol_model.specs.Refining.Conversions.{is_caught}
use Rattle.hol_model.specs.Refining.Refiners.{all_tac}
use Rattle.hol_model.specs.Refining.Combinators.{Tactic, Stage, leaf, repeat, on_all, left_open, Runs, RunsEach, RepeatsSoFar, first_is_refused, first_goes_on, first_answers, first_is_not_caught}
use Rattle.hol_model.specs.Refining.Combinators.{first_is_caught, repeat_is_too_deep, runs_as_defined, ends, next_is_refused, splice_is_too_deep, next_goes_on, goes_on_without_memory}
use Rattle.hol_model.specs.Refining.Combinators.{none_is_left, one_is_refused, one_is_done, each_finds_no_memory, has_run, goes_down}
use Rattle.hol_laws_refiners.proofs.Later.{later-same, runs_each-later}
use Rattle.hol_just.specs.SubgoalDepths.{subgoal_depth}
use Rattle.hol_just.proofs.SplicedDepths.{StandsWithin, spliced-stands}
use Rattle.hol_combine.specs.Answers.{AnswersSpliced}
use Rattle.hol_combine.specs.Repeating.{Frame, begun, with_done, with_goal, capped_sum, above_subgoal, next_above, above_on, has_room, LacksRoom}
use Rattle.hol_combine.proofs.Runs.{with-ok, then-each, alone}

splice-passes : (justification : Justification) (steps : List Step) (fault : Fault) → AnswersSpliced justification steps (Err fault) → is_caught fault ≡ false
splice-passes justification steps fault (inl memory) = rw memory refl
splice-passes justification steps fault (inr deep) = rw deep.0 refl

-- a step spent pays for a frame more
pub spent-on-frame : {old new rest : List Frame} {frame next other : Frame} (before after : ℕ) → old ≡ other ∷ rest → new ≡ next ∷ frame ∷ rest → after < before
    → 2 * after + length new < 2 * before + length old
spent-on-frame before after was is less = rw (was, is) (omega (arith, less))

pub spent-on-step : {old new rest : List Frame} {frame next : Frame} (before after : ℕ) → old ≡ frame ∷ rest → new ≡ next ∷ rest → after < before → 2 * after + length new < 2 * before + length old
spent-on-step before after was is less = rw (was, is) (omega (arith, less))

-- a frame of which no goal is left stays as it was
pub none-left : {new old : Frame} → new ≡ old → old.left ≡ [] → new.left ≡ []
none-left is none = ap (λ (frame : Frame). frame.left) is ∙ none

-- ---- levels

-- so many levels above these are not more than the limit
abbrev pub AreLevels : Option ℕ → ℕ → ℕ → Type 0
AreLevels None levels limit = Unit {0}
AreLevels (Some above) levels limit = above + levels ≤ limit

-- the levels above a subgoal and those of what refines it
levels-below : (above : Option ℕ) (found levels deep limit : ℕ) → AreLevels above deep limit → StandsWithin found levels deep → AreLevels (above_subgoal above found) levels limit
levels-below None found levels deep limit h stands = tt
levels-below (Some above) zero levels deep limit h stands = tt
levels-below (Some above) (suc found) levels deep limit h stands = omega (arith, h, stands)

levels-start : (levels : ℕ) → AreLevels (Some 0) levels levels
levels-start levels = omega arith

too-many : (above : Option ℕ) (levels : ℕ) (whole : Justification) → has_room above levels ≡ false → AreLevels above levels (depth whole) → is_within_depth whole ≡ false
too-many None levels whole lacks h = cc
too-many (Some above) levels whole lacks h = let past = leb-false (above + levels) JUSTIFICATION_DEPTH_LIMIT lacks in lt-leb (depth whole) JUSTIFICATION_DEPTH_LIMIT (omega (arith, past, h))

module _ (theory : Theory) (host : Host) (t : Tactic) where
  -- t THEN REPEAT t, and then REPEAT t

  pub repeats-refused : {before mid after : Stage} {goal : Goal} {step : Step} {fault : Fault} → Runs theory host before t goal (Ok step) mid
      → RunsEach theory host mid (on_all (repeat t) step.goals) (Err fault) after → is_caught fault ≡ false → Runs theory host before (repeat t) goal (Err fault) after
  repeats-refused r each passes = runs_as_defined refl (first_is_not_caught (first_goes_on r (next_is_refused refl each)) passes)

  pub repeats-answers : {before mid after : Stage} {goal : Goal} {step made : Step} {steps : List Step} → Runs theory host before t goal (Ok step) mid
      → RunsEach theory host mid (on_all (repeat t) step.goals) (Ok steps) after → AnswersSpliced step.justification steps (Ok made) → Runs theory host before (repeat t) goal (Ok made) after
  repeats-answers {after} {step} {made} {steps} r each is =
      let fits = rw is.0 at is.1 in
      rw is.0 (runs_as_defined refl (first_answers (first_goes_on r (next_goes_on refl each fits ends))))

  pub repeats-unspliced : {before mid after : Stage} {goal : Goal} {step : Step} {steps : List Step} {fault : Fault} → Runs theory host before t goal (Ok step) mid
      → RunsEach theory host mid (on_all (repeat t) step.goals) (Ok steps) after → AnswersSpliced step.justification steps (Err fault) → Runs theory host before (repeat t) goal (Err fault) after
  repeats-unspliced r each (inl memory) = rw memory (runs_as_defined refl (first_is_not_caught (first_goes_on r (goes_on_without_memory (runs_each-later theory host each))) refl))
  repeats-unspliced r each (inr deep) = rw deep.0 (runs_as_defined refl (first_is_not_caught (first_goes_on r (splice_is_too_deep refl each deep.1)) refl))

  -- where t is refused, the goal stays
  pub repeats-stays : {before mid after : Stage} {goal : Goal} {fault : Fault} (answer : Result Step Fault) → Runs theory host before t goal (Err fault) mid → is_caught fault ≡ true
      → Runs theory host mid (leaf all_tac) goal answer after → Runs theory host before (repeat t) goal answer after
  repeats-stays answer r caught stays = runs_as_defined refl (first_is_caught (first_is_refused r) caught (alone theory host answer stays))

  pub repeats-passed : {before after : Stage} {goal : Goal} {fault : Fault} → Runs theory host before t goal (Err fault) after → is_caught fault ≡ false
      → Runs theory host before (repeat t) goal (Err fault) after
  repeats-passed r passes = runs_as_defined refl (first_is_not_caught (first_is_refused r) passes)

  -- ---- the goals of a step: some of them, and then others

  on-both : (goals firsts lasts : List Goal) → goals ≡ firsts ++ lasts → on_all (repeat t) firsts ++ on_all (repeat t) lasts ≡ on_all (repeat t) goals
  on-both goals firsts lasts is = sym (map-append (λ goal. (repeat t, goal)) firsts lasts) ∙ ap (on_all (repeat t)) (sym is)

  each-refused : {mid now after : Stage} {goals : List Goal} {done : List Step} {fault : Fault} (firsts lasts : List Goal) → goals ≡ firsts ++ lasts
      → RunsEach theory host mid (on_all (repeat t) firsts) (Ok done) now
      → RunsEach theory host now (on_all (repeat t) lasts) (Err fault) after → RunsEach theory host mid (on_all (repeat t) goals) (Err fault) after
  each-refused {mid} {after} {goals} {done} {fault} firsts lasts is each r =
      subst (λ tasks. RunsEach theory host mid tasks (Err fault) after) (on-both goals firsts lasts is) (then-each theory host done each refl r)

  each-closed : {mid now : Stage} {goals lasts : List Goal} {done : List Step} (firsts : List Goal) → goals ≡ firsts ++ lasts → lasts ≡ []
      → RunsEach theory host mid (on_all (repeat t) firsts) (Ok done) now
      → RunsEach theory host mid (on_all (repeat t) goals) (Ok done) now
  each-closed {mid} {now} {goals} {done} firsts is none each =
      let same : firsts ≡ goals = sym (append-nil firsts) ∙ ap (λ rest. firsts ++ rest) (sym none) ∙ sym is in
      subst (λ all. RunsEach theory host mid (on_all (repeat t) all) (Ok done) now) same each

  each-more : {mid now after : Stage} {goal : Goal} {done : List Step} {step : Step} (firsts : List Goal) → RunsEach theory host mid (on_all (repeat t) firsts) (Ok done) now
      → Runs theory host now (repeat t) goal (Ok step) after → RunsEach theory host mid (on_all (repeat t) (firsts ++ goal ∷ [])) (Ok (done ++ step ∷ [])) after
  each-more {mid} {after} {goal} {done} {step} firsts each r =
      subst (λ tasks. RunsEach theory host mid tasks (Ok (done ++ step ∷ [])) after) (on-both (firsts ++ goal ∷ []) firsts (goal ∷ []) refl)
      (then-each theory host done each refl (one_is_done r none_is_left refl))

  each-counted : {before after : Stage} {tasks : List (Tactic × Goal)} {answer : Result (List Step) Fault} (done : List Step) → RunsEach theory host before tasks answer after → answer ≡ Ok done
      → length done ≡ length tasks
  each-counted done none_is_left is = let none : [] ≡ done = cc in rw (← none) refl
  each-counted done (one_is_refused here) is = cc
  each-counted done (one_is_done {step} {others} here each made) is =
      let found = with-ok theory host step others done (sym made ∙ is) in
      ap length found.2 ∙ ap suc (each-counted found.0 each found.1)
  each-counted done (each_finds_no_memory later) is = cc

  -- the levels of what refines the next goal, where what was made so far stands for the others
  stands-next : (justification : Justification) (done : List Step) (further : Step) (left : List Goal)
      → StandsWithin (subgoal_depth (length done) justification) (depth further.justification) (depth (splice justification (map portion_of (done ++ further ∷ map left_open left))))
  stands-next justification done further left =
      let stands = spliced-stands justification (map portion_of done) (map portion_of (map left_open left)) (portion_of further) in
      rw (length-map done portion_of, ← map-append portion_of done (further ∷ map left_open left)) at stands

  -- ---- the stack

  module _ (first : Stage) (start : Goal) where
    mutual
      -- from this stage REPEAT t is to run on the goal, which was taken from those of the frame on top
      pub data Waits : List Frame → Stage → Goal → Type 0 where
        at_bottom : Waits [] first start
        on_frame : {frame : Frame} {frames : List Frame} {now : Stage} {goal : Goal} → Opened (with_goal goal frame ∷ frames) now → Waits (frame ∷ frames) now goal

      -- t has refined a goal to a step with the justification of the frame on top, whose first subgoals are done
      pub data Opened : List Frame → Stage → Type 0 where
        opened : {frame : Frame} {frames : List Frame} {before mid now : Stage} {goal : Goal} {step : Step} (firsts : List Goal) → Runs theory host before t goal (Ok step) mid
            → step.justification ≡ frame.justification → step.goals ≡ firsts ++ frame.left → RunsEach theory host mid (on_all (repeat t) firsts) (Ok frame.done) now
            → frame.above ≡ above_on frames → Waits frames before goal → Opened (frame ∷ frames) now

    -- a step for the goal that waits
    abbrev pub Resumed : List Frame → Step → Stage → Type 0
    Resumed [] step now = Runs theory host first (repeat t) start (Ok step) now
    Resumed (frame ∷ frames) step now = Opened (with_done frame step ∷ frames) now

    pub refuses : {frames : List Frame} {now after : Stage} {goal : Goal} {fault : Fault} → Waits frames now goal → Runs theory host now (repeat t) goal (Err fault) after
        → is_caught fault ≡ false → Runs theory host first (repeat t) start (Err fault) after
    refuses at_bottom r passes = r
    refuses {goal} (on_frame {frame} (opened firsts here same goals each above below)) r passes =
        refuses below (repeats-refused here (each-refused firsts (goal ∷ frame.left) goals each (one_is_refused r)) passes) passes

    pub resumes : {frames : List Frame} {now after : Stage} {goal : Goal} {step : Step} → Waits frames now goal → Runs theory host now (repeat t) goal (Ok step) after → Resumed frames step after
    resumes at_bottom r = r
    resumes {goal} (on_frame {frame} (opened firsts here same goals each above below)) r =
        opened (firsts ++ goal ∷ []) here same (goals ∙ sym (append_assoc firsts (goal ∷ []) frame.left)) (each-more firsts each r) above below

    pub starved : {frames : List Frame} {now : Stage} → Opened frames now → Runs theory host first (repeat t) start (Err Memory) now
    starved (opened {frame} firsts here same goals each above below) =
        refuses below (repeats-refused here (each-refused firsts frame.left goals each (each_finds_no_memory (later-same theory _))) refl) refl

    pub begins : {frames : List Frame} {now mid : Stage} {goal : Goal} {step : Step} → Waits frames now goal → Runs theory host now t goal (Ok step) mid
        → Opened (begun (above_on frames) step ∷ frames) mid
    begins waits r = opened [] r refl refl none_is_left refl waits

    pub closes : {frame : Frame} {frames : List Frame} {now : Stage} {made : Step} → Opened (frame ∷ frames) now → frame.left ≡ []
        → AnswersSpliced frame.justification frame.done (Ok made) → Resumed frames made now
    closes {frame} {made} (opened firsts here same goals each above below) none is =
        resumes below (repeats-answers here (each-closed firsts goals none each) (subst (λ j. AnswersSpliced j frame.done (Ok made)) (sym same) is))

    pub unspliced : {frame : Frame} {frames : List Frame} {now : Stage} {fault : Fault} → Opened (frame ∷ frames) now → frame.left ≡ []
        → AnswersSpliced frame.justification frame.done (Err fault) → Runs theory host first (repeat t) start (Err fault) now
    unspliced {frame} {fault} (opened firsts here same goals each above below) none is =
        refuses below (repeats-unspliced here (each-closed firsts goals none each) (subst (λ j. AnswersSpliced j frame.done (Err fault)) (sym same) is))
        (splice-passes frame.justification frame.done fault is)

    -- ---- on the way down

    -- REPEAT has come so far from the start, and what it made of the goal that waits stands so many levels below
    pub record Reached (above : Option ℕ) (further : Step) (after : Stage) : Type 0 where
      pub whole : Step
      pub so_far : RepeatsSoFar theory host first t start whole after
      pub levels : AreLevels above (depth further.justification) (depth whole.justification)

    reaches : {frames : List Frame} {now after : Stage} {goal : Goal} (further : Step) → Waits frames now goal → RepeatsSoFar theory host now t goal further after
        → Reached (above_on frames) further after
    reaches further at_bottom s = record { whole = further; so_far = s; levels = levels-start (depth further.justification) }
    reaches {after} further (on_frame {frame} {frames} (opened {step} firsts here same goals each above below)) s =
        let steps = frame.done ++ further ∷ map left_open frame.left in
        let found = reaches (spliced step steps) below (goes_down firsts frame.left here goals each s) in
        let deep = depth (splice step.justification (map portion_of steps)) in
        let levels = subst (λ a. AreLevels a deep (depth found.whole.justification)) (sym above) found.levels in
        let stands = subst (λ j. StandsWithin (subgoal_depth (length frame.done) j) (depth further.justification) deep) same (stands-next step.justification frame.done further frame.left) in
        record {
          whole = found.whole;
          so_far = found.so_far;
          levels = levels-below frame.above (subgoal_depth (length frame.done) frame.justification) (depth further.justification) deep (depth found.whole.justification) levels stands;
        }

    -- a frame for the step is refused
    pub unbegun : {frames : List Frame} {now mid : Stage} {goal : Goal} {step : Step} {fault : Fault} → Waits frames now goal → Runs theory host now t goal (Ok step) mid
        → LacksRoom (above_on frames) step fault → Runs theory host first (repeat t) start (Err fault) mid
    unbegun waits r (inl memory) = rw memory (starved (begins waits r))
    unbegun {frames} {step} waits r (inr lacks) =
        let found = reaches step waits (has_run r) in
        rw lacks.0 (repeat_is_too_deep found.so_far (too-many (above_on frames) (depth step.justification) found.whole.justification lacks.1 found.levels))
