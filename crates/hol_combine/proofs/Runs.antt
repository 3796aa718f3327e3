-- Lemmas on runs of refiner expressions.
use Rattle.std.proofs.Common.{◌≡◌, ℕ, zero, suc, ◌+◌, ◌<◌, ◌≤◌, List, [], ◌∷◌, ◌++◌, length, drop, get_or, Bool, true, false, Some, None, Result, Ok, Err, Contains, inl, inr, refl, sym}
use Rattle.std.proofs.Common.{ap, ◌∙◌, arith, append_assoc, append-nil, add-one, ◌==◌, eqb-true}
use Rattle.std.specs.Prelude.{IfOk, IfErr}
use Rattle.std.proofs.lemmas.List.{nil_from_length, length-map}
use Rattle.std.proofs.lemmas.Bool.{eqb-false}
use Rattle.std.proofs.Math.Seq.{drop-cons}
use Rattle.hol_model.specs.declared.fault.Fault.{Fault}
use Rattle.hol_model.specs.declared.fault.Fault.TheVariants.{Memory, StepLimit, UnknownName, RefineFails}
use Rattle.hol_model.specs.Logic.Theory.{Theory}
use Rattle.hol_model.specs.Goals.Goals.{Goal}
use Rattle.hol_model.specs.Goals.ValidSteps.{Step}
use Rattle.hol_model.specs.Goals.Replays.{Store}
use Rattle.hol_model.specs.Refining.HostFunctions.{Host, AnswersAccept}
use Rattle.hol_model.specs.Refining.Conversions.{is_caught}
use Rattle.hol_model.specs.Refining.Refiners.{all_tac}
use Rattle.hol_model.specs.Refining.Combinators.{Tactic, Tactics, Link, Links, Stage, at, leaf, host_tac, orelse, try, no_more, more, no_link, link, then_each, one_more, assigned}
use Rattle.hol_model.specs.Refining.Combinators.{paired, with_step, Runs, RunsOn, RunsEach, no_step_is_left, host_is_unknown, host_fails, host_refines, first_answers}
use Rattle.hol_model.specs.Refining.Combinators.{first_is_not_caught, last_is_refused, first_is_caught, runs_as_defined, ends, lengths_differ, next_is_refused, splice_is_too_deep}
use Rattle.hol_model.specs.Refining.Combinators.{next_goes_on, goes_on_without_memory, none_is_left, one_is_refused, one_is_done, each_finds_no_memory, finds_no_memory}
use Rattle.hol_laws_refiners.proofs.Later.{later-same, runs-later, runs_each-later}
use Rattle.hol_tactic_exprs.specs.Expressions.{tactic_of, tactics_of, link_of, links_of}
use Rattle.hol_model.specs.Terms.NamedTerm.{NamedTerm}
use Rattle.hol_tactic_exprs.specs.declared.tac.Tac.{Tac}
use Rattle.hol_tactic_exprs.specs.declared.tac.Link as code
use Rattle.hol_just.specs.Steps.{goal_of, goals_of, step_of}
use Rattle.hol_just.specs.declared.goal.Goal as code_goal
use Rattle.hol_just.specs.declared.goal.Step as code_step
use Rattle.hol_combine.specs.Answers.{answer_of, AnswersSpliced, RunsLink, none_assigned, runs_assigned, RunsPaired, GoesOnAfter}

module _ (theory : Theory) (host : Host) where
  -- ---- a host's refiner

  pub host-starves : {store : Store} {steps left : ℕ} (name : List ℕ) (goal : Goal) → steps ≡ 0 → left ≡ 0 → Runs theory host (at store steps) (host_tac name) goal (Err StepLimit) (at store left)
  host-starves name goal none left_none = rw (none, left_none) (no_step_is_left refl)

  pub host-unknown : {store : Store} {steps left : ℕ} (name : List ℕ) (goal : Goal) → steps ≡ suc left → ¬ (Contains host.refiners name)
      → Runs theory host (at store steps) (host_tac name) goal (Err UnknownName) (at store left)
  host-unknown name goal spent lacks = rw spent (host_is_unknown lacks)

  pub host-fails : {store : Store} {steps left : ℕ} (name : List ℕ) (goal : Goal) → steps ≡ suc left → Contains host.refiners name → host.refines name goal None
      → Runs theory host (at store steps) (host_tac name) goal (Err RefineFails) (at store left)
  host-fails name goal spent there fails = rw spent (host_fails there fails)

  pub host-starved : {store : Store} {steps left : ℕ} (name : List ℕ) (goal : Goal) → steps ≡ suc left → Runs theory host (at store steps) (host_tac name) goal (Err Memory) (at store left)
  host-starved {store} {left} name goal spent =
      let falls : left ≤ suc left = omega arith in
      rw spent (finds_no_memory (record { steps = falls; named = refl; added = []; lemmas = sym (append-nil store.lemmas); proved = λ theorem member. absurd member }))

  -- the test takes the step, or refuses it
  pub host-refines : {store : Store} {steps left : ℕ} (name : List ℕ) (goal : Goal) (answered : Step) → steps ≡ suc left → Contains host.refiners name → host.refines name goal (Some answered)
      → AnswersAccept {A = Unit} theory store goal answered (Ok tt) → Runs theory host (at store steps) (host_tac name) goal (Ok answered) (at store left)
  host-refines name goal answered spent there says is = rw spent (host_refines {answer = Ok answered} answered there says (is, refl))

  pub host-rejected : {store : Store} {steps left : ℕ} (name : List ℕ) (goal : Goal) (answered : Step) (fault : Fault) → steps ≡ suc left → Contains host.refiners name
      → host.refines name goal (Some answered) → AnswersAccept {A = Unit} theory store goal answered (Err fault)
      → Runs theory host (at store steps) (host_tac name) goal (Err fault) (at store left)
  host-rejected name goal answered fault spent there says is = rw spent (host_refines answered there says is)

  -- the step is answered as it was, or there is no memory
  pub host-bounded : {store : Store} {steps left : ℕ} (name : List ℕ) (goal : Goal) (answered : Step) (result : Result code_step.Step Fault) → steps ≡ suc left → Contains host.refiners name
      → host.refines name goal (Some answered) → AnswersAccept {A = Unit} theory store goal answered (Ok tt) → IfOk result (λ made. step_of made ≡ answered)
      → IfErr result (λ fault. fault ≡ Memory) → Runs theory host (at store steps) (host_tac name) goal (answer_of result) (at store left)
  host-bounded name goal answered (Ok made) spent there says is same memory = rw same (host-refines name goal answered spent there says is)
  host-bounded name goal answered (Err fault) spent there says is same memory = rw memory (finds_no_memory (runs-later theory host (host-refines name goal answered spent there says is)))

  -- ---- t ORELSE ..

  pub alone : {before after : Stage} {t : Tactic} {goal : Goal} (answer : Result Step Fault) → Runs theory host before t goal answer after
      → Runs theory host before (orelse t no_more) goal answer after
  alone (Ok step) r = first_answers r
  alone (Err fault) r = last_is_refused r

  pub tries : {before after : Stage} {t : Tactic} {goal : Goal} {answer : Result Step Fault} → Runs theory host before (orelse t (one_more (leaf all_tac))) goal answer after
      → Runs theory host before (try t) goal answer after
  tries r = runs_as_defined refl r

  -- the ORELSE of all goes on as that of the refiners that are left does
  pub record OthersSoFar (first : Stage) (refused : Fault) (all : Tactics) (goal : Goal) (now : Stage) (fault : Fault) (left : Tactics) : Type 0 where
    pub decides : (answer : Result Step Fault) (after : Stage) → GoesOnAfter theory host now fault left goal answer after → GoesOnAfter theory host first refused all goal answer after

  pub others-next : {first now mid : Stage} {refused fault next : Fault} {all ts : Tactics} {u : Tactic} {goal : Goal} → OthersSoFar first refused all goal now fault (more u ts)
      → is_caught fault ≡ true → Runs theory host now u goal (Err next) mid → OthersSoFar first refused all goal mid next ts
  others-next {now} {u} so_far caught here = record {
    decides = λ answer after goes. so_far.decides answer after (record { answers = λ before t r. first_is_caught r caught (goes.answers now u here) });
  }

  pub others-answer : {first now after : Stage} {refused fault : Fault} {all ts : Tactics} {u : Tactic} {goal : Goal} {step : Step} → OthersSoFar first refused all goal now fault (more u ts)
      → is_caught fault ≡ true → Runs theory host now u goal (Ok step) after → GoesOnAfter theory host first refused all goal (Ok step) after
  others-answer so_far caught here = so_far.decides _ _ (record { answers = λ before t r. first_is_caught r caught (first_answers here) })

  pub others-stop : {first now : Stage} {refused fault : Fault} {all ts : Tactics} {goal : Goal} → OthersSoFar first refused all goal now fault ts → is_caught fault ≡ false
      → GoesOnAfter theory host first refused all goal (Err fault) now
  others-stop so_far passes = so_far.decides _ _ (record { answers = λ before t r. first_is_not_caught r passes })

  pub others-end : {first now : Stage} {refused fault : Fault} {all : Tactics} {goal : Goal} → OthersSoFar first refused all goal now fault no_more
      → GoesOnAfter theory host first refused all goal (Err fault) now
  others-end so_far = so_far.decides _ _ (record { answers = λ before t r. last_is_refused r })

  -- ---- one goal after another

  abbrev pub after_done : List Step → Result (List Step) Fault → Result (List Step) Fault
  after_done done (Ok steps) = Ok (done ++ steps)
  after_done done (Err fault) = Err fault

  pub record EachSoFar (first : Stage) (all : List (Tactic × Goal)) (now : Stage) (left : List (Tactic × Goal)) (done : List Step) : Type 0 where
    pub decides : (others : Result (List Step) Fault) (after : Stage) → RunsEach theory host now left others after → RunsEach theory host first all (after_done done others) after

  done-none : (others : Result (List Step) Fault) → after_done [] others ≡ others
  done-none (Ok steps) = refl
  done-none (Err fault) = refl

  done-more : (done : List Step) (step : Step) (others : Result (List Step) Fault) → after_done done (with_step step others) ≡ after_done (done ++ step ∷ []) others
  done-more done step (Ok steps) = ap (λ all. Ok all) (sym (append_assoc done (step ∷ []) steps))
  done-more done step (Err fault) = refl

  pub each-begun : {first : Stage} {all : List (Tactic × Goal)} → EachSoFar first all first all []
  each-begun = record { decides = λ others after r. rw (done-none others) r }

  pub each-next : {first now mid : Stage} {all left : List (Tactic × Goal)} {t : Tactic} {goal : Goal} {done : List Step} {step : Step} → EachSoFar first all now ((t, goal) ∷ left) done
      → Runs theory host now t goal (Ok step) mid → EachSoFar first all mid left (done ++ step ∷ [])
  each-next {done} {step} so_far here = record { decides = λ others after r. rw (← done-more done step others) (so_far.decides (with_step step others) after (one_is_done here r refl)) }

  pub each-stop : {first now after : Stage} {all left : List (Tactic × Goal)} {t : Tactic} {goal : Goal} {done : List Step} {fault : Fault} → EachSoFar first all now ((t, goal) ∷ left) done
      → Runs theory host now t goal (Err fault) after → RunsEach theory host first all (Err fault) after
  each-stop so_far here = so_far.decides _ _ (one_is_refused here)

  pub each-starved : {first now mid : Stage} {all left : List (Tactic × Goal)} {t : Tactic} {goal : Goal} {done : List Step} {step : Step} → EachSoFar first all now ((t, goal) ∷ left) done
      → Runs theory host now t goal (Ok step) mid → RunsEach theory host first all (Err Memory) mid
  each-starved so_far here = so_far.decides _ _ (one_is_done here (each_finds_no_memory (later-same theory _)) refl)

  pub each-end : {first now : Stage} {all : List (Tactic × Goal)} {done : List Step} → EachSoFar first all now [] done → RunsEach theory host first all (Ok done) now
  each-end {done} so_far = let r = so_far.decides (Ok []) _ none_is_left in rw (append-nil done) at r

  pub with-ok : (step : Step) (rest : Result (List Step) Fault) (done : List Step) → with_step step rest ≡ Ok done → (steps : List Step) × (rest ≡ Ok steps) × (done ≡ step ∷ steps)
  with-ok step (Ok steps) done is = (steps, refl, cc)
  with-ok step (Err fault) done is = cc

  behind-step : (step : Step) (steps done : List Step) (others : Result (List Step) Fault) → done ≡ step ∷ steps → after_done done others ≡ with_step step (after_done steps others)
  behind-step step steps done (Ok rest) is = ap (λ all. Ok (all ++ rest)) is
  behind-step step steps done (Err fault) is = refl

  -- some goals and then others
  pub then-each : {before mid after : Stage} {firsts lasts : List (Tactic × Goal)} {answer others : Result (List Step) Fault} (done : List Step) → RunsEach theory host before firsts answer mid
      → answer ≡ Ok done → RunsEach theory host mid lasts others after → RunsEach theory host before (firsts ++ lasts) (after_done done others) after
  then-each {others} done none_is_left is r = let none : [] ≡ done = cc in rw (← none, done-none others) r
  then-each done (one_is_refused here) is r = cc
  then-each {others} done (one_is_done {step} {others = rest} here each made) is r =
      let found = with-ok step rest done (sym made ∙ is) in
      one_is_done here (then-each found.0 each found.1 r) (behind-step step found.0 done others found.2)
  then-each done (each_finds_no_memory later) is r = cc

  -- the same for a refiner each: what pairs are left is told by what is left of both lists
  pub record PairedSoFar (first : Stage) (ts : Tactics) (goals : List Goal) (now : Stage) (ts_left : Tactics) (goals_left : List Goal) (done : List Step) : Type 0 where
    pub decides : (others : Result (List Step) Fault) (after : Stage) → RunsPaired theory host now ts_left goals_left others after
        → RunsPaired theory host first ts goals (after_done done others) after

  pub paired-next : {first now mid : Stage} {ts ts_left : Tactics} {goals goals_left : List Goal} {t : Tactic} {goal : Goal} {done : List Step} {step : Step}
      → PairedSoFar first ts goals now (more t ts_left) (goal ∷ goals_left) done → Runs theory host now t goal (Ok step) mid → PairedSoFar first ts goals mid ts_left goals_left (done ++ step ∷ [])
  paired-next {t} {goal} {done} {step} so_far here = record {
    decides = λ others after r. rw (← done-more done step others) (so_far.decides (with_step step others) after (record {
      tasks = (t, goal) ∷ r.tasks;
      pairs = rw r.pairs refl;
      runs = one_is_done here r.runs refl;
    }));
  }

  pub paired-stop : {first now after : Stage} {ts ts_left : Tactics} {goals goals_left : List Goal} {t : Tactic} {goal : Goal} {done : List Step} {fault : Fault} {rest : List (Tactic × Goal)}
      → PairedSoFar first ts goals now (more t ts_left) (goal ∷ goals_left) done → paired ts_left goals_left ≡ Some rest → Runs theory host now t goal (Err fault) after
      → RunsPaired theory host first ts goals (Err fault) after
  paired-stop {t} {goal} {rest} so_far pairs here = so_far.decides _ _ (record { tasks = (t, goal) ∷ rest; pairs = rw pairs refl; runs = one_is_refused here })

  pub paired-starved : {first now mid : Stage} {ts ts_left : Tactics} {goals goals_left : List Goal} {t : Tactic} {goal : Goal} {done : List Step} {step : Step} {rest : List (Tactic × Goal)}
      → PairedSoFar first ts goals now (more t ts_left) (goal ∷ goals_left) done → paired ts_left goals_left ≡ Some rest → Runs theory host now t goal (Ok step) mid
      → RunsPaired theory host first ts goals (Err Memory) mid
  paired-starved {t} {goal} {rest} so_far pairs here =
      so_far.decides _ _ (record { tasks = (t, goal) ∷ rest; pairs = rw pairs refl; runs = one_is_done here (each_finds_no_memory (later-same theory _)) refl })

  pub paired-end : {first now : Stage} {ts : Tactics} {goals : List Goal} {done : List Step} → PairedSoFar first ts goals now no_more [] done → RunsPaired theory host first ts goals (Ok done) now
  paired-end {done} so_far = let r = so_far.decides (Ok []) _ (record { tasks = []; pairs = refl; runs = none_is_left }) in rw (append-nil done) at r

  -- ---- one link after another

  pub record OnSoFar (first : Stage) (start : Step) (all : Links) (now : Stage) (step : Step) (left : Links) : Type 0 where
    pub decides : (answer : Result Step Fault) (after : Stage) → RunsOn theory host now step left answer after → RunsOn theory host first start all answer after

  on-linked : {now mid : Stage} {goals : List Goal} {step made : Step} {l : Link} {ls : Links} {steps : List Step} {answer : Result Step Fault} {after : Stage} → goals ≡ step.goals
      → RunsLink theory host now l goals (Ok steps) mid → AnswersSpliced step.justification steps (Ok made)
      → RunsOn theory host mid made ls answer after → RunsOn theory host now step (link l ls) answer after
  on-linked {ls} {answer} {after} same (runs_assigned is r) made rest =
      let rest = rw made.0 at rest in
      let fits = rw made.0 at made.1 in
      next_goes_on (rw same at is) r fits rest

  pub on-next : {first now mid : Stage} {start step made : Step} {all ls : Links} {l : Link} {steps : List Step} → OnSoFar first start all now step (link l ls)
      → RunsLink theory host now l step.goals (Ok steps) mid → AnswersSpliced step.justification steps (Ok made) → OnSoFar first start all mid made ls
  on-next so_far here made = record { decides = λ answer after r. so_far.decides answer after (on-linked refl here made r) }

  pub on-stop : {first now after : Stage} {start step : Step} {all ls : Links} {l : Link} {fault : Fault} → OnSoFar first start all now step (link l ls)
      → RunsLink theory host now l step.goals (Err fault) after → RunsOn theory host first start all (Err fault) after
  on-stop so_far (none_assigned is) = so_far.decides _ _ (lengths_differ is)
  on-stop so_far (runs_assigned is r) = so_far.decides _ _ (next_is_refused is r)

  pub on-unspliced : {first now after : Stage} {start step : Step} {all ls : Links} {l : Link} {steps : List Step} {fault : Fault} → OnSoFar first start all now step (link l ls)
      → RunsLink theory host now l step.goals (Ok steps) after → AnswersSpliced step.justification steps (Err fault) → RunsOn theory host first start all (Err fault) after
  on-unspliced so_far (runs_assigned is r) (inl memory) = rw memory (so_far.decides _ _ (goes_on_without_memory (runs_each-later theory host r)))
  on-unspliced so_far (runs_assigned is r) (inr deep) = rw deep.0 (so_far.decides _ _ (splice_is_too_deep is r deep.1))

  pub on-end : {first now : Stage} {start step : Step} {all : Links} → OnSoFar first start all now step no_link → RunsOn theory host first start all (Ok step) now
  on-end so_far = so_far.decides _ _ ends

-- ---- lists of the code

pub links-drop : (links : List (code.Link NamedTerm)) (i : ℕ) (l : code.Link NamedTerm) → i < length links → l ≡ get_or links i l
    → links_of (drop i links) ≡ link (link_of l) (links_of (drop (i + 1) links))
links-drop links i l within is = rw (add-one, drop-cons links i l within, ← is) refl

pub tactics-drop : (ts : List (Tac NamedTerm)) (i : ℕ) (t : Tac NamedTerm) → i < length ts → t ≡ get_or ts i t → tactics_of (drop i ts) ≡ more (tactic_of t) (tactics_of (drop (i + 1) ts))
tactics-drop ts i t within is = rw (add-one, drop-cons ts i t within, ← is) refl

pub goals-drop : (goals : List code_goal.Goal) (i : ℕ) (goal : code_goal.Goal) → i < length goals → goal ≡ get_or goals i goal
    → goals_of (drop i goals) ≡ goal_of goal ∷ goals_of (drop (i + 1) goals)
goals-drop goals i goal within is = rw (add-one, drop-cons goals i goal within, ← is) refl

-- a pair for each, where there are as many of one as of the other
pub pairs : (ts : List (Tac NamedTerm)) (goals : List Goal) → length ts ≡ length goals → (tasks : List (Tactic × Goal)) × (paired (tactics_of ts) goals ≡ Some tasks)
pairs [] [] same = ([], refl)
pairs [] (goal ∷ goals) same = absurd (omega (arith, same))
pairs (t ∷ ts) [] same = absurd (omega (arith, same))
pairs (t ∷ ts) (goal ∷ goals) same = let rest = pairs ts goals (omega (arith, same)) in ((tactic_of t, goal) ∷ rest.0, rw rest.1 refl)

-- ---- a list of refiners, one for each subgoal

pub no-goals : (goals : List code_goal.Goal) (b : Bool) → b ≡ (length goals == 0) → b ≡ true → goals ≡ []
no-goals goals b is e = nil_from_length goals (eqb-true (length goals) 0 (sym is ∙ e))

pub some-goals : (goals : List code_goal.Goal) (b : Bool) → b ≡ (length goals == 0) → b ≡ false → ¬ (goals ≡ [])
some-goals goals b is e none = eqb-false (length goals) 0 (sym is ∙ e) (ap length none)

unpaired : (ts : List (Tac NamedTerm)) (goals : List Goal) → ¬ (length ts ≡ length goals) → paired (tactics_of ts) goals ≡ None
unpaired [] [] differ = absurd (differ refl)
unpaired [] (goal ∷ goals) differ = refl
unpaired (t ∷ ts) [] differ = refl
unpaired (t ∷ ts) (goal ∷ goals) differ = rw (unpaired ts goals (λ same. differ (omega (arith, same)))) refl

pub none-assigned : (ts : List (Tac NamedTerm)) (goals : List code_goal.Goal) → ¬ (goals ≡ []) → ¬ (length ts ≡ length goals) → assigned (then_each (tactics_of ts)) (goals_of goals) ≡ None
none-assigned ts [] some differ = absurd (some refl)
none-assigned ts (goal ∷ goals) some differ = unpaired ts (goals_of (goal ∷ goals)) (λ same. let l = length-map goals goal_of in differ (omega (arith, same, l)))

pub each-assigned : {theory : Theory} {host : Host} {before after : Stage} (ts : Tactics) (goals : List code_goal.Goal) {answer : Result (List Step) Fault} → ¬ (goals ≡ [])
    → RunsPaired theory host before ts (goals_of goals) answer after → RunsLink theory host before (then_each ts) (goals_of goals) answer after
each-assigned ts [] some r = absurd (some refl)
each-assigned ts (goal ∷ goals) some r = runs_assigned r.pairs r.runs

-- so there is for what is left of both
pub pairs-left : (ts : List (Tac NamedTerm)) (goals : List code_goal.Goal) (k : ℕ) → length ts ≡ length goals
    → (tasks : List (Tactic × Goal)) × (paired (tactics_of (drop k ts)) (goals_of (drop k goals)) ≡ Some tasks)
pairs-left ts goals zero same = let l = length-map goals goal_of in pairs ts (goals_of goals) (omega (arith, same, l))
pairs-left [] [] (suc k) same = ([], refl)
pairs-left [] (goal ∷ goals) (suc k) same = absurd (omega (arith, same))
pairs-left (t ∷ ts) [] (suc k) same = absurd (omega (arith, same))
pairs-left (t ∷ ts) (goal ∷ goals) (suc k) same = pairs-left ts goals k (omega (arith, same))
