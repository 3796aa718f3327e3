-- The first open goal refined by an expression: what it may come to, and that the stack stays sound.
use Rattle.std.proofs.Common.{◌≡◌, ◌∙◌, ℕ, ◌⊎◌, inl, inr, List, [], ◌∷◌, refl, sym, ap, subst, true, false, Option, None, Some, Result, Ok, Err}
use Rattle.std.specs.Prelude.{IfOk}
use Rattle.hol_model.specs.declared.fault.Fault.{Fault}
use Rattle.hol_model.specs.declared.fault.Fault.TheVariants.{Memory, TooLarge, NoGoal, StepLimit, InvalidStep}
use Rattle.hol_model.specs.Terms.NamedTerm.{NamedTerm}
use Rattle.hol_model.specs.Logic.Theory.{Theory, IsLegal}
use Rattle.hol_model.proofs.Logic.Earlier.{earlier-same}
use Rattle.hol_model.specs.Kernel.Theorem.{Theorem}
use Rattle.hol_model.specs.Goals.Goals.{Goal}
use Rattle.hol_model.specs.Goals.Justifications.{Justification}
use Rattle.hol_model.specs.Goals.ValidSteps.{Step}
use Rattle.hol_model.specs.Goals.GoodSteps.{IsGoodStep}
use Rattle.hol_model.specs.Goals.Replays.{Store, sequents_in, has_room, IsReplay, IsKnownGoal, AreKnownGoals}
use Rattle.hol_model.specs.Kernel.Answers.{goes_on, stops}
use Rattle.hol_model.specs.Goals.GoalStates.{Stage, underway, proved, Proof, Focus, focus_outcome, stage_focus, step_focus, IsExpanded, Stack, changed_stack}
use Rattle.hol_model.specs.Goals.GoalStates as states
use Rattle.hol_model.specs.Goals.StackCalls.{Told, Expands, RefusesExpansion}
use Rattle.hol_model.specs.Goals.GoalLaws.{IsValidProof, IsValidIfAny, IsValidStack}
use Rattle.hol_model.specs.Refining.HostFunctions.{Host}
use Rattle.hol_model.specs.Refining.Combinators.{Tactic, at, Runs, IsLater}
use Rattle.hol_model.specs.Refining.Combinators as combinators
use Rattle.hol_model_sessions.specs.SessionTools.{over_lemmas, IsStackExpansion}
use Rattle.hol_laws_refiners.proofs.GoodSteps.{later-store}
use Rattle.hol_laws_refiners.proofs.StopsRunning.{refiners-spend}
use Rattle.hol_laws_goals.proofs.ValidProofs.{focus-sound, expand-valid, expand-refused, if_any-stays}
use Rattle.hol_goals.specs.Refinements.{goal_in_focus}
use Rattle.hol_model.specs.Refining.HostFunctions.{HostConversions}
use Rattle.hol_tactic_exprs.specs.Expressions.{tactic_of}
use Rattle.hol_tactic_exprs.specs.declared.tac.Tac.{Tac}
use Rattle.hol_just.specs.Steps.{step_of}
use Rattle.hol_just.specs.declared.goal.Step as code
use Rattle.hol_host.specs.Host.{HostRefiners, host_of}
use Rattle.hol_goals.specs.declared.expanding.Expansion.{Expansion}
use Rattle.hol_goals.specs.Expansions.{told_of, ExpandsBy, FailsBy, IsExpandedBy}
use Rattle.hol_goals.specs.Running.{RunsFirst, none_is_open, runs_on, RefinesFirst, IsGoodFirst, IsExpandedTo, ClosesIfValid}

-- ---- the goal in focus

-- the goal that is told is that of the focus
pub record IsInFocus (found : Result Focus Fault) (goal : Goal) : Type 0 where
  pub focus : Focus
  pub is : found ≡ Ok focus
  pub same : goal ≡ focus.goal

pub in_focus : (found : Result Focus Fault) (goal : Goal) → Ok goal ≡ goal_in_focus found → IsInFocus found goal
in_focus (Ok focus) goal told = record { focus = focus; is = refl; same = cc }
in_focus (Err fault) goal told = cc

pub no_focus : (found : Result Focus Fault) (fault : Fault) → Err fault ≡ goal_in_focus found → found ≡ Err fault
no_focus (Ok focus) fault told = cc
no_focus (Err other) fault told = cc

same_focus : (found : Result Focus Fault) (a b : Focus) → found ≡ Ok a → found ≡ Ok b → a ≡ b
same_focus found a b first second = (let same : ◌≡◌ {A = Result Focus Fault} (Ok a) (Ok b) = sym first ∙ second in cc)

pub runs-first : (theory : Theory) (host : Host) (before after : combinators.Stage) (tactic : Tactic) (found : Result Focus Fault) (goal : Goal) (answer : Result Step Fault)
    → Ok goal ≡ goal_in_focus found → Runs theory host before tactic goal answer after → RunsFirst theory host before tactic found answer after
runs-first theory host before after tactic found goal answer told runs =
    let here = in_focus found goal told in
    runs_on here.focus here.is (subst (λ (g : Goal). Runs theory host before tactic g answer after) here.same runs)

-- ---- what an expansion may come to

module _ (theory : Theory) (host : Host) (before : combinators.Stage) (tactic : Tactic) where
  abbrev May : Option Proof → Result states.Expansion Fault → Type 0
  May = IsStackExpansion theory host before tactic

  -- the store is the old one with its lemmas in place of those
  store-is : (after : combinators.Stage) → IsLater theory before after → after.store ≡ over_lemmas before.store after.store.lemmas
  store-is after later = ap (λ named. record { named = named; lemmas = after.store.lemmas }) later.named

  pub expands : (after : combinators.Stage) (step : Step) (old new : Stack) (told : Told) → IsLater theory before after
      → RunsFirst theory host before tactic (focus_outcome old.proof) (Ok step) after → ExpandsBy theory after.store step old new told
      → Expands (May old.proof) old new after.store.lemmas after.steps told
  expands after step old new told later (none_is_open fault is same) by = cc
  expands after step old new told later (runs_on focus is runs) by = record {
    proof = by.proof;
    reached =
        let one = same_focus (focus_outcome old.proof) by.focus focus by.found is in
        let store = store-is after later in
        goes_on focus (sym is)
        (goes_on (record { step = step; lemmas = after.store.lemmas; left = after.steps }) (subst (λ (s : Store). Runs theory host before tactic focus.goal (Ok step) (at s after.steps)) store runs)
        (goes_on by.proof
        (subst (λ (s : Store). IsExpanded theory (IsReplay theory s []) focus step (Ok by.proof)) store
        (subst (λ (f : Focus). IsExpanded theory (IsReplay theory after.store []) f step (Ok by.proof)) one by.expanded))
        refl));
    changed = by.changed;
    tells = by.tells;
  }

  no_goal_stops : (found : Option Proof) (left : ℕ) → focus_outcome found ≡ Err StepLimit → left ≡ 0
  no_goal_stops None left is = cc
  no_goal_stops (Some proof) left is = no_stage_stops proof proof.stage left is
    where
      no_step_stops : (proof : Proof) (step : Step) (goals : List Goal) (left : ℕ) → step_focus proof step goals ≡ Err StepLimit → left ≡ 0
      no_step_stops proof step [] left is = cc
      no_step_stops proof step (goal ∷ goals) left is = cc

      no_stage_stops : (proof : Proof) (stage : Stage) (left : ℕ) → stage_focus proof stage ≡ Err StepLimit → left ≡ 0
      no_stage_stops proof (underway step) left is = no_step_stops proof step step.goals left is
      no_stage_stops proof (proved theorem) left is = cc

  -- the expression is refused, or no goal is open
  pub refused-first : (after : combinators.Stage) (stack : Stack) (fault : Fault) → RunsFirst theory host before tactic (focus_outcome stack.proof) (Err fault) after
      → RefusesExpansion (May stack.proof) stack stack after.steps fault
  refused-first after stack fault (none_is_open other is same) =
      let one : fault ≡ other = cc in
      record {
        refused = inr (stops fault (sym (subst (λ (f : Fault). focus_outcome stack.proof ≡ Err f) (sym one) is)) refl);
        unchanged = refl;
        stops = λ limit. no_goal_stops stack.proof after.steps (is ∙ ap (λ (f : Fault). Err f) (sym one ∙ limit));
      }
  refused-first after stack fault (runs_on focus is runs) = record {
    refused = inr (goes_on focus (sym is) (stops fault (after, runs) refl));
    unchanged = refl;
    stops = λ limit. (refiners-spend host theory).stops before after tactic focus.goal (Err fault) runs (ap (λ (f : Fault). Err f) limit);
  }

  -- the refined proof is refused
  pub refused-by : (after : combinators.Stage) (step : Step) (old new : Stack) (fault : Fault) → IsLater theory before after
      → IsValidIfAny theory after.store old.proof → ((focus : Focus) → focus_outcome old.proof ≡ Ok focus → IsGoodStep theory after.store focus.goal step)
      → RunsFirst theory host before tactic (focus_outcome old.proof) (Ok step) after
      → (fault ≡ Memory) ⊎ ((focus_outcome old.proof ≡ Err fault) ⊎ FailsBy theory after.store step old fault) → new ≡ old
      → RefusesExpansion (May old.proof) old new after.steps fault
  refused-by after step old new fault later valid good (none_is_open other is same) by kept = cc
  refused-by after step old new fault later valid good (runs_on focus is runs) (inl memory) kept = record { refused = inl memory; unchanged = kept; stops = λ limit. cc }
  refused-by after step old new fault later valid good (runs_on focus is runs) (inr (inl none)) kept = cc
  refused-by after step old new fault later valid good (runs_on focus is runs) (inr (inr fails)) kept = record {
    refused = inr (
        let one = same_focus (focus_outcome old.proof) fails.focus focus fails.found is in
        let store = store-is after later in
        goes_on focus (sym is)
        (goes_on (record { step = step; lemmas = after.store.lemmas; left = after.steps }) (subst (λ (s : Store). Runs theory host before tactic focus.goal (Ok step) (at s after.steps)) store runs)
        (stops fault
        (subst (λ (s : Store). IsExpanded theory (IsReplay theory s []) focus step (Err fault)) store
        (subst (λ (f : Focus). IsExpanded theory (IsReplay theory after.store []) f step (Err fault)) one fails.fails))
        refl)));
    unchanged = kept;
    stops = λ limit. for_size
        (expand-refused theory after.store (has_room theory (sequents_in after.store) []) old.proof fails.focus step fault valid fails.found (good fails.focus fails.found) fails.fails) limit;
  }
    where
      for_size : {fault : Fault} {left : ℕ} → (fault ≡ Memory) ⊎ (fault ≡ TooLarge) → fault ≡ StepLimit → left ≡ 0
      for_size (inl memory) limit = cc
      for_size (inr large) limit = cc

  -- the replay of a whole proof finds no invalid step
  pub closes : (after : combinators.Stage) (step : Step) (old : Stack) (fault : Fault) → IsValidIfAny theory after.store old.proof
      → ((focus : Focus) → focus_outcome old.proof ≡ Ok focus → IsGoodStep theory after.store focus.goal step)
      → RunsFirst theory host before tactic (focus_outcome old.proof) (Ok step) after
      → (fault ≡ Memory) ⊎ ((focus_outcome old.proof ≡ Err fault) ⊎ FailsBy theory after.store step old fault) → fault ≡ InvalidStep → ⊥
  closes after step old fault valid good (none_is_open other is same) by invalid = cc
  closes after step old fault valid good (runs_on focus is runs) (inl memory) invalid = cc
  closes after step old fault valid good (runs_on focus is runs) (inr (inl none)) invalid = cc
  closes after step old fault valid good (runs_on focus is runs) (inr (inr fails)) invalid = for_room
      (expand-refused theory after.store (has_room theory (sequents_in after.store) []) old.proof fails.focus step fault valid fails.found (good fails.focus fails.found) fails.fails) invalid
    where
      for_room : {fault : Fault} → (fault ≡ Memory) ⊎ (fault ≡ TooLarge) → fault ≡ InvalidStep → ⊥
      for_room (inl memory) invalid = cc
      for_room (inr large) invalid = cc

-- ---- the stack stays sound

module _ (theory : Theory) where
  -- while lemmas are added
  pub stack-later : IsLegal theory → (before after : combinators.Stage) (stack : Stack) → IsLater theory before after → IsValidStack theory before.store stack → IsValidStack theory after.store stack
  stack-later legal before after stack later valid = record {
    proof = if_any-stays theory theory before.store after.store (earlier-same theory theory refl) legal (later-store theory before after later) stack.proof valid.proof;
    before = if_any-stays theory theory before.store after.store (earlier-same theory theory refl) legal (later-store theory before after later) stack.before valid.before;
  }

  -- and expanded by a valid step
  pub stack-expanded : (store : Store) (step : Step) (old new : Stack) (told : Told) → IsValidStack theory store old
      → ((focus : Focus) → focus_outcome old.proof ≡ Ok focus → IsGoodStep theory store focus.goal step)
      → ExpandsBy theory store step old new told → IsValidStack theory store new
  stack-expanded store step old new told valid good by =
      subst (IsValidStack theory store) (sym by.changed)
      (record {
        proof = expand-valid theory store (has_room theory (sequents_in store) []) old.proof by.focus step by.proof valid.proof by.found (good by.focus by.found) by.expanded;
        before = valid.proof;
      })

-- ---- values of the code

module _ (refiners : HostRefiners) (conversions : HostConversions) (theory : Theory) (before after : Store) (steps left : ℕ) (tac : Tac NamedTerm) where
  expanded-at : (step : code.Step) (old new : Stack) (result : Result Expansion Fault) → IsLegal theory → IsLater theory (at before steps) (at after left)
      → IsValidStack theory before old → IsGoodFirst theory after old step → RefinesFirst refiners conversions theory before steps tac old (Ok step) after left
      → IsExpandedBy theory after (step_of step) old new result → IsExpandedTo refiners conversions theory before steps tac old new result after left
  expanded-at step old new (Ok expansion) legal later valid good runs by =
      expands theory (host_of refiners conversions) (at before steps) (tactic_of tac) (at after left) (step_of step) old new (told_of expansion) later runs by
  expanded-at step old new (Err fault) legal later valid good runs by =
      refused-by theory (host_of refiners conversions) (at before steps) (tactic_of tac) (at after left) (step_of step) old new fault later
      (stack-later theory legal (at before steps) (at after left) old later valid).proof good runs by.0 by.1

  pub expanded-to : (now : Theory) (last : Store) (step : code.Step) (old new : Stack) (result : Result Expansion Fault) → now ≡ theory → last ≡ after → IsLegal theory
      → IsLater theory (at before steps) (at after left) → IsValidStack theory before old → IsGoodFirst theory after old step
      → RefinesFirst refiners conversions theory before steps tac old (Ok step) after left
      → IsExpandedBy now after (step_of step) old new result → IsExpandedTo refiners conversions theory before steps tac old new result last left
  expanded-to now last step old new result same kept legal later valid good runs by =
      subst (λ (s : Store). IsExpandedTo refiners conversions theory before steps tac old new result s left) (sym kept)
      (expanded-at step old new result legal later valid good runs (subst (λ (t : Theory). IsExpandedBy t after (step_of step) old new result) same by))

pub refused-itself : (refiners : HostRefiners) (conversions : HostConversions) (theory : Theory) (before after : Store) (steps left : ℕ) (tac : Tac NamedTerm) (old : Stack) (fault : Fault)
    → RefinesFirst refiners conversions theory before steps tac old (Err fault) after left → ClosesIfValid refiners conversions theory before steps tac old (Err fault) after left
refused-itself refiners conversions theory before after steps left tac old fault runs is =
    let one : fault ≡ InvalidStep = cc in
    subst (λ (f : Fault). RunsFirst theory (host_of refiners conversions) (at before steps) (tactic_of tac) (focus_outcome old.proof) (Err f) (at after left)) one runs

closes-at : (refiners : HostRefiners) (conversions : HostConversions) (theory : Theory) (before after : Store) (steps left : ℕ) (tac : Tac NamedTerm) (step : code.Step) (old new : Stack)
    (result : Result Expansion Fault) → IsValidStack theory after old → IsGoodFirst theory after old step → RefinesFirst refiners conversions theory before steps tac old (Ok step) after left
    → IsExpandedBy theory after (step_of step) old new result → result ≡ Err InvalidStep → ⊥
closes-at refiners conversions theory before after steps left tac step old new (Ok expansion) valid good runs by is = cc
closes-at refiners conversions theory before after steps left tac step old new (Err fault) valid good runs by is =
    closes theory (host_of refiners conversions) (at before steps) (tactic_of tac) (at after left) (step_of step) old fault valid.proof good runs by.0 cc

pub closes-if-valid : (refiners : HostRefiners) (conversions : HostConversions) (theory now : Theory) (before after last : Store) (steps left : ℕ)
    (tac : Tac NamedTerm) (step : code.Step) (old new : Stack)
    (result : Result Expansion Fault) → now ≡ theory → IsLegal theory → IsLater theory (at before steps) (at after left) → IsValidStack theory before old → IsGoodFirst theory after old step
    → RefinesFirst refiners conversions theory before steps tac old (Ok step) after left → IsExpandedBy now after (step_of step) old new result
    → ClosesIfValid refiners conversions theory before steps tac old result last left
closes-if-valid refiners conversions theory now before after last steps left tac step old new result same legal later valid good runs by is =
    absurd (closes-at refiners conversions theory before after steps left tac step old new result
    (stack-later theory legal (at before steps) (at after left) old later valid) good runs (subst (λ (t : Theory). IsExpandedBy t after (step_of step) old new result) same by) is)

valid-at : (theory : Theory) (store : Store) (step : code.Step) (old new : Stack) (result : Result Expansion Fault) → IsValidStack theory store old → IsGoodFirst theory store old step
    → IsExpandedBy theory store (step_of step) old new result → IsValidStack theory store new
valid-at theory store step old new (Ok expansion) valid good by = stack-expanded theory store (step_of step) old new (told_of expansion) valid good by
valid-at theory store step old new (Err fault) valid good by = subst (IsValidStack theory store) (sym by.1) valid

pub valid-after : (theory now : Theory) (before after last : Store) (steps left : ℕ) (step : code.Step) (old new : Stack) (result : Result Expansion Fault) → now ≡ theory → last ≡ after
    → IsLegal theory → IsLater theory (at before steps) (at after left) → IsValidStack theory before old → IsGoodFirst theory after old step
    → IsExpandedBy now after (step_of step) old new result → IsValidStack theory last new
valid-after theory now before after last steps left step old new result same kept legal later valid good by =
    subst (λ (s : Store). IsValidStack theory s new) (sym kept)
    (valid-at theory after step old new result (stack-later theory legal (at before steps) (at after left) old later valid) good
    (subst (λ (t : Theory). IsExpandedBy t after (step_of step) old new result) same by))
