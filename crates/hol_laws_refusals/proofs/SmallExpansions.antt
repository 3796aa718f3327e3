-- A command on goals that meets what is small alone is not refused for a limit.
use Rattle.std.proofs.Common.{◌≡◌, ℕ, List, [], ◌∷◌, Bool, true, false, refl, sym, subst, inl, inr, Option, Some, None, Result, Ok, Err}
use Rattle.hol_model.specs.declared.fault.Fault.{Fault}
use Rattle.hol_model.specs.declared.fault.Fault.TheVariants.{TooLarge, NotBool, NotEquation, NotAlpha, InvalidStep}
use Rattle.hol_model.specs.Terms.NamedTerm.{NamedTerm, equation, is_within_limits}
use Rattle.hol_model.specs.Terms.Nameless.{image}
use Rattle.hol_model.specs.Logic.Theory.{Theory}
use Rattle.hol_model.specs.Kernel.Outcome.{unless}
use Rattle.hol_model.specs.Kernel.Answers.{goes_on, stops}
use Rattle.hol_model.specs.Kernel.Theorem.{Theorem, are_alpha_equivalent}
use Rattle.hol_model.specs.Kernel.Rules.{dest_equation, first_unknown, is_formula, refl_outcome, eq_mp_outcome}
use Rattle.hol_model.specs.Texts.Reading.{◌>>=◌}
use Rattle.hol_model.specs.Rewrites.SmallTerms.{is_small}
use Rattle.hol_model.specs.Goals.Goals.{Goal, Sequent}
use Rattle.hol_model.specs.Goals.Justifications.{sequent_of}
use Rattle.hol_model.specs.Goals.ValidSteps.{Step}
use Rattle.hol_model.specs.Goals.Achieving.{achieves}
use Rattle.hol_model.specs.Goals.Replays.{Store, IsStoreOver, AnswersReplay, IsReplay, sequents_in, has_room, is_within_depth}
use Rattle.hol_model.specs.Goals.GoalStates.{Stage, underway, proved, Proof, Focus, Expansion, begun, goal_of, restored, rotated_stage, stage_theorem, step_focus, stage_focus, focus_outcome, expanded}
use Rattle.hol_model.specs.Goals.GoalStates.{set_outcome, back_outcome, rotate_outcome, top_outcome, closing_outcome, IsStageOf, IsExpanded}
use Rattle.hol_model.specs.Refining.HostFunctions.{Host}
use Rattle.hol_model.specs.Refining.Combinators as combinators
use Rattle.hol_model.specs.Refining.RefinerConditions.{HasLogic}
use Rattle.hol_model_sessions.specs.SessionTools.{over_lemmas, IsStackExpansion}
use Rattle.hol_laws_refusals.specs.KnownRules.{TacticHasKnownRules}
use Rattle.hol_laws_refusals.specs.SmallGoals.{EndsSmall, ExpandsSmall}
use Rattle.hol_laws_refusals.specs.SmallLaws.{SmallGoalsFit}
use Rattle.hol_laws_refusals.proofs.SmallLimits.{small-low, low-modest, equation-fits}
use Rattle.hol_laws_refusals.proofs.SmallAnswers.{IsNoLimit, Fits, IsGood, is-no-limit, no-limit-unknown, refl-good}
use Rattle.hol_laws_refusals.proofs.SmallRefinements.{fits-given, fits-test, fits-refused, want-fits, runs-fit}

fits-as : {A : Type 0} (answer other : Result A Fault) → answer ≡ other → Fits other → Fits answer
fits-as {A = A} answer other is fits = subst (λ (a : Result A Fault). Fits a) (sym is) fits

-- an answer that fits is no refusal for a limit
refuted : {A : Type 0} (answer : Result A Fault) → Fits answer → answer ≡ Err TooLarge → ⊥
refuted {A = A} answer fits is = subst (λ (a : Result A Fault). Fits a) is fits

-- ---- changes that refine no goal

set-fits : (theory : Theory) (term : NamedTerm) → is_small (image term) ≡ true → Fits (set_outcome theory term)
set-fits theory term small =
    let modest = low-modest term (small-low term small) in
    let within : is_within_limits (equation term term) ≡ true = equation-fits term term modest modest in
    let last : Fits (unless (is_within_limits (equation term term)) TooLarge (Ok (begun (goal_of term)))) =
    subst (λ (test : Bool). Fits {A = Proof} (unless test TooLarge (Ok (begun (goal_of term))))) (sym within) tt in
    fits-test (is_formula term) NotBool _ tt (λ formula. fits-refused (first_unknown theory term) _ (no-limit-unknown theory term) last)

back-fits : (found : Option Proof) → Fits (back_outcome found)
back-fits None = tt
back-fits (Some proof) = go proof.kept
  where
    go : (kept : List Stage) → Fits (restored proof.goal kept)
    go [] = tt
    go (stage ∷ kept) = tt

rotate-fits : (found : Option Proof) (n : ℕ) → Fits (rotate_outcome found n)
rotate-fits None n = tt
rotate-fits (Some proof) n = go proof.stage
  where
    go : (stage : Stage) → Fits (rotated_stage proof stage n)
    go (underway step) = tt
    go (proved theorem) = tt

top-fits : (found : Option Proof) → Fits (top_outcome found)
top-fits None = tt
top-fits (Some proof) = go proof.stage
  where
    go : (stage : Stage) → Fits (stage_theorem stage)
    go (underway step) = tt
    go (proved theorem) = tt

focus-fits : (found : Option Proof) → Fits (focus_outcome found)
focus-fits None = tt
focus-fits (Some proof) = of-stage proof.stage
  where
    of-goals : (step : Step) (goals : List Goal) → Fits (step_focus proof step goals)
    of-goals step [] = tt
    of-goals step (goal ∷ goals) = tt

    of-stage : (stage : Stage) → Fits (stage_focus proof stage)
    of-stage (underway step) = of-goals step step.goals
    of-stage (proved theorem) = tt

-- ---- the end of a refinement

module _ (theory : Theory) where
  eq_mp-fits : (first second : Theorem) → Fits (eq_mp_outcome theory first second)
  eq_mp-fits first second =
      fits-given (dest_equation first.conclusion) NotEquation _ tt (λ sides is. fits-test (are_alpha_equivalent sides.0 second.conclusion) NotAlpha _ tt (λ same. tt))

  closing-fits : (goal : Goal) (theorem : Theorem) → is_small (image goal.target) ≡ true → Fits (closing_outcome theory goal theorem)
  closing-fits goal theorem small = fits-test (achieves goal theorem) InvalidStep _ tt (λ achieved. go (refl_outcome theory goal.target) (refl-good theory goal.target small))
    where
      go : (same : Result Theorem Fault) → IsGood same → Fits (same >>= λ first. eq_mp_outcome theory first theorem)
      go (Ok first) good = eq_mp-fits first theorem
      go (Err fault) none = none

  replay-fits : (room : Bool) (sequent : Option Sequent) (fault : Fault) → room ≡ true → AnswersReplay room sequent (Err fault) → IsNoLimit fault
  replay-fits room (Some sequent) fault there wanted = want-fits fault room there wanted
  replay-fits room None fault there (inl is) = is-no-limit fault InvalidStep is tt
  replay-fits room None fault there (inr wanted) = want-fits fault room there wanted

  closed-fits : (closed : Result Theorem Fault) → Fits closed → Fits {A = Stage} (closed >>= λ theorem. Ok (proved theorem))
  closed-fits (Ok theorem) fits = tt
  closed-fits (Err fault) none = none

  stage-fits : (store : Store) (goal : Goal) (step : Step) (deep : Bool) (goals : List Goal) (answer : Result Stage Fault) → is_small (image goal.target) ≡ true → deep ≡ true
      → (goals ≡ [] → has_room theory (sequents_in store) [] step.justification ≡ true) → IsStageOf theory (IsReplay theory store []) goal step deep goals answer → Fits answer
  stage-fits store goal step false goals answer small depth room is = cc
  stage-fits store goal step true (first ∷ others) answer small depth room is = fits-as answer (Ok (underway step)) is tt
  stage-fits store goal step true [] answer small depth room (stops fault refuses is) =
      fits-as answer (Err fault) is (replay-fits (has_room theory (sequents_in store) [] step.justification) (sequent_of theory (sequents_in store) [] step.justification) fault (room refl) refuses)
  stage-fits store goal step true [] answer small depth room (goes_on theorem made is) =
      fits-as answer _ is (closed-fits (closing_outcome theory goal theorem) (closing-fits goal theorem small))

  expanded-fits : (store : Store) (focus : Focus) (refinement : Step) (answer : Result Proof Fault) → EndsSmall theory store focus refinement
      → IsExpanded theory (IsReplay theory store []) focus refinement answer → Fits answer
  expanded-fits store focus refinement answer small (stops fault refuses is) =
      let step : Step = expanded focus refinement in
      fits-as answer (Err fault) is
      (stage-fits store focus.proof.goal step (is_within_depth step.justification) step.goals (Err fault) small.target small.depth small.room refuses)
  expanded-fits store focus refinement answer small (goes_on stage made is) = fits-as answer _ is tt

  expansion-fits : (host : Host) (before : combinators.Stage) (t : combinators.Tactic) (found : Option Proof) (answer : Result Expansion Fault) → HasLogic theory → IsStoreOver theory before.store
      → TacticHasKnownRules theory t → (expansion : IsStackExpansion theory host before t found answer) → ExpandsSmall theory host before t found expansion → Fits answer
  expansion-fits host before t found answer has over rules (stops fault is same) small =
      fits-as answer (Err fault) same (fits-as {A = Focus} (Err fault) (focus_outcome found) is (focus-fits found))
  expansion-fits host before t found answer has over rules (goes_on focus is (stops fault refuses same)) small =
      fits-as answer (Err fault) same (runs-fit theory has host refuses.1 over rules small)
  expansion-fits host before t found answer has over rules (goes_on focus is (goes_on refinement runs (stops fault refuses same))) small =
      fits-as answer (Err fault) same (expanded-fits (over_lemmas before.store refinement.lemmas) focus refinement.step (Err fault) small refuses)
  expansion-fits host before t found answer has over rules (goes_on focus is (goes_on refinement runs (goes_on proof made same))) small = fits-as answer _ same tt

pub small-goals-fit : (host : Host) → SmallGoalsFit host
small-goals-fit host = record {
  set = λ theory term small is. refuted (set_outcome theory term) (set-fits theory term small) is;
  back = λ found is. refuted (back_outcome found) (back-fits found) is;
  rotate = λ found n is. refuted (rotate_outcome found n) (rotate-fits found n) is;
  top = λ found is. refuted (top_outcome found) (top-fits found) is;
  expand = λ theory before t found has over rules expansion small. expansion-fits theory host before t found (Err TooLarge) has over rules expansion small;
}
