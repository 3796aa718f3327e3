-- Small runs, told step by step.
use Rattle.std.proofs.Common.{◌≡◌, ℕ, suc, ◌<◌, List, [], ◌∷◌, Bool, true, false, not, refl, sym, ap, subst, arith, ◌⊎◌, if◌then◌else◌, inl, inr, Option, Some, None, Result, Ok, Err}
use Rattle.std.specs.Str.{bytes_eq}
use Rattle.std.proofs.lemmas.Slice.Eq.{bytes_eq-Decides}
use Rattle.hol_model.specs.Terms.HolType.{HolType}
use Rattle.hol_model.specs.Terms.NamedTerm.{NamedTerm, variable, equation, is_within_limits}
use Rattle.hol_model.specs.Terms.Nameless.{image}
use Rattle.hol_model.specs.Logic.Theory.{Theory}
use Rattle.hol_model.specs.Logic.Derivable.{IsMember}
use Rattle.hol_model.specs.Logic.Logic as nameless
use Rattle.hol_model.specs.Logic.NamedLogic.{true_term}
use Rattle.hol_model.specs.declared.fault.Fault.{Fault}
use Rattle.hol_model.specs.declared.fault.Fault.TheVariants.{Memory, TooLarge, ConvFails}
use Rattle.hol_model.specs.Kernel.Outcome.{unless, given, refused}
use Rattle.hol_model.specs.Rewrites.Rewriting.{none_matches}
use Rattle.hol_laws_refiners.proofs.Equations.{equation-sides}
use Rattle.hol_model.specs.Kernel.Theorem.{Theorem, are_alpha_equivalent}
use Rattle.hol_model.specs.Kernel.Rules.{dest_equation, first_unknown, refl_outcome, trans_outcome}
use Rattle.hol_model.specs.Derived.DerivedRules.{named, up_to_names, body_with, IsConclusion}
use Rattle.hol_model.specs.Goals.Goals.{Goal}
use Rattle.hol_model.specs.declared.rule.Rule.TheVariants as rules
use Rattle.hol_model.proofs.Tests.{same_term-Decides}
use Rattle.hol_model.specs.Goals.Justifications as tree
use Rattle.hol_model.specs.Goals.ValidSteps.{Step, false_twice}
use Rattle.hol_model.specs.Goals.Splicing.{spliced}
use Rattle.hol_model.specs.Goals.Replays.{Store, has_room_for_step}
use Rattle.hol_model.specs.Refining.HostFunctions.{Host, HostConversions, IsAcceptable, AnswersHostStep}
use Rattle.hol_model.specs.Refining.Conversions as conv
use Rattle.hol_model.specs.Refining.Refiners.{StatedGoal, AreGoals, all_tac, refl_tac, from_first, from_second, two_parts, table, toward}
use Rattle.hol_model.specs.Refining.Combinators as tac
use Rattle.hol_model.specs.Refining.Combinators.{leaf, Stage, at, Runs, RunsOn, RunsEach, on_all}
use Rattle.hol_model.specs.Goals.GoalStates.{goal_of}
use Rattle.hol_laws_refiners.specs.Examples.{all_then_all, TwoSteps, OneForTwoIsRefused, ListIsNotRun, FourStepsAtLeaf, LiarIsRefused, HostIsHeard, SecondIsTooLarge, BodyIsKept, ExamplesRun}
use Rattle.hol_laws_refiners.proofs.Costs.{runs-costs}

-- ---- ALL_TAC THEN ALL_TAC

abbrev the_goal : NamedTerm → Step
the_goal term = record { goals = goal_of term ∷ []; justification = from_first }

all-runs : (theory : Theory) (host : Host) (store : Store) (left : ℕ) (term : NamedTerm)
    → Runs theory host (at store (suc left)) (leaf all_tac) (goal_of term) (Ok (the_goal term)) (at store left)
all-runs theory host store left term = tac.leaf_refines refl ([], _, tt, refl, record { goals = (tt, refl, tt); justification = refl })

goals-one : (stated : _) (goals : List Goal) → AreGoals (stated ∷ []) goals → (other : Goal) × (goals ≡ other ∷ [])
goals-one stated [] are = absurd are
goals-one stated (goal ∷ []) are = (goal, refl)
goals-one stated (goal ∷ next ∷ goals) are = absurd are.2

one-goal : (theory : Theory) (host : Host) (before after : Stage) (goal : Goal) (step : Step) → Runs theory host before (leaf all_tac) goal (Ok step) after
    → (other : Goal) × (step.goals ≡ other ∷ [])
one-goal theory host before after goal step (tac.leaf_refines listed is) =
    let stated_goals : is.1.goals ≡ toward goal (named goal.target) ∷ [] = cc (is.3) in
    goals-one (toward goal (named goal.target)) step.goals (subst (λ (g : List StatedGoal). AreGoals g step.goals) stated_goals is.4.goals)
one-goal theory host before after goal step (tac.conversion_refines by r assumed proved dest equates is) = absurd by
one-goal theory host before after goal step (tac.runs_as_defined is r) = cc

no-step : (theory : Theory) (host : Host) (before after : Stage) (goal : Goal) (steps : List Step) → before.steps < 1
    → ¬ (RunsEach theory host before (on_all (leaf all_tac) (goal ∷ [])) (Ok steps) after)
no-step theory host before after goal steps few (tac.one_is_done {mid} {step} r s is) = let spent : mid.steps < before.steps = runs-costs theory host r in absurd (omega (arith, spent, few))

too-few : (theory : Theory) (host : Host) (mid after : Stage) (first step : Step) (goal : Goal) → first.goals ≡ goal ∷ [] → mid.steps < 1
    → ¬ (RunsOn theory host mid first (tac.one_link (tac.then_all (leaf all_tac))) (Ok step) after)
too-few theory host mid after first step goal is few (tac.next_goes_on {mid = next} {tasks} {steps} assigned each fits s) =
    let same : on_all (leaf all_tac) first.goals ≡ tasks = cc (assigned) in
    no-step theory host mid next goal steps few (subst (λ (goals : List Goal). RunsEach theory host mid (on_all (leaf all_tac) goals) (Ok steps) next) is
    (subst (λ (ts : _). RunsEach theory host mid ts (Ok steps) next) (sym same) each))

two-steps : (theory : Theory) (host : Host) (store : Store) (term : NamedTerm) → TwoSteps theory host store term
two-steps theory host store term = record {
  suffice = (
    spliced (the_goal term) (the_goal term ∷ []),
    refl,
    tac.first_goes_on (all-runs theory host store 1 term) (tac.next_goes_on refl (tac.one_is_done (all-runs theory host store 0 term) tac.none_is_left refl) refl tac.ends),
  );
  are_needed = λ step after r. needs step after r;
}
  where
    needs : (step : Step) (after : Stage) → ¬ (Runs theory host (at store 1) all_then_all (goal_of term) (Ok step) after)
    needs step after (tac.first_goes_on {mid} {step = first} r s) =
        let found = one-goal theory host (at store 1) mid (goal_of term) first r in
        too-few theory host mid after first step found.0 found.1 (runs-costs theory host r) s
    needs step after (tac.runs_as_defined is r) = cc

-- ---- lists

one-for-two : (host : Host) → OneForTwoIsRefused host
one-for-two host theory store left =
    tac.first_goes_on {step = record { goals = goal_of true_term ∷ goal_of true_term ∷ []; justification = tree.by_rule rules.Conj (two_parts from_first from_second) }}
    (tac.leaf_refines refl ([], _, tt, refl, record { goals = (tt, refl, (tt, refl, tt)); justification = refl })) (tac.lengths_differ refl)

not-run : (host : Host) → ListIsNotRun host
not-run host theory store left name ty = (
  spliced closed [],
  refl,
  tac.first_goes_on {step = closed} (tac.leaf_refines refl ([], _, tt {0}, closes, record { goals = tt {0}; justification = refl })) (tac.next_goes_on refl tac.none_is_left refl tac.ends),
)
  where
    x : NamedTerm
    x = variable name ty

    closed : Step
    closed = record { goals = []; justification = tree.by_rule (rules.Refl (variable name ty)) tree.no_parts }

    closes : table store refl_tac (goal_of (equation (variable name ty) (variable name ty))) [] ≡ Ok (record { goals = []; justification = tree.by_rule (rules.Refl (variable name ty)) tree.no_parts })
    closes = rw ((same_term-Decides (image (variable name ty)) (image (variable name ty))).1 refl) refl

-- ---- a leaf

-- what REFL answers on a term says that it equals itself
refl-sides : (theory : Theory) (t : NamedTerm) (same : Theorem) → refl_outcome theory t ≡ Ok same → dest_equation same.conclusion ≡ Some (t, t)
refl-sides theory t same is = go (first_unknown theory t) (is_within_limits (equation t t)) is
  where
    made : Theorem
    made = record { theory = theory; hypotheses = []; conclusion = equation t t }

    go : (unknown : Option Fault) (fits : Bool)
        → refused unknown (unless fits TooLarge (Ok (record { theory = theory; hypotheses = []; conclusion = equation t t }))) ≡ Ok same
        → dest_equation same.conclusion ≡ Some (t, t)
    go (Some fault) fits e = cc
    go None false e = cc
    go None true e =
        let conclusion_is : equation t t ≡ same.conclusion = cc in
        subst (λ (c : NamedTerm). dest_equation c ≡ Some (t, t)) conclusion_is (equation-sides t t)

module _ (theory : Theory) (store : Store) (hosts : HostConversions) (depth : ℕ) (name : List ℕ) (ty : HolType) (same : Theorem) (is : refl_outcome theory (variable name ty) ≡ Ok same) where
  abbrev x : NamedTerm
  x = variable name ty

  all-answers : (left : ℕ) → conv.Converts theory store hosts depth (suc left) conv.all_conv x (Ok same) left
  all-answers left = subst (λ (answer : Result Theorem Fault). conv.Converts theory store hosts depth (suc left) conv.all_conv x answer left) is conv.all_converts

  repeat-ends : (left : ℕ) → conv.Converts theory store hosts depth (suc (suc left)) (conv.repeatc (conv.rules_conv [])) x (Ok same) left
  repeat-ends left = conv.converts_as_defined refl (conv.first_is_caught (conv.first_is_refused (conv.rules_rewrite (none_matches tt))) refl (conv.first_answers (all-answers left)))

  unchanged : Err ConvFails ≡ conv.if_changed x (refl_outcome theory x)
  unchanged =
      let differs : are_alpha_equivalent x x ≡ true = (same_term-Decides (image x) (image x)).1 refl in
      subst (λ (answer : Result Theorem Fault). Err ConvFails ≡ conv.if_changed x answer) (sym is)
      (subst (λ (found : Option (NamedTerm × NamedTerm)). Err ConvFails ≡ given found ConvFails (λ sides. unless (not (are_alpha_equivalent sides.1 x)) ConvFails (Ok same)))
      (sym (refl-sides theory x same is))
      (rw differs refl))

  stays : (left : ℕ) (next : conv.Conversions) (c : conv.Conversion)
      → conv.Converts theory store hosts depth (suc (suc left)) (conv.try_conv (conv.thenc (conv.changed_conv (conv.sub_conv c)) next)) x (Ok same) left
  stays left next c = conv.converts_as_defined refl (conv.first_is_caught (conv.first_is_refused (conv.converts_if_changed (conv.same_without_parts refl) unchanged)) refl
      (conv.first_answers (all-answers left)))

  four : (left : ℕ) (joined : Theorem) → trans_outcome theory same same ≡ Ok joined
      → conv.Converts theory store hosts depth (suc (suc (suc (suc left)))) (conv.top_depth_conv (conv.rules_conv [])) x (Ok joined) left
  four left joined made = conv.converts_as_defined refl (conv.first_goes_on (repeat-ends (suc (suc left))) (conv.is_joined (refl-sides theory x same is) (stays left _ _) made conv.ends))

four-steps : (hosts : HostConversions) → FourStepsAtLeaf hosts
four-steps hosts theory store depth left name ty same joined is made = four theory store hosts depth name ty same is left joined made

-- ---- the liar

false-differs : IsMember nameless.false_term (false_twice ∷ []) → ⊥
false-differs (inl same) = let wrong : false ≡ true = (same_term-Decides nameless.false_term false_twice).1 same in cc
false-differs (inr member) = member

liar-refused : LiarIsRefused
liar-refused store accepted =
    let twice = accepted.passes.twice in
    let found : Some (record { hypotheses = nameless.false_term ∷ []; conclusion = nameless.true_term }) ≡ Some twice.sequent = twice.is_made in
    let hypotheses_are : nameless.false_term ∷ [] ≡ twice.sequent.hypotheses = cc in
    false-differs (twice.achieves.assumed nameless.false_term (subst (IsMember nameless.false_term) hypotheses_are (inl refl)))

-- ---- what a host's function answers

abbrev answered_step : Step → Result Step Fault
answered_step step = Ok step

abbrev failed : Fault → Result Step Fault
failed fault = Err fault

taken : (theory : Theory) (store : Store) (goal : Goal) (step : Step) (answer : Result Step Fault) → IsAcceptable theory store goal step → has_room_for_step theory store step ≡ true
    → AnswersHostStep theory store goal step answer → (answer ≡ Ok step) ⊎ (answer ≡ Err Memory)
taken theory store goal step (Ok other) good room answers = inl (ap answered_step answers.1)
taken theory store goal step (Err fault) good room (inl refused) = absurd (refused.1 good)
taken theory store goal step (Err fault) good room (inr (inl memory)) = inr (ap failed memory)
taken theory store goal step (Err fault) good room (inr (inr large)) = cc

host-heard : (host : Host) → HostIsHeard host
host-heard host theory store left name goal step answer final there only good room (tac.host_is_unknown absent) = absurd (absent there)
host-heard host theory store left name goal step answer final there only good room (tac.host_fails is fails) = let same = only None fails in cc
host-heard host theory store left name goal step answer final there only good room (tac.host_refines answered is says answers) =
    let same : answered ≡ step = cc (only (Some answered) says) in
    taken theory store goal step answer good room (subst (λ (s : Step). AnswersHostStep theory store goal s answer) same answers)
host-heard host theory store left name goal step answer final there only good room (tac.runs_as_defined is r) = cc
host-heard host theory store left name goal step answer final there only good room (tac.finds_no_memory later) = inr refl

-- ---- tests and names

second-too-large : SecondIsTooLarge
second-too-large store goal sides fresh is formula large = rw (is, formula, large) refl

body-kept : BodyIsKept
body-kept quantified body is = go (bytes_eq quantified.name quantified.name) ((bytes_eq-Decides quantified.name quantified.name).1 refl) is
  where
    go : (test : Bool) → test ≡ true → IsConclusion (if test then named quantified.body else up_to_names (body_with quantified (variable quantified.name quantified.ty))) body → body ≡ quantified.body
    go true passed is = is
    go false failed is = cc

pub examples-run : (host : Host) → ExamplesRun host
examples-run host = record {
  two_steps = λ theory store term. two-steps theory host store term;
  one_for_two = one-for-two host;
  not_run = not-run host;
  four_steps = four-steps host.conversions;
  liar = liar-refused;
  heard = host-heard host;
  too_large = second-too-large;
  kept = body-kept;
}
