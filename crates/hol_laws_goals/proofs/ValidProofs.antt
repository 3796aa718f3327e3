-- The proof of a goal stays sound.
use Rattle.std.proofs.Common.{◌≡◌, ℕ, zero, suc, ◌-◌, List, [], ◌∷◌, ◌++◌, length, map, Bool, true, false, refl, sym, subst, ap, ◌⊎◌, inl, inr, arith, Option, None, Some, Result, Ok, Err, take}
use Rattle.std.specs.Prelude.{◌≤◌, slice_get, nat_lt, if◌then◌else◌}
use Rattle.std.proofs.lemmas.Option.{slice_get_past}
use Rattle.std.proofs.lemmas.Bool.{ltb-false}
use Rattle.hol_model.specs.declared.fault.Fault.{Fault}
use Rattle.hol_model.specs.declared.fault.Fault.TheVariants.{Memory, TooLarge, NotBool}
use Rattle.hol_model.specs.declared.limits.TheConstants.{KEPT_EXPANSIONS_LIMIT}
use Rattle.hol_model.specs.Terms.HolType.{bool_type}
use Rattle.hol_model.specs.Terms.NamedTerm.{equation, is_within_limits}
use Rattle.hol_model.specs.Logic.Theory.{Theory, IsEarlier, IsLegal}
use Rattle.hol_model.specs.Kernel.Outcome.{unless, refused}
use Rattle.hol_model.specs.Kernel.Theorem.{Theorem}
use Rattle.hol_model.specs.Kernel.Rules.{is_formula, first_unknown}
use Rattle.hol_model.specs.Texts.Reading.{◌>>=◌}
use Rattle.hol_model.specs.Goals.Goals.{Sequent, Goal, Achieves, AchieveEach, GivesAchieving}
use Rattle.hol_model.proofs.Logic.KnownTerms.{image-known}
use Rattle.hol_model.specs.Goals.Strength.{AnswersAsStrong}
use Rattle.hol_model.specs.Goals.Justifications.{Justification, sub, NamedSequents, sequent_over, sequent_of}
use Rattle.hol_model.specs.Goals.ValidSteps.{Step, IsValid, AreValid}
use Rattle.hol_model.specs.Goals.Splicing.{replace_subs, goals_of_steps}
use Rattle.hol_model.specs.Goals.JustificationLaws.{IsLaterStore}
use Rattle.hol_laws_steps.proofs.FewerHypotheses.{IsAsStrong-self, sequent_over-stronger}
use Rattle.hol_laws_steps.proofs.Validity.{as_strong-achieves}
use Rattle.hol_laws_steps.proofs.Splicing.{replace_subs-sequent, splices-valid}
use Rattle.hol_laws_steps.proofs.Growing.{stays-valid}
use Rattle.hol_model.specs.Kernel.Answers.{goes_on, stops}
use Rattle.hol_model.specs.Goals.Replays.{Store, sequents_in, IsKnownGoal, AreKnownGoals, HasSequent, IsWant, AnswersReplay, is_within_depth}
use Rattle.hol_model.specs.Goals.GoalStates.{Stage, underway, proved, Proof, untouched, begun, advanced, goal_of, restored, rotated_goals, rotated_number, rotated_once, rotated, rotated_stage}
use Rattle.hol_model.specs.Goals.GoalStates.{Focus, focus_outcome, stage_focus, step_focus, expanded, closing_outcome, IsStageOf, reverted_to}
use Rattle.hol_model.specs.Goals.GoalLaws.{IsSettable, IsValidStage, AreValidStages, IsValidProof, IsValidIfAny, IsValidStack, Replays, SetIsValid, BackIsValid, RotateIsValid, ExpandIsValid}
use Rattle.hol_model.specs.Goals.GoalLaws.{ExpandFailsForSize, RevertIsValid, ProofsStayValid}
use Rattle.hol_model.specs.Goals.GoodSteps.{IsGoodStep}
use Rattle.hol_laws_goals.proofs.Passing.{passed, not_refused, followed, passes_tests}
use Rattle.hol_laws_goals.proofs.Knowledge.{formula-typed, first_unknown-stays, known_goals-stay}
use Rattle.hol_laws_goals.proofs.Closing.{closing-is, closing-closes, sequent-passes}

-- ---- what is set

-- the step that leaves a goal as it is
untouched-valid : (theory : Theory) (store : NamedSequents) (goal : Goal) → IsValid theory store goal (untouched goal)
untouched-valid theory store goal [] each = absurd each
untouched-valid theory store goal (sequent ∷ []) each = record { sequent = sequent; is_given = refl; achieves = each.0 }
untouched-valid theory store goal (sequent ∷ next ∷ more) each = absurd each.1

pub set-valid : SetIsValid
set-valid theory store term proof same =
    let formula = passed (is_formula term) NotBool (refused (first_unknown theory term) (unless (is_within_limits (equation term term)) TooLarge (Ok (begun (goal_of term))))) proof same in
    let known = not_refused (first_unknown theory term) (unless (is_within_limits (equation term term)) TooLarge (Ok (begun (goal_of term)))) proof formula.1 in
    let fits = passed (is_within_limits (equation term term)) TooLarge (Ok (begun (goal_of term))) proof known.1 in
    let whole : Ok (begun (goal_of term)) ≡ Ok proof = fits.1 in
    let one : proof ≡ begun (goal_of term) = cc in
    let tests = passes_tests theory term known.0 in
    let goal_known : IsKnownGoal theory (goal_of term) = record {
      assumptions = λ other member. absurd member;
      target = image-known theory term bool_type (formula-typed term formula.0) tests.types tests.instances;
    } in
    let made : IsValidProof theory store (begun (goal_of term)) = record {
      settable = record { formula = formula.0; known = known.0; fits = fits.0 };
      stage = record { valid = untouched-valid theory (sequents_in store) (goal_of term); known = (goal_known, tt) };
      kept = tt;
    } in
    subst (λ (p : Proof). IsValidProof theory store p) (sym one) made

-- ---- kept stages

take-valid : (theory : Theory) (store : Store) (goal : Goal) (n : ℕ) (stages : List Stage) → AreValidStages theory store goal stages → AreValidStages theory store goal (take n stages)
take-valid theory store goal zero [] valid = tt
take-valid theory store goal zero (stage ∷ stages) valid = tt
take-valid theory store goal (suc n) [] valid = tt
take-valid theory store goal (suc n) (stage ∷ stages) valid = (valid.0, take-valid theory store goal n stages valid.1)

advanced-valid : (theory : Theory) (store : Store) (proof : Proof) (stage : Stage) → IsValidProof theory store proof → IsValidStage theory store proof.goal stage →
    IsValidProof theory store (advanced proof stage)
advanced-valid theory store proof stage valid new = record {
  settable = valid.settable;
  stage = new;
  kept = take-valid theory store proof.goal KEPT_EXPANSIONS_LIMIT (proof.stage ∷ proof.kept) (valid.stage, valid.kept);
}

pub back-valid : BackIsValid
back-valid theory store None proof valid same = cc
back-valid theory store (Some old) proof valid same = go old.kept valid.kept same
  where
    go : (kept : List Stage) → AreValidStages theory store old.goal kept → restored old.goal kept ≡ Ok proof → IsValidProof theory store proof
    go [] stages same = cc
    go (stage ∷ kept) stages same =
        let made : Proof = record { goal = old.goal; stage = stage; kept = kept } in
        let one : proof ≡ made = cc in
        subst (λ (p : Proof). IsValidProof theory store p) (sym one) (record { settable = valid.settable; stage = stages.0; kept = stages.1 })

-- ---- rotation

-- sequents for goals and one more, apart
record EndsWith (goals : List Goal) (goal : Goal) (sequents : List Sequent) : Type 0 where
  firsts : List Sequent
  last : Sequent
  joined : sequents ≡ firsts ++ last ∷ []
  achieve_firsts : AchieveEach goals firsts
  achieves_last : Achieves goal last
  same_length : length firsts ≡ length goals

ends_with : (goals : List Goal) (goal : Goal) (sequents : List Sequent) → AchieveEach (goals ++ goal ∷ []) sequents → EndsWith goals goal sequents
ends_with [] goal [] each = absurd each
ends_with [] goal (sequent ∷ []) each = record { firsts = []; last = sequent; joined = refl; achieve_firsts = tt; achieves_last = each.0; same_length = refl }
ends_with [] goal (sequent ∷ next ∷ more) each = absurd each.1
ends_with (first ∷ goals) goal [] each = absurd each
ends_with (first ∷ goals) goal (sequent ∷ sequents) each =
    let rest = ends_with goals goal sequents each.1 in
    record {
      firsts = sequent ∷ rest.firsts;
      last = rest.last;
      joined = ap (λ l. sequent ∷ l) rest.joined;
      achieve_firsts = (each.0, rest.achieve_firsts);
      achieves_last = rest.achieves_last;
      same_length = ap suc rest.same_length;
    }

slice_get-longer : (firsts lasts : List Sequent) (i : ℕ) → AnswersAsStrong (slice_get (firsts ++ lasts) i) (slice_get firsts i)
slice_get-longer [] lasts i = tt
slice_get-longer (sequent ∷ firsts) lasts zero = IsAsStrong-self sequent
slice_get-longer (sequent ∷ firsts) lasts (suc i) = slice_get-longer firsts lasts i

slice_get-last : (firsts : List Sequent) (last : Sequent) → slice_get (firsts ++ last ∷ []) (length firsts) ≡ Some last
slice_get-last [] last = refl
slice_get-last (sequent ∷ firsts) last = slice_get-last firsts last

-- a subgoal behind the first finds its sequent one place earlier, and a number past the subgoals finds none
later_place : (firsts : List Sequent) (last : Sequent) (i : ℕ)
    → AnswersAsStrong (slice_get (firsts ++ last ∷ []) (if nat_lt (suc i) (suc (length firsts)) then i else suc i)) (slice_get firsts i)
later_place firsts last i = go (nat_lt (suc i) (suc (length firsts))) refl
  where
    go : (b : Bool) → nat_lt (suc i) (suc (length firsts)) ≡ b
        → AnswersAsStrong (slice_get (firsts ++ last ∷ []) (if b then i else suc i)) (slice_get firsts i)
    go true is = slice_get-longer firsts (last ∷ []) i
    go false is =
        let past : length firsts ≤ i = omega (arith, ltb-false (suc i) (suc (length firsts)) is) in
        subst (λ (found : Option Sequent). AnswersAsStrong (slice_get (firsts ++ last ∷ []) (suc i)) found) (sym (slice_get_past firsts i past)) tt

-- each subgoal finds its sequent at its new number
rotated_place : (firsts : List Sequent) (last : Sequent) (i : ℕ)
    → AnswersAsStrong (slice_get (firsts ++ last ∷ []) (rotated_number (suc (length firsts)) i)) (slice_get (last ∷ firsts) i)
rotated_place firsts last zero =
    let place : suc (length firsts) - 1 ≡ length firsts = omega arith in
    subst (λ (n : ℕ). AnswersAsStrong (slice_get (firsts ++ last ∷ []) n) (Some last)) (sym place)
    (subst (λ (found : Option Sequent). AnswersAsStrong found (Some last)) (sym (slice_get-last firsts last)) (IsAsStrong-self last))
rotated_place firsts last (suc i) = later_place firsts last i

no_sequents : (n i : ℕ) → AnswersAsStrong (slice_get {X = Sequent} [] (rotated_number n i)) (slice_get {X = Sequent} [] i)
no_sequents n i = tt

rotated-given : (theory : Theory) (store : NamedSequents) (goal : Goal) (goals : List Goal) (justification : Justification)
    → IsValid theory store goal (record { goals = goals; justification = justification })
    → (sequents : List Sequent) → AchieveEach (rotated_goals goals) sequents
    → GivesAchieving goal (sequent_of theory store sequents (replace_subs (λ i. sub (rotated_number (length goals) i)) justification))
rotated-given theory store goal [] justification valid [] each =
    subst (λ (answer : Option Sequent). GivesAchieving goal answer) (sym (replace_subs-sequent theory store (slice_get []) (λ i. sub (rotated_number 0 i)) justification))
    (as_strong-achieves goal (sequent_over theory store (λ i. slice_get [] (rotated_number 0 i)) justification) (sequent_of theory store [] justification)
    (sequent_over-stronger theory store (λ i. slice_get [] (rotated_number 0 i)) (slice_get []) (λ i. no_sequents 0 i) justification) (valid [] tt))
rotated-given theory store goal [] justification valid (sequent ∷ sequents) each = absurd each
rotated-given theory store goal (first ∷ goals) justification valid sequents each =
    let apart = ends_with goals first sequents each in
    let turned = λ (i : ℕ). slice_get sequents (rotated_number (length (first ∷ goals)) i) in
    subst (λ (answer : Option Sequent). GivesAchieving goal answer)
    (sym (replace_subs-sequent theory store (slice_get sequents) (λ i. sub (rotated_number (length (first ∷ goals)) i)) justification))
    (as_strong-achieves goal (sequent_over theory store turned justification) (sequent_of theory store (apart.last ∷ apart.firsts) justification)
    (sequent_over-stronger theory store turned (slice_get (apart.last ∷ apart.firsts)) (places apart.firsts apart.last apart.joined apart.same_length) justification)
    (valid (apart.last ∷ apart.firsts) (apart.achieves_last, apart.achieve_firsts)))
  where
    places : (firsts : List Sequent) (last : Sequent) → sequents ≡ firsts ++ last ∷ [] → length firsts ≡ length goals
        → (i : ℕ) → AnswersAsStrong (slice_get sequents (rotated_number (length (first ∷ goals)) i)) (slice_get (last ∷ firsts) i)
    places firsts last joined same i =
        subst (λ (l : List Sequent). AnswersAsStrong (slice_get l (rotated_number (length (first ∷ goals)) i)) (slice_get (last ∷ firsts) i)) (sym joined)
        (subst (λ (n : ℕ). AnswersAsStrong (slice_get (firsts ++ last ∷ []) (rotated_number (suc n) i)) (slice_get (last ∷ firsts) i)) same (rotated_place firsts last i))

known-append : (theory : Theory) (goals others : List Goal) → AreKnownGoals theory goals → AreKnownGoals theory others → AreKnownGoals theory (goals ++ others)
known-append theory [] others known more = more
known-append theory (goal ∷ goals) others known more = (known.0, known-append theory goals others known.1 more)

rotated-known : (theory : Theory) (goals : List Goal) → AreKnownGoals theory goals → AreKnownGoals theory (rotated_goals goals)
rotated-known theory [] known = tt
rotated-known theory (goal ∷ goals) known = known-append theory goals (goal ∷ []) known.1 (known.0, tt)

rotated_once-valid : (theory : Theory) (store : Store) (goal : Goal) (step : Step) → IsGoodStep theory store goal step → IsGoodStep theory store goal (rotated_once step)
rotated_once-valid theory store goal step opening = record {
  valid = λ sequents each. rotated-given theory (sequents_in store) goal step.goals step.justification opening.valid sequents each;
  known = rotated-known theory step.goals opening.known;
}

rotated-valid : (theory : Theory) (store : Store) (goal : Goal) (n : ℕ) (step : Step) → IsGoodStep theory store goal step → IsGoodStep theory store goal (rotated n step)
rotated-valid theory store goal zero step opening = opening
rotated-valid theory store goal (suc n) step opening = rotated-valid theory store goal n (rotated_once step) (rotated_once-valid theory store goal step opening)

pub rotate-valid : RotateIsValid
rotate-valid theory store None n proof valid same = cc
rotate-valid theory store (Some old) n proof valid same = go old.stage valid.stage same
  where
    go : (stage : Stage) → IsValidStage theory store old.goal stage → rotated_stage old stage n ≡ Ok proof → IsValidProof theory store proof
    go (underway step) opening same =
        let one : proof ≡ advanced old (underway (rotated n step)) = cc in
        subst (λ (p : Proof). IsValidProof theory store p) (sym one)
        (advanced-valid theory store old (underway (rotated n step)) valid (rotated-valid theory store old.goal n step opening))
    go (proved theorem) closing same = cc

-- ---- expansion

-- the proof at whose first goal an expansion works
pub record IsFocusOf (found : Option Proof) (focus : Focus) : Type 0 where
  pub is_found : found ≡ Some focus.proof
  stage : focus.proof.stage ≡ underway focus.step
  goals : focus.step.goals ≡ focus.goal ∷ focus.others

focus-goals : (proof : Proof) (step : Step) → proof.stage ≡ underway step → (goals : List Goal) → step.goals ≡ goals → (focus : Focus) → step_focus proof step goals ≡ Ok focus →
    IsFocusOf (Some proof) focus
focus-goals proof step stage [] there focus same = cc
focus-goals proof step stage (goal ∷ others) there focus same =
    let made : Focus = record { proof = proof; step = step; goal = goal; others = others } in
    let one : focus ≡ made = cc in
    subst (λ (f : Focus). IsFocusOf (Some proof) f) (sym one) (record { is_found = refl; stage = stage; goals = there })

focus-stage : (proof : Proof) (stage : Stage) → proof.stage ≡ stage → (focus : Focus) → stage_focus proof stage ≡ Ok focus → IsFocusOf (Some proof) focus
focus-stage proof (underway step) is focus same = focus-goals proof step is step.goals refl focus same
focus-stage proof (proved theorem) is focus same = cc

pub focus-is : (found : Option Proof) (focus : Focus) → focus_outcome found ≡ Ok focus → IsFocusOf found focus
focus-is None focus same = cc
focus-is (Some proof) focus same = focus-stage proof proof.stage refl focus same

-- the proof is sound and so is its step
pub record IsSoundFocus (theory : Theory) (store : Store) (focus : Focus) : Type 0 where
  pub proof : IsValidProof theory store focus.proof
  pub opening : IsGoodStep theory store focus.proof.goal focus.step
  pub goals : focus.step.goals ≡ focus.goal ∷ focus.others

pub focus-sound : (theory : Theory) (store : Store) (found : Option Proof) (focus : Focus) → IsValidIfAny theory store found → focus_outcome found ≡ Ok focus → IsSoundFocus theory store focus
focus-sound theory store found focus valid same =
    let is = focus-is found focus same in
    let here : IsValidProof theory store focus.proof = subst (λ (f : Option Proof). IsValidIfAny theory store f) is.is_found valid in
    record { proof = here; opening = subst (λ (s : Stage). IsValidStage theory store focus.proof.goal s) is.stage here.stage; goals = is.goals }

untouched-all : (theory : Theory) (store : NamedSequents) (goals : List Goal) → AreValid theory store goals (map untouched goals)
untouched-all theory store [] = tt
untouched-all theory store (goal ∷ goals) = (untouched-valid theory store goal, untouched-all theory store goals)

untouched-known : (theory : Theory) (goals : List Goal) → AreKnownGoals theory goals → AreKnownGoals theory (goals_of_steps (map untouched goals))
untouched-known theory [] known = tt
untouched-known theory (goal ∷ goals) known = (known.0, untouched-known theory goals known.1)

expanded-valid : (theory : Theory) (store : Store) (focus : Focus) (refinement : Step) → IsSoundFocus theory store focus → IsGoodStep theory store focus.goal refinement
    → IsGoodStep theory store focus.proof.goal (expanded focus refinement)
expanded-valid theory store focus refinement sound refined =
    let known : AreKnownGoals theory (focus.goal ∷ focus.others) = subst (λ (goals : List Goal). AreKnownGoals theory goals) sound.goals sound.opening.known in
    let each : AreValid theory (sequents_in store) (focus.goal ∷ focus.others) (refinement ∷ map untouched focus.others) = (refined.valid, untouched-all theory (sequents_in store) focus.others) in
    record {
      valid = splices-valid theory (sequents_in store) focus.proof.goal focus.step (refinement ∷ map untouched focus.others) sound.opening.valid
          (subst (λ (goals : List Goal). AreValid theory (sequents_in store) goals (refinement ∷ map untouched focus.others)) (sym sound.goals) each);
      known = known-append theory refinement.goals (goals_of_steps (map untouched focus.others)) refined.known (untouched-known theory focus.others known.1);
    }

-- a stage that is reached
stage-valid : (theory : Theory) (store : Store) (room : Justification → Bool) (goal : Goal) (step : Step) → IsSettable theory goal → IsGoodStep theory store goal step →
    (deep : Bool) (goals : List Goal) (stage : Stage)
    → IsStageOf theory (Replays theory store room) goal step deep goals (Ok stage) → IsValidStage theory store goal stage
stage-valid theory store room goal step settable opening false goals stage is = cc
stage-valid theory store room goal step settable opening true (first ∷ others) stage is =
    (let one : stage ≡ underway step = cc in subst (λ (s : Stage). IsValidStage theory store goal s) (sym one) opening)
stage-valid theory store room goal step settable opening true [] stage (stops fault is_first same) = cc
stage-valid theory store room goal step settable opening true [] stage (goes_on theorem is_first same) =
    let f = followed (closing_outcome theory goal theorem) (λ closed. Ok (proved closed)) stage (sym same) in
    let whole : Ok (proved f.value) ≡ Ok stage = f.is in
    let one : stage ≡ proved f.value = cc in
    subst (λ (s : Stage). IsValidStage theory store goal s) (sym one) (closing-closes theory goal theorem f.value settable f.is_read)

pub expand-valid : ExpandIsValid
expand-valid theory store room found focus refinement proof valid same refined (stops fault is_first is) = cc
expand-valid theory store room found focus refinement proof valid same refined (goes_on stage is_stage is) =
    let sound = focus-sound theory store found focus valid same in
    let opening = expanded-valid theory store focus refinement sound refined in
    let one : proof ≡ advanced focus.proof stage = cc in
    subst (λ (p : Proof). IsValidProof theory store p) (sym one)
    (advanced-valid theory store focus.proof stage sound.proof
    (stage-valid theory store room focus.proof.goal (expanded focus refinement) sound.proof.settable opening (is_within_depth (expanded focus refinement).justification)
    (expanded focus refinement).goals stage is_stage))

-- ---- refusals of an expansion

abbrev ForSize : Fault → Type 0
ForSize fault = (fault ≡ Memory) ⊎ (fault ≡ TooLarge)

want-for_size : (fault : Fault) (room : Bool) → IsWant fault room → ForSize fault
want-for_size fault room (inl memory) = inl memory
want-for_size fault room (inr large) = inr large.0

-- the replay of a valid step without goals is refused for size alone
replay-refused : (room : Bool) (goal : Goal) (answer : Option Sequent) (fault : Fault) → GivesAchieving goal answer → AnswersReplay room answer (Err fault) → ForSize fault
replay-refused room goal None fault gives is = cc (gives.is_given)
replay-refused room goal (Some sequent) fault gives is = want-for_size fault room is

-- and its theorem achieves the goal
replay-has : (room : Bool) (goal : Goal) (answer : Option Sequent) (theorem : Theorem) → (gives : GivesAchieving goal answer) → AnswersReplay room answer (Ok theorem) →
    HasSequent gives.sequent theorem
replay-has room goal None theorem gives is = cc (gives.is_given)
replay-has room goal (Some sequent) theorem gives is =
    (let one : sequent ≡ gives.sequent = cc (gives.is_given) in subst (λ (s : Sequent). HasSequent s theorem) one is)

is_not_refused : {A B : Type 0} (made : Result A Fault) (x : A) (next : A → B) (fault : Fault) → made ≡ Ok x → Err fault ≡ (made >>= λ value. Ok (next value)) → ⊥
is_not_refused (Ok y) x next fault same is = cc
is_not_refused (Err other) x next fault same is = cc

stage-refused : (theory : Theory) (store : Store) (room : Justification → Bool) (goal : Goal) (step : Step) → IsSettable theory goal → IsGoodStep theory store goal step →
    (deep : Bool) (goals : List Goal) → step.goals ≡ goals → (fault : Fault)
    → IsStageOf theory (Replays theory store room) goal step deep goals (Err fault) → ForSize fault
stage-refused theory store room goal step settable opening false goals there fault is = (let one : fault ≡ TooLarge = cc in inr one)
stage-refused theory store room goal step settable opening true (first ∷ others) there fault is = cc
stage-refused theory store room goal step settable opening true [] there fault (stops other is_first same) =
    let gives : GivesAchieving goal (sequent_of theory (sequents_in store) [] step.justification) =
    opening.valid [] (subst (λ (goals : List Goal). AchieveEach goals []) (sym there) tt) in
    let one : fault ≡ other = cc in
    subst ForSize (sym one) (replay-refused (room step.justification) goal (sequent_of theory (sequents_in store) [] step.justification) other gives is_first)
stage-refused theory store room goal step settable opening true [] there fault (goes_on theorem is_first same) =
    let gives : GivesAchieving goal (sequent_of theory (sequents_in store) [] step.justification) =
    opening.valid [] (subst (λ (goals : List Goal). AchieveEach goals []) (sym there) tt) in
    let has = replay-has (room step.justification) goal (sequent_of theory (sequents_in store) [] step.justification) theorem gives is_first in
    let is = closing-is theory goal theorem settable (sequent-passes goal gives.sequent theorem has gives.achieves) in
    absurd (is_not_refused (closing_outcome theory goal theorem) _ proved fault is same)

pub expand-refused : ExpandFailsForSize
expand-refused theory store room found focus refinement fault valid same refined (goes_on stage is_stage is) = cc
expand-refused theory store room found focus refinement fault valid same refined (stops other is_stage is) =
    let sound = focus-sound theory store found focus valid same in
    let opening = expanded-valid theory store focus refinement sound refined in
    let one : fault ≡ other = cc in
    subst ForSize (sym one)
    (stage-refused theory store room focus.proof.goal (expanded focus refinement) sound.proof.settable opening (is_within_depth (expanded focus refinement).justification)
    (expanded focus refinement).goals refl other is_stage)

-- ---- the stack

pub revert-valid : RevertIsValid
revert-valid theory store stack valid = go stack.before valid.before
  where
    go : (before : Option Proof) → IsValidIfAny theory store before → IsValidStack theory store (reverted_to stack before)
    go None is = valid
    go (Some proof) is = record { proof = is; before = tt }

-- ---- growth

stage-stays : (earlier now : Theory) (old new : Store) → IsEarlier earlier now → IsLegal now → IsLaterStore (sequents_in old) (sequents_in new)
    → (goal : Goal) (stage : Stage) → IsValidStage earlier old goal stage → IsValidStage now new goal stage
stage-stays earlier now old new is_earlier legal stored goal (underway step) opening = record {
  valid = stays-valid earlier now (sequents_in old) (sequents_in new) is_earlier legal stored goal step opening.valid;
  known = known_goals-stay earlier now is_earlier legal step.goals opening.known;
}
stage-stays earlier now old new is_earlier legal stored goal (proved theorem) closing = closing

stages-stay : (earlier now : Theory) (old new : Store) → IsEarlier earlier now → IsLegal now → IsLaterStore (sequents_in old) (sequents_in new)
    → (goal : Goal) (stages : List Stage) → AreValidStages earlier old goal stages → AreValidStages now new goal stages
stages-stay earlier now old new is_earlier legal stored goal [] valid = tt
stages-stay earlier now old new is_earlier legal stored goal (stage ∷ stages) valid =
    (stage-stays earlier now old new is_earlier legal stored goal stage valid.0, stages-stay earlier now old new is_earlier legal stored goal stages valid.1)

pub proofs-stay : ProofsStayValid
proofs-stay earlier now old new is_earlier legal stored proof valid = record {
  settable = record {
    formula = valid.settable.formula;
    known = first_unknown-stays earlier now is_earlier legal proof.goal.target valid.settable.known;
    fits = valid.settable.fits;
  };
  stage = stage-stays earlier now old new is_earlier legal stored proof.goal proof.stage valid.stage;
  kept = stages-stay earlier now old new is_earlier legal stored proof.goal proof.kept valid.kept;
}

pub if_any-stays : (earlier now : Theory) (old new : Store) → IsEarlier earlier now → IsLegal now → IsLaterStore (sequents_in old) (sequents_in new) → (found : Option Proof) →
    IsValidIfAny earlier old found → IsValidIfAny now new found
if_any-stays earlier now old new is_earlier legal stored None valid = tt
if_any-stays earlier now old new is_earlier legal stored (Some proof) valid = proofs-stay earlier now old new is_earlier legal stored proof valid
