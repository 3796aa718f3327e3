-- The test of a step by replays over its subgoals.
use Rattle.std.proofs.Common.{◌≡◌, zero, suc, ◌&&◌, List, [], ◌∷◌, ◌++◌, map, Bool, true, false, ◌||◌, refl, sym, ap, ◌∙◌, subst, inl, inr, Option, Some, None, Result, Ok, Err}
use Rattle.std.specs.Bool.{Decides}
use Rattle.std.specs.Prelude.{slice_get}
use Rattle.std.proofs.lemmas.List.Folds.{list_any-append, list_all-append}
use Rattle.hol_model.specs.declared.fault.Fault.{Fault}
use Rattle.hol_model.specs.declared.fault.Fault.TheVariants.{TooLarge, InvalidStep}
use Rattle.hol_model.specs.Terms.HolType.{bool_type}
use Rattle.hol_model.specs.Terms.NamedTerm.{NamedTerm}
use Rattle.hol_model.specs.Terms.Nameless.{Nameless, image, same_term}
use Rattle.hol_model.specs.Logic.Theory.{Theory, IsKnown}
use Rattle.hol_model.specs.Kernel.Theorem.{Theorem}
use Rattle.hol_model.specs.Logic.Derivable.{IsMember}
use Rattle.hol_model.specs.Logic.Logic.{false_term}
use Rattle.hol_model.specs.Goals.Goals.{Sequent, Goal, Achieves}
use Rattle.hol_model.specs.Goals.Achieving.{is_assumed, achieves}
use Rattle.hol_model.specs.Derived.Inference.{require, is_known_formula}
use Rattle.hol_model.proofs.Tests.{first_of_both, second_of_both, both}
use Rattle.hol_model.proofs.Logic.Checks.{knows_nameless-Decides}
use Rattle.hol_model.proofs.Terms.Membership.{of_append, IsMember-append_left, IsMember-append_right}
use Rattle.hol_model.specs.Goals.Strength.{AreAsStrong}
use Rattle.hol_model.specs.Goals.Justifications.{Justification, sub, named, lemma, by_rule, Parts, no_parts, part, NamedSequents, Subgoals, sequent_over, sequent_of}
use Rattle.hol_model.specs.Goals.ValidSteps.{Step, supposed, false_twice, AchievesUnder}
use Rattle.hol_laws_steps.proofs.FewerHypotheses.{justifications-monotone, SubgoalsStronger, sequent_over-stronger}
use Rattle.hol_journal.specs.Journal.{Recorded}
use Rattle.hol_journal.specs.Steps.{sequent_of_theorem}
use Rattle.hol_equal.specs.Inferred.{IsDrawn}
use Rattle.hol_theorem_store.specs.Stored.{Stored, theorems_in}
use Rattle.hol_just_replay.specs.Named.{named_sequents, sequents_of}
use Rattle.hol_just_replay.specs.Lines.{expected_in, IsReplayRefusal}
use Rattle.hol_just_replay.specs.Accepting.{are_known_formulas, is_known_goal, are_known_goals, falsity_from, supposed_from, AreSupposed}
use Rattle.hol_just_replay.specs.Accepting.{IsUnsupposed, HasRoomUnder, IsReplayedUnder, AnswersUnder, PassesUnder, sequent_under, goal_under}
use Rattle.hol_model.specs.Goals.Replays.{Store, IsReplay, sequents_in, IsKnownGoal, AreKnownGoals, terms_of_rule, terms_of_sequent, terms_of_goals, has_room_over, have_room_over, has_room, has_room_for_step}
use Rattle.hol_model.specs.Derived.DerivedRules.{is_among, is_roomy, terms_of_theorem}
use Rattle.hol_just_replay.specs.Room.{are_roomy}
use Rattle.hol_model.specs.Refining.HostFunctions.{IsAcceptable, AnswersAccept}
use Rattle.hol_just_replay.proofs.AchievingLemmas.{achieves-decides}
use Rattle.hol_just_replay.proofs.Replaying.{answers-drawn, answers-fit, alike-drawn, stronger, weaker, roomy-alike, theorem-roomy, store-stays}

-- ---- goals of known terms

formulas-known : (theory : Theory) (terms : List NamedTerm) → are_known_formulas theory terms ≡ true → (term : NamedTerm) → IsMember term terms → IsKnown theory (image term) bool_type
formulas-known theory [] passed term member = absurd member
formulas-known theory (t ∷ terms) passed term (inl same) =
    subst (λ (u : NamedTerm). IsKnown theory (image u) bool_type) (sym same)
    ((knows_nameless-Decides theory (image t) bool_type).0
    (first_of_both (is_known_formula theory (image t)) (are_known_formulas theory terms) passed))
formulas-known theory (t ∷ terms) passed term (inr member) = formulas-known theory terms (second_of_both (is_known_formula theory (image t)) (are_known_formulas theory terms) passed) term member

known-formulas : (theory : Theory) (terms : List NamedTerm) → ((term : NamedTerm) → IsMember term terms → IsKnown theory (image term) bool_type) → are_known_formulas theory terms ≡ true
known-formulas theory [] each = refl
known-formulas theory (t ∷ terms) each =
    both (is_known_formula theory (image t)) (are_known_formulas theory terms)
    ((knows_nameless-Decides theory (image t) bool_type).1 (each t (inl refl))) (known-formulas theory terms (λ u m. each u (inr m)))

goal-known : (theory : Theory) (goal : Goal) → is_known_goal theory goal ≡ true → IsKnownGoal theory goal
goal-known theory goal passed = record {
  assumptions = formulas-known theory goal.assumptions (second_of_both (is_known_formula theory (image goal.target)) (are_known_formulas theory goal.assumptions) passed);
  target = (knows_nameless-Decides theory (image goal.target) bool_type).0 (first_of_both (is_known_formula theory (image goal.target)) (are_known_formulas theory goal.assumptions) passed);
}

known-goal : (theory : Theory) (goal : Goal) → IsKnownGoal theory goal → is_known_goal theory goal ≡ true
known-goal theory goal known =
    both (is_known_formula theory (image goal.target)) (are_known_formulas theory goal.assumptions)
    ((knows_nameless-Decides theory (image goal.target) bool_type).1 known.target) (known-formulas theory goal.assumptions known.assumptions)

goals-known : (theory : Theory) (goals : List Goal) → are_known_goals theory goals ≡ true → AreKnownGoals theory goals
goals-known theory [] passed = tt
goals-known theory (g ∷ goals) passed = (
  goal-known theory g (first_of_both (is_known_goal theory g) (are_known_goals theory goals) passed),
  goals-known theory goals (second_of_both (is_known_goal theory g) (are_known_goals theory goals) passed),
)

pub known-goals : (theory : Theory) (goals : List Goal) → AreKnownGoals theory goals → are_known_goals theory goals ≡ true
known-goals theory [] known = refl
known-goals theory (g ∷ goals) known = both (is_known_goal theory g) (are_known_goals theory goals) (known-goal theory g known.0) (known-goals theory goals known.1)

-- ---- the test

images-of : (extra others : List NamedTerm) → map image (extra ++ others) ≡ (map image extra ++ map image others)
images-of [] others = refl
images-of (e ∷ extra) others = ap (λ (l : List Nameless). image e ∷ l) (images-of extra others)

-- what is among the images of either list
among-either : (term : Nameless) (extra others : List NamedTerm) → is_among term (map image (extra ++ others)) ≡ (is_among term (map image extra) || is_among term (map image others))
among-either term extra others = ap (is_among term) (images-of extra others) ∙ list_any-append (same_term term) (map image extra) (map image others)

pub supposed-first : (extra : List NamedTerm) (goal : Goal) (term : NamedTerm) → is_among (image term) (map image extra) ≡ true → true ≡ is_assumed term (goal_under extra goal)
supposed-first extra goal term is = sym (among-either (image term) extra goal.assumptions ∙ ap (λ (b : Bool). b || is_assumed term goal) is)

pub supposed-second : (extra : List NamedTerm) (goal : Goal) (term : NamedTerm) (result : Bool) → is_among (image term) (map image extra) ≡ false → result ≡ is_assumed term goal
    → result ≡ is_assumed term (goal_under extra goal)
supposed-second extra goal term result is_not is = is ∙ sym (among-either (image term) extra goal.assumptions ∙ ap (λ (b : Bool). b || is_assumed term goal) is_not)

-- what is assumed under hypotheses that are the one formula
pub test-decides : (falsity : Theorem) (extra : Nameless) (goal : Goal) (theorem : Theorem) (result : Bool)
    → result ≡ achieves (goal_under falsity.hypotheses goal) theorem → IsDrawn (Some (falsity_from extra)) (Ok falsity)
    → Decides result (AchievesUnder extra goal (sequent_of_theorem theorem))
test-decides falsity extra goal theorem result is shows = (
  λ passed. let a = decides.0 passed in record { same_conclusion = a.same_conclusion; assumed = λ t m. there t (a.assumed t m) },
  λ achieved. decides.1 (record { same_conclusion = achieved.same_conclusion; assumed = λ t m. here t (achieved.assumed t m) }),
)
  where
    h : List Nameless
    h = map image falsity.hypotheses

    asms : List Nameless
    asms = map image goal.assumptions

    decides : Decides result (Achieves (goal_under falsity.hypotheses goal) (sequent_of_theorem theorem))
    decides = rw is (achieves-decides (goal_under falsity.hypotheses goal) theorem)

    one : (t : Nameless) → IsMember t (extra ∷ []) → IsMember t (extra ∷ asms)
    one t (inl same) = inl same
    one t (inr none) = absurd none

    there : (t : Nameless) → IsMember t (map image (falsity.hypotheses ++ goal.assumptions)) → IsMember t (extra ∷ asms)
    there t m =
        elim (of_append t h asms (subst (λ (l : List Nameless). IsMember t l) (images-of falsity.hypotheses goal.assumptions) m)) [ inl a ↦ one t (shows.same_set.back t a) | inr b ↦ inr b ]

    both_lists : (t : Nameless) → IsMember t (extra ∷ asms) → IsMember t (h ++ asms)
    both_lists t (inl same) = IsMember-append_left t h asms (shows.same_set.to t (inl same))
    both_lists t (inr b) = IsMember-append_right t h asms b

    here : (t : Nameless) → IsMember t (extra ∷ asms) → IsMember t (map image (falsity.hypotheses ++ goal.assumptions))
    here t m = subst (λ (l : List Nameless). IsMember t l) (sym (images-of falsity.hypotheses goal.assumptions)) (both_lists t m)

-- ---- the replay

pub unsupposed-refusal : (known : Bool) (fault : Fault) → IsUnsupposed known fault → IsReplayRefusal fault
unsupposed-refusal known fault (inl (is, unknown)) = inl is
unsupposed-refusal known fault (inr want) = inr want

pub unsupposed-drawn : (known : Bool) (found : Option Sequent) (fault : Fault) → IsUnsupposed known fault → IsDrawn (require known found) (Err fault)
unsupposed-drawn false found fault refused = tt
unsupposed-drawn true None fault refused = tt
unsupposed-drawn true (Some s) fault (inl (is, unknown)) = cc
unsupposed-drawn true (Some s) fault (inr want) = want

goal-drawn : (theory : Theory) (hypotheses : List Nameless) (goal : Goal) (made : Theorem) → IsDrawn (supposed_from theory hypotheses goal) (Ok made)
    → (is_known_goal theory goal ≡ true) × IsDrawn (Some (record { hypotheses = hypotheses ++ map image goal.assumptions; conclusion = image goal.target })) (Ok made)
goal-drawn theory hypotheses goal made = go (is_known_goal theory goal)
  where
    go : (known : Bool) → IsDrawn (require known (Some (record { hypotheses = hypotheses ++ map image goal.assumptions; conclusion = image goal.target }))) (Ok made)
        → (known ≡ true) × IsDrawn (Some (record { hypotheses = hypotheses ++ map image goal.assumptions; conclusion = image goal.target })) (Ok made)
    go true is = (refl, is)
    go false is = absurd is

all-known : (theory : Theory) (hypotheses : List Nameless) (goals : List Goal) (all : List Recorded) → AreSupposed theory hypotheses goals all → are_known_goals theory goals ≡ true
all-known theory hypotheses [] [] are = refl
all-known theory hypotheses [] (x ∷ xs) are = absurd are
all-known theory hypotheses (g ∷ goals) [] are = absurd are
all-known theory hypotheses (g ∷ goals) (x ∷ xs) are =
    both (is_known_goal theory g) (are_known_goals theory goals) (goal-drawn theory hypotheses g x.theorem are.0).0 (all-known theory hypotheses goals xs are.1)

-- a theorem under hypotheses that are the one formula
under-extra : (falsity : Theorem) (extra : Nameless) (goal : Goal) (made : Theorem) → IsDrawn (Some (falsity_from extra)) (Ok falsity)
    → IsDrawn (Some (record { hypotheses = map image falsity.hypotheses ++ map image goal.assumptions; conclusion = image goal.target })) (Ok made) → IsDrawn (Some (supposed extra goal)) (Ok made)
under-extra falsity extra goal made shows drawn = record {
  same_set = record {
    to = λ x m. drawn.same_set.to x (elim m [ inl same ↦ IsMember-append_left x h asms (shows.same_set.to x (inl same)) | inr b ↦ IsMember-append_right x h asms b ]);
    back = λ x m. elim (of_append x h asms (drawn.same_set.back x m)) [ inl a ↦ one x (shows.same_set.back x a) | inr b ↦ inr b ];
  };
  concludes = drawn.concludes;
}
  where
    h : List Nameless
    h = map image falsity.hypotheses

    asms : List Nameless
    asms = map image goal.assumptions

    one : (t : Nameless) → IsMember t (extra ∷ []) → IsMember t (extra ∷ asms)
    one t (inl same) = inl same
    one t (inr none) = absurd none

all-strong : (theory : Theory) (falsity : Theorem) (extra : Nameless) → IsDrawn (Some (falsity_from extra)) (Ok falsity)
    → (goals : List Goal) (all : List Recorded) → AreSupposed theory (map image falsity.hypotheses) goals all
    → AreAsStrong (map (supposed extra) goals) (sequents_of all)
all-strong theory falsity extra shows [] [] are = tt
all-strong theory falsity extra shows [] (x ∷ xs) are = absurd are
all-strong theory falsity extra shows (g ∷ goals) [] are = absurd are
all-strong theory falsity extra shows (g ∷ goals) (x ∷ xs) are = (
  stronger (supposed extra g) x.theorem
      (under-extra falsity extra g x.theorem shows (goal-drawn theory (map image falsity.hypotheses) g x.theorem are.0).1),
  all-strong theory falsity extra shows goals xs are.1,
)

all-weak : (theory : Theory) (falsity : Theorem) (extra : Nameless) → IsDrawn (Some (falsity_from extra)) (Ok falsity)
    → (goals : List Goal) (all : List Recorded) → AreSupposed theory (map image falsity.hypotheses) goals all
    → AreAsStrong (sequents_of all) (map (supposed extra) goals)
all-weak theory falsity extra shows [] [] are = tt
all-weak theory falsity extra shows [] (x ∷ xs) are = absurd are
all-weak theory falsity extra shows (g ∷ goals) [] are = absurd are
all-weak theory falsity extra shows (g ∷ goals) (x ∷ xs) are = (
  weaker (supposed extra g) x.theorem
      (under-extra falsity extra g x.theorem shows (goal-drawn theory (map image falsity.hypotheses) g x.theorem are.0).1),
  all-weak theory falsity extra shows goals xs are.1,
)

pub replay-under : (theory : Theory) (store : NamedSequents) (falsity : Theorem) (extra : Nameless) (step : Step) (all : List Recorded)
    (result : Result Theorem Fault) → IsDrawn (Some (falsity_from extra)) (Ok falsity)
    → AreSupposed theory (map image falsity.hypotheses) step.goals all
    → IsDrawn (sequent_of theory store (sequents_of all) step.justification) result → IsDrawn (sequent_under theory store extra step) result
replay-under theory store falsity extra step all result shows are drawn =
    let goals = map (supposed extra) step.goals in
    let made = sequents_of all in
    let same = alike-drawn (sequent_of theory store made step.justification) (sequent_of theory store goals step.justification) result
    (justifications-monotone theory store made goals (all-weak theory falsity extra shows step.goals all are) step.justification)
    (justifications-monotone theory store goals made (all-strong theory falsity extra shows step.goals all are) step.justification) drawn in
    subst (λ (known : Bool). IsDrawn (require known (sequent_of theory store goals step.justification)) result) (sym (all-known theory (map image falsity.hypotheses) step.goals all are)) same

-- ---- room

stronger-at : (strongs weaks : List Sequent) → AreAsStrong strongs weaks → SubgoalsStronger (slice_get strongs) (slice_get weaks)
stronger-at [] [] stronger i = tt
stronger-at [] (weak ∷ weaks) stronger i = absurd stronger
stronger-at (strong ∷ strongs) [] stronger i = absurd stronger
stronger-at (strong ∷ strongs) (weak ∷ weaks) stronger zero = stronger.0
stronger-at (strong ∷ strongs) (weak ∷ weaks) stronger (suc i) = stronger-at strongs weaks stronger.1 i

-- subgoals that are the same as sets leave the same room
module _ (theory : Theory) (store : NamedSequents) (first second : Subgoals) (one : SubgoalsStronger first second) (two : SubgoalsStronger second first) where
  mutual
    room-alike : (tree : Justification) → has_room_over theory store first tree ≡ true → has_room_over theory store second tree ≡ true
    room-alike (sub i) room = roomy-alike (first i) (second i) (one i) (two i) room
    room-alike (named name) room = room
    room-alike (lemma k) room = room
    room-alike (by_rule rule parts) room =
        let found = sequent_over theory store first (by_rule rule parts) in
        let other = sequent_over theory store second (by_rule rule parts) in
        let terms : (are_roomy (terms_of_rule rule) && are_roomy (terms_of_sequent found)) ≡ true =
        sym (list_all-append is_roomy (terms_of_rule rule) (terms_of_sequent found))
        ∙ first_of_both (are_roomy (terms_of_rule rule ++ terms_of_sequent found)) (have_room_over theory store first parts) room in
        both (are_roomy (terms_of_rule rule ++ terms_of_sequent other)) (have_room_over theory store second parts)
        (list_all-append is_roomy (terms_of_rule rule) (terms_of_sequent other)
        ∙ both (are_roomy (terms_of_rule rule)) (are_roomy (terms_of_sequent other)) (first_of_both (are_roomy (terms_of_rule rule)) (are_roomy (terms_of_sequent found)) terms)
        (roomy-alike found other (sequent_over-stronger theory store first second one (by_rule rule parts)) (sequent_over-stronger theory store second first two (by_rule rule parts))
        (second_of_both (are_roomy (terms_of_rule rule)) (are_roomy (terms_of_sequent found)) terms)))
        (rooms-alike parts (second_of_both (are_roomy (terms_of_rule rule ++ terms_of_sequent found)) (have_room_over theory store first parts) room))

    rooms-alike : (parts : Parts) → have_room_over theory store first parts ≡ true → have_room_over theory store second parts ≡ true
    rooms-alike no_parts room = room
    rooms-alike (part tree rest) room =
        both (has_room_over theory store second tree) (have_room_over theory store second rest)
        (room-alike tree (first_of_both (has_room_over theory store first tree) (have_room_over theory store first rest) room))
        (rooms-alike rest (second_of_both (has_room_over theory store first tree) (have_room_over theory store first rest) room))

pub room-under : (theory : Theory) (store : NamedSequents) (falsity : Theorem) (extra : Nameless) (step : Step) (all : List Recorded) → IsDrawn (Some (falsity_from extra)) (Ok falsity)
    → AreSupposed theory (map image falsity.hypotheses) step.goals all
    → has_room theory store (map (supposed extra) step.goals) step.justification ≡ true
    → has_room theory store (sequents_of all) step.justification ≡ true
room-under theory store falsity extra step all shows are room =
    room-alike theory store (slice_get (map (supposed extra) step.goals)) (slice_get (sequents_of all))
    (stronger-at (map (supposed extra) step.goals) (sequents_of all) (all-strong theory falsity extra shows step.goals all are))
    (stronger-at (sequents_of all) (map (supposed extra) step.goals) (all-weak theory falsity extra shows step.goals all are)) step.justification room

-- a theorem that says `F` from a formula that leaves room
pub falsity-roomy : (falsity : Theorem) (extra : Nameless) → IsDrawn (Some (falsity_from extra)) (Ok falsity) → is_roomy extra ≡ true → are_roomy (terms_of_theorem falsity) ≡ true
falsity-roomy falsity extra shows roomy =
    theorem-roomy (Some (falsity_from extra)) falsity shows (both (is_roomy false_term) (are_roomy (extra ∷ [])) refl (both (is_roomy extra) true roomy refl))

-- ---- steps that pass

pub passes-under : (theory : Theory) (store : NamedSequents) (extra : Nameless) (goal : Goal) (step : Step) (theorem : Theorem) → IsDrawn (sequent_under theory store extra step) (Ok theorem)
    → AchievesUnder extra goal (sequent_of_theorem theorem) → PassesUnder theory store extra goal step
passes-under theory store extra goal step theorem drawn achieved =
    go (are_known_goals theory step.goals) refl (sequent_of theory store (map (supposed extra) step.goals) step.justification) refl drawn
  where
    go : (known : Bool) → are_known_goals theory step.goals ≡ known → (found : Option Sequent)
        → sequent_of theory store (map (supposed extra) step.goals) step.justification ≡ found → IsDrawn (require known found) (Ok theorem)
        → PassesUnder theory store extra goal step
    go false known found is drawn = absurd drawn
    go true known None is drawn = absurd drawn
    go true known (Some s) is drawn = record {
      known = goals-known theory step.goals known;
      passes = record {
        sequent = s;
        is_made = is;
        achieves =
            record { same_conclusion = sym drawn.concludes ∙ achieved.same_conclusion; assumed = λ t m. achieved.assumed t (drawn.same_set.to t m) };
      };
    }

under-is : (theory : Theory) (store : NamedSequents) (extra : Nameless) (goal : Goal) (step : Step)
    (passes : PassesUnder theory store extra goal step) → sequent_under theory store extra step ≡ Some passes.passes.sequent
under-is theory store extra goal step passes =
    ap (λ (known : Bool). require known (sequent_of theory store (map (supposed extra) step.goals) step.justification)) (known-goals theory step.goals passes.known) ∙ passes.passes.is_made

pub passed-under : (theory : Theory) (store : NamedSequents) (extra : Nameless) (goal : Goal) (step : Step) (theorem : Theorem) → IsDrawn (sequent_under theory store extra step) (Ok theorem)
    → PassesUnder theory store extra goal step → AchievesUnder extra goal (sequent_of_theorem theorem)
passed-under theory store extra goal step theorem drawn passes =
    let at : IsDrawn (Some passes.passes.sequent) (Ok theorem) = subst (λ (o : Option Sequent). IsDrawn o (Ok theorem)) (under-is theory store extra goal step passes) drawn in
    record {
      same_conclusion = at.concludes ∙ passes.passes.achieves.same_conclusion;
      assumed = λ t m. passes.passes.achieves.assumed t (at.same_set.back t m);
    }

-- the refusal of the step comes where nothing is made
pub invalid-never : (found : Sequent) (fault : Fault) → IsDrawn (Some found) (Err fault) → fault ≡ InvalidStep → ⊥
invalid-never found fault (inl is) invalid = cc
invalid-never found fault (inr is) invalid = cc

pub refused-under : (theory : Theory) (store : NamedSequents) (extra : Nameless) (goal : Goal) (step : Step) (fault : Fault)
    → IsDrawn (sequent_under theory store extra step) (Err fault) → fault ≡ InvalidStep
    → PassesUnder theory store extra goal step → ⊥
refused-under theory store extra goal step fault drawn invalid passes =
    invalid-never passes.passes.sequent fault (subst (λ (o : Option Sequent). IsDrawn o (Err fault)) (under-is theory store extra goal step passes) drawn) invalid

pub failed-under : (theory : Theory) (store : NamedSequents) (extra : Nameless) (goal : Goal) (step : Step) (theorem : Theorem) (result : Bool)
    → IsDrawn (sequent_under theory store extra step) (Ok theorem)
    → Decides result (AchievesUnder extra goal (sequent_of_theorem theorem)) → result ≡ false → PassesUnder theory store extra goal step → ⊥
failed-under theory store extra goal step theorem result drawn decides fails passes =
    let passed : result ≡ true = decides.1 (passed-under theory store extra goal step theorem drawn passes) in cc

pub want-refusal : (found : Sequent) (fault : Fault) → IsDrawn (Some found) (Err fault) → IsReplayRefusal fault
want-refusal found fault want = inr want

-- what comes of a replay under the formula

pub supposes-not : (theory : Theory) (store : NamedSequents) (falsity : Theorem) (extra : Nameless) (step : Step) (fault : Fault)
    → IsDrawn (Some (falsity_from extra)) (Ok falsity) → IsUnsupposed (are_known_goals theory step.goals) fault
    → (are_roomy (terms_of_theorem falsity) ≡ true → are_roomy (terms_of_goals step.goals) ≡ true → fault ≡ TooLarge → ⊥) → IsReplayedUnder theory store step (Err fault) extra
supposes-not theory store falsity extra step fault shows refused fits = record {
  drawn = unsupposed-drawn (are_known_goals theory step.goals) (sequent_of theory store (map (supposed extra) step.goals) step.justification) fault refused;
  fits = λ room. fits (falsity-roomy falsity extra shows room.extra_roomy) room.goals_roomy;
}

pub replays-under : (theory : Theory) (stored : Stored) (falsity : Theorem) (extra : Nameless) (step : Step) (all : List Recorded)
    (result : Result Theorem Fault) → IsDrawn (Some (falsity_from extra)) (Ok falsity)
    → AreSupposed theory (map image falsity.hypotheses) step.goals all → IsReplay theory (theorems_in stored) (sequents_of all) step.justification result
    → IsReplayedUnder theory (named_sequents stored) step result extra
replays-under theory stored falsity extra step all result shows are answers =
    let expected = expected_in theory stored all step.justification in record {
      drawn = replay-under theory (named_sequents stored) falsity extra step all result shows are (answers-drawn expected.has_room expected.sequent result answers);
      fits = λ room. answers-fit expected.has_room expected.sequent result answers (room-under theory (named_sequents stored) falsity extra step all shows are room.replay_roomy);
    }

pub unreplayed : (theory : Theory) (store : NamedSequents) (extra : Nameless) (goal : Goal) (step : Step) (fault : Fault) → IsReplayedUnder theory store step (Err fault) extra → IsReplayRefusal fault
    → AnswersUnder {A = Unit {0}} theory store goal step (Err fault) extra
unreplayed theory store extra goal step fault replayed (inl invalid) = inl (invalid, refused-under theory store extra goal step fault replayed.drawn invalid)
unreplayed theory store extra goal step fault replayed (inr (inl memory)) = inr (inl memory)
unreplayed theory store extra goal step fault replayed (inr (inr large)) = inr (inr (large, λ room. replayed.fits room large))

-- what the formula's theorem lacks is memory
pub unassumed : (theory : Theory) (store : NamedSequents) (sequent : Sequent) (extra : Nameless) (goal : Goal) (step : Step) (fault : Fault)
    → IsDrawn (Some sequent) (Err fault) → (fault ≡ TooLarge → ⊥)
    → AnswersUnder {A = Unit {0}} theory store goal step (Err fault) extra
unassumed theory store sequent extra goal step fault (inl memory) fits = inr (inl memory)
unassumed theory store sequent extra goal step fault (inr large) fits = absurd (fits large)

-- ---- both replays

-- there is no room for the step where there is none under one of the formulas
no-room : (theory : Theory) (store : Store) (step : Step) → ((has_room_for_step theory store step ≡ true) → ⊥) → has_room_for_step theory store step ≡ false
no-room theory store step none = go (has_room_for_step theory store step) none
  where
    go : (room : Bool) → (room ≡ true → ⊥) → room ≡ false
    go true none = absurd (none refl)
    go false none = refl

room-once : (theory : Theory) (store : Store) (step : Step) → has_room_for_step theory store step ≡ true → HasRoomUnder theory (sequents_in store) false_term step
room-once theory store step room =
    let goals = are_roomy (terms_of_goals step.goals) in
    let once = has_room theory (sequents_in store) (map (supposed false_term) step.goals) step.justification in
    let twice = has_room theory (sequents_in store) (map (supposed false_twice) step.goals) step.justification in
    record { extra_roomy = refl; goals_roomy = first_of_both goals (once && twice) room; replay_roomy = first_of_both once twice (second_of_both goals (once && twice) room) }

room-twice : (theory : Theory) (store : Store) (step : Step) → has_room_for_step theory store step ≡ true → HasRoomUnder theory (sequents_in store) false_twice step
room-twice theory store step room =
    let goals = are_roomy (terms_of_goals step.goals) in
    let once = has_room theory (sequents_in store) (map (supposed false_term) step.goals) step.justification in
    let twice = has_room theory (sequents_in store) (map (supposed false_twice) step.goals) step.justification in
    record { extra_roomy = refl; goals_roomy = first_of_both goals (once && twice) room; replay_roomy = second_of_both once twice (second_of_both goals (once && twice) room) }

pub acceptable : (theory : Theory) (store : Store) (goal : Goal) (step : Step) → PassesUnder theory (sequents_in store) false_term goal step
    → PassesUnder theory (sequents_in store) false_twice goal step → IsAcceptable theory store goal step
acceptable theory store goal step once twice = record { known = once.known; passes = record { once = once.passes; twice = twice.passes } }

pub acceptable-once : (theory : Theory) (store : Store) (goal : Goal) (step : Step) → IsAcceptable theory store goal step → PassesUnder theory (sequents_in store) false_term goal step
acceptable-once theory store goal step is = record { known = is.known; passes = is.passes.once }

pub acceptable-twice : (theory : Theory) (store : Store) (goal : Goal) (step : Step) → IsAcceptable theory store goal step → PassesUnder theory (sequents_in store) false_twice goal step
acceptable-twice theory store goal step is = record { known = is.known; passes = is.passes.twice }

pub fails-once : (theory : Theory) (store : Store) (goal : Goal) (step : Step) (fault : Fault) → AnswersUnder {A = Unit {0}} theory (sequents_in store) goal step (Err fault) false_term
    → AnswersAccept {A = Unit {0}} theory store goal step (Err fault)
fails-once theory store goal step fault (inl (invalid, apart)) = inl (invalid, λ is. apart (acceptable-once theory store goal step is))
fails-once theory store goal step fault (inr (inl memory)) = inr (inl memory)
fails-once theory store goal step fault (inr (inr large)) = inr (inr (large.0, no-room theory store step (λ room. large.1 (room-once theory store step room))))

pub fails-twice : (theory : Theory) (store : Store) (goal : Goal) (step : Step) (fault : Fault) → AnswersUnder {A = Unit {0}} theory (sequents_in store) goal step (Err fault) false_twice
    → AnswersAccept {A = Unit {0}} theory store goal step (Err fault)
fails-twice theory store goal step fault (inl (invalid, apart)) = inl (invalid, λ is. apart (acceptable-twice theory store goal step is))
fails-twice theory store goal step fault (inr (inl memory)) = inr (inl memory)
fails-twice theory store goal step fault (inr (inr large)) = inr (inr (large.0, no-room theory store step (λ room. large.1 (room-twice theory store step room))))

pub ruleset testing = (supposed-first, supposed-second, test-decides)

pub ruleset accepting = (unsupposed-refusal, unsupposed-drawn, want-refusal, store-stays)
