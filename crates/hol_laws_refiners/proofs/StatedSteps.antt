-- Stated steps that are valid, and the steps that they state.
use Rattle.std.proofs.Common.{◌≡◌, ◌⊎◌, List, [], ◌∷◌, ◌++◌, map, Bool, true, false, refl, sym, ◌∙◌, ap, subst, inl, inr, Option, Some, None, Result, Ok, Err, append-nil}
use Rattle.hol_model.specs.declared.fault.Fault.{Fault}
use Rattle.hol_model.specs.Terms.HolType.{bool_type}
use Rattle.hol_model.specs.Terms.NamedTerm.{NamedTerm}
use Rattle.hol_model.specs.Terms.Nameless.{Nameless, image}
use Rattle.hol_model.specs.Logic.Theory.{Theory, IsKnown}
use Rattle.hol_model.specs.Logic.Derivable.{IsMember}
use Rattle.hol_model.specs.Derived.DerivedRules.{Conclusion, named, up_to_names, with_left, IsConclusion, conclusion_image, is_among}
use Rattle.hol_model.specs.Kernel.Outcome.{unless, given}
use Rattle.hol_model.specs.Goals.Goals.{Sequent, Goal, AchieveEach, GivesAchieving}
use Rattle.hol_model.proofs.Terms.Membership.{of_append, of_map, IsMember-map}
use Rattle.hol_model.specs.Goals.Strength.{Includes}
use Rattle.hol_model.specs.Goals.Justifications.{Justification, sequent_of}
use Rattle.hol_model.specs.Goals.ValidSteps.{Step}
use Rattle.hol_laws_steps.proofs.Members.{list_all-member, is_among-member}
use Rattle.hol_model.specs.Goals.Replays.{Store, sequents_in, IsKnownGoal, AreKnownGoals}
use Rattle.hol_model.specs.Refining.Refiners.{StatedGoal, StatedStep, AreConclusions, AreGoals, IsStep, from_assumptions}
use Rattle.hol_model.specs.Goals.Achieving.{are_assumed}
use Rattle.hol_model.specs.Goals.GoodSteps.{IsGoodStep}
use Rattle.hol_laws_refiners.proofs.Proving.{Proves}

-- ---- images

conclusion-image : (stated : Conclusion) (term : NamedTerm) → IsConclusion stated term → image term ≡ conclusion_image stated
conclusion-image (named t) term is = ap image is
conclusion-image (up_to_names t) term is = is
conclusion-image (with_left left t) term is = is.0

conclusions-images : (stated : List Conclusion) (terms : List NamedTerm) → AreConclusions stated terms → map image terms ≡ map conclusion_image stated
conclusions-images [] [] are = refl
conclusions-images [] (term ∷ terms) are = absurd are
conclusions-images (c ∷ stated) [] are = absurd are
conclusions-images (c ∷ stated) (term ∷ terms) are = λ i. (conclusion-image c term are.0 i) ∷ (conclusions-images stated terms are.1 i)

named-images : (terms : List NamedTerm) (more : List Conclusion) → map conclusion_image (map named terms ++ more) ≡ map image terms ++ map conclusion_image more
named-images [] more = refl
named-images (term ∷ terms) more = ap (λ rest. image term ∷ rest) (named-images terms more)

-- ---- sequents for stated goals

pub record Meets (stated : StatedGoal) (sequent : Sequent) : Type 0 where
  pub conclusion : sequent.conclusion ≡ conclusion_image stated.target
  pub hypotheses : Includes sequent.hypotheses (map conclusion_image stated.assumptions)

abbrev pub MeetEach : List StatedGoal → List Sequent → Type 0
MeetEach [] [] = Unit {0}
MeetEach (stated ∷ more) (sequent ∷ sequents) = Meets stated sequent × MeetEach more sequents
MeetEach _ _ = ⊥

meet-each : (stated : List StatedGoal) (goals : List Goal) (sequents : List Sequent) → AreGoals stated goals → AchieveEach goals sequents → MeetEach stated sequents
meet-each [] [] [] are each = tt
meet-each [] [] (s ∷ sequents) are each = absurd each
meet-each [] (goal ∷ goals) sequents are each = absurd are
meet-each (g ∷ stated) [] sequents are each = absurd are
meet-each (g ∷ stated) (goal ∷ goals) [] are each = absurd each
meet-each (g ∷ stated) (goal ∷ goals) (s ∷ sequents) are each = (
  record {
    conclusion = each.0.same_conclusion ∙ conclusion-image g.target goal.target are.1;
    hypotheses = λ x member. subst (IsMember x) (conclusions-images g.assumptions goal.assumptions are.0) (each.0.assumed x member);
  },
  meet-each stated goals sequents are.2 each.1,
)

-- what meets a goal that has the assumptions and one more, or them alone
pub meets-more : (assumptions : List NamedTerm) (more : List Conclusion) (target : Conclusion) (s : Sequent) → Meets (from_assumptions assumptions more target) s
    → Includes s.hypotheses (map image assumptions ++ map conclusion_image more)
meets-more assumptions more target s met x member = subst (IsMember x) (named-images assumptions more) (met.hypotheses x member)

pub meets-none : (assumptions : List NamedTerm) (target : Conclusion) (s : Sequent) → Meets (from_assumptions assumptions [] target) s → Includes s.hypotheses (map image assumptions)
meets-none assumptions target s met x member = subst (IsMember x) (named-images assumptions [] ∙ append-nil (map image assumptions)) (met.hypotheses x member)

-- one sequent for one goal, and two for two
pub with_none : (P : List Sequent → Type 0) → P [] → (sequents : List Sequent) → MeetEach [] sequents → P sequents
with_none P next [] each = next
with_none P next (s ∷ sequents) each = absurd each

pub with_one : (g : StatedGoal) (P : List Sequent → Type 0) → ((s : Sequent) → Meets g s → P (s ∷ [])) → (sequents : List Sequent) → MeetEach (g ∷ []) sequents → P sequents
with_one g P next [] each = absurd each
with_one g P next (s ∷ []) each = next s each.0
with_one g P next (s ∷ t ∷ sequents) each = absurd each.1

pub with_two : (g k : StatedGoal) (P : List Sequent → Type 0) → ((s t : Sequent) → Meets g s → Meets k t → P (s ∷ t ∷ [])) → (sequents : List Sequent)
    → MeetEach (g ∷ k ∷ []) sequents → P sequents
with_two g k P next [] each = absurd each
with_two g k P next (s ∷ []) each = absurd each.1
with_two g k P next (s ∷ t ∷ []) each = next s t each.0 each.1.0
with_two g k P next (s ∷ t ∷ u ∷ sequents) each = absurd each.1.1

-- ---- known goals

pub record IsKnownStated (theory : Theory) (stated : StatedGoal) : Type 0 where
  pub assumptions : (x : Nameless) → IsMember x (map conclusion_image stated.assumptions) → IsKnown theory x bool_type
  pub target : IsKnown theory (conclusion_image stated.target) bool_type

abbrev pub AreKnownStated : Theory → List StatedGoal → Type 0
AreKnownStated theory [] = Unit {0}
AreKnownStated theory (stated ∷ more) = IsKnownStated theory stated × AreKnownStated theory more

known-goals : (theory : Theory) (stated : List StatedGoal) (goals : List Goal) → AreGoals stated goals → AreKnownStated theory stated → AreKnownGoals theory goals
known-goals theory [] [] are known = tt
known-goals theory [] (goal ∷ goals) are known = absurd are
known-goals theory (g ∷ stated) [] are known = absurd are
known-goals theory (g ∷ stated) (goal ∷ goals) are known = (
  record {
    assumptions = λ term member. known.0.assumptions (image term) (subst (IsMember (image term)) (conclusions-images g.assumptions goal.assumptions are.0)
        (IsMember-map image term goal.assumptions member));
    target = subst (λ (t : Nameless). IsKnown theory t bool_type) (sym (conclusion-image g.target goal.target are.1)) known.0.target;
  },
  known-goals theory stated goals are.2 known.1,
)

-- each image of the goal's assumptions is known
pub assumptions-known : (theory : Theory) (goal : Goal) → IsKnownGoal theory goal → (x : Nameless) → IsMember x (map image goal.assumptions) → IsKnown theory x bool_type
assumptions-known theory goal known x member =
    let found = of_map image x goal.assumptions member in
    subst (λ (t : Nameless). IsKnown theory t bool_type) (sym found.2) (known.assumptions found.0 found.1)

pub known-from : (theory : Theory) (assumptions : List NamedTerm) (more : List Conclusion) (target : Conclusion) → ((x : Nameless) → IsMember x (map image assumptions)
    → IsKnown theory x bool_type)
    → ((x : Nameless) → IsMember x (map conclusion_image more) → IsKnown theory x bool_type) → IsKnown theory (conclusion_image target) bool_type
    → IsKnownStated theory (from_assumptions assumptions more target)
known-from theory assumptions more target own others known = record {
  assumptions = λ x member. go x (of_append x (map image assumptions) (map conclusion_image more) (subst (IsMember x) (named-images assumptions more) member));
  target = known;
}
  where
    go : (x : Nameless) → IsMember x (map image assumptions) ⊎ IsMember x (map conclusion_image more) → IsKnown theory x bool_type
    go x (inl member) = own x member
    go x (inr member) = others x member

pub known-none : (theory : Theory) (x : Nameless) → IsMember x [] → IsKnown theory x bool_type
known-none theory x member = absurd member

pub known-one : (theory : Theory) (t : Nameless) → IsKnown theory t bool_type → (x : Nameless) → IsMember x (t ∷ []) → IsKnown theory x bool_type
known-one theory t known x (inl same) = subst (λ (y : Nameless). IsKnown theory y bool_type) (sym same) known
known-one theory t known x (inr member) = absurd member

-- ---- stated steps

pub record IsGoodStated (theory : Theory) (store : Store) (goal : Goal) (stated : StatedStep) : Type 0 where
  pub proves : (sequents : List Sequent) → MeetEach stated.goals sequents
      → Proves (map image goal.assumptions) (image goal.target) (sequent_of theory (sequents_in store) sequents stated.justification)
  pub known : AreKnownStated theory stated.goals

pub good-step : (theory : Theory) (store : Store) (goal : Goal) (stated : StatedStep) (step : Step) → IsGoodStated theory store goal stated → IsStep stated step
    → IsGoodStep theory store goal step
good-step theory store goal stated step good is = record {
  valid = λ sequents each. subst (λ (j : Justification). GivesAchieving goal (sequent_of theory (sequents_in store) sequents j)) (sym is.justification)
      (achieves (sequent_of theory (sequents_in store) sequents stated.justification) (good.proves sequents (meet-each stated.goals step.goals sequents is.goals each)));
  known = known-goals theory stated.goals step.goals is.goals good.known;
}
  where
    achieves : (answer : Option Sequent) → Proves (map image goal.assumptions) (image goal.target) answer → GivesAchieving goal answer
    achieves answer p = record { sequent = p.sequent; is_given = p.is_given; achieves = record { same_conclusion = p.same_conclusion; assumed = p.included } }

-- an outcome that is a good step or a refusal
abbrev pub IsGoodOutcome : Theory → Store → Goal → Result StatedStep Fault → Type 0
IsGoodOutcome theory store goal (Ok stated) = IsGoodStated theory store goal stated
IsGoodOutcome theory store goal (Err fault) = Unit {0}

module _ (theory : Theory) (store : Store) (goal : Goal) where
  pub good-unless : (test : Bool) (fault : Fault) (next : Result StatedStep Fault) → (test ≡ true → IsGoodOutcome theory store goal next)
      → IsGoodOutcome theory store goal (unless test fault next)
  good-unless true fault next good = good refl
  good-unless false fault next good = tt

  pub good-given : {A : Type 0} (found : Option A) (fault : Fault) (next : A → Result StatedStep Fault) → ((x : A) → found ≡ Some x
      → IsGoodOutcome theory store goal (next x)) → IsGoodOutcome theory store goal (given found fault next)
  good-given None fault next good = tt
  good-given (Some x) fault next good = good x refl

-- ---- what is assumed

pub assumed-included : (terms : List NamedTerm) (goal : Goal) → are_assumed terms goal ≡ true → Includes (map image terms) (map image goal.assumptions)
assumed-included terms goal test x member =
    let found = of_map image x terms member in
    subst (λ (y : Nameless). IsMember y (map image goal.assumptions)) (sym found.2)
    (is_among-member (image found.0) (map image goal.assumptions) (list_all-member (λ term. is_among (image term) (map image goal.assumptions)) found.0 terms test found.1))
