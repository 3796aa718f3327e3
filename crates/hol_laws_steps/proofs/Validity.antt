-- A step that passes both replays is valid.
use Rattle.std.proofs.Common.{◌≡◌, List, [], ◌∷◌, map, inl, inr, refl, sym, ◌∙◌, subst, Option, Some, None}
use Rattle.hol_model.specs.Terms.Nameless.{Nameless, image}
use Rattle.hol_model.specs.Logic.Derivable.{IsMember}
use Rattle.hol_model.specs.Logic.Logic.{false_term}
use Rattle.hol_model.specs.Goals.Goals.{Sequent, Goal, AchieveEach, GivesAchieving}
use Rattle.hol_model.specs.Goals.Strength.{IsAsStrong, AreAsStrong, AnswersAsStrong}
use Rattle.hol_model.specs.Goals.Justifications.{sequent_of}
use Rattle.hol_model.specs.Goals.ValidSteps.{supposed, false_twice, AchievesUnder}
use Rattle.hol_model.specs.Goals.JustificationLaws.{ReplaysShowValid}
use Rattle.hol_laws_steps.proofs.FewerHypotheses.{justifications-monotone}

-- what achieves a goal is as strong as the goal's sequent under one more hypothesis
supposed-weaker : (extra : Nameless) (goals : List Goal) (sequents : List Sequent) → AchieveEach goals sequents → AreAsStrong sequents (map (supposed extra) goals)
supposed-weaker extra [] [] each = tt
supposed-weaker extra [] (sequent ∷ sequents) each = absurd each
supposed-weaker extra (goal ∷ goals) [] each = absurd each
supposed-weaker extra (goal ∷ goals) (sequent ∷ sequents) each =
    (record { same_conclusion = each.0.same_conclusion; no_more_hypotheses = λ x member. inr (each.0.assumed x member) }, supposed-weaker extra goals sequents each.1)

-- a sequent as strong as one that achieves a goal achieves it
pub as_strong-achieves : (goal : Goal) (strong weak : Option Sequent) → AnswersAsStrong strong weak → GivesAchieving goal weak → GivesAchieving goal strong
as_strong-achieves goal strong None stronger gives = cc (gives.is_given)
as_strong-achieves goal None (Some w) stronger gives = absurd stronger
as_strong-achieves goal (Some s) (Some w) stronger gives =
    let same : w ≡ gives.sequent = cc (gives.is_given) in
    let as_given : IsAsStrong s gives.sequent = subst (λ (x : Sequent). IsAsStrong s x) same stronger in
    record {
      sequent = s;
      is_given = refl;
      achieves = record {
        same_conclusion = as_given.same_conclusion ∙ gives.achieves.same_conclusion;
        assumed = λ x member. gives.achieves.assumed x (as_given.no_more_hypotheses x member);
      };
    }

-- F is not F /\ F
false_differs : false_term ≡ false_twice → ⊥
false_differs same = cc

-- what both allow is among the assumptions
allowed_by_both : (x : Nameless) (assumptions : List Nameless) → IsMember x (false_term ∷ assumptions) → IsMember x (false_twice ∷ assumptions) → IsMember x assumptions
allowed_by_both x assumptions (inr member) second = member
allowed_by_both x assumptions (inl first) (inr member) = member
allowed_by_both x assumptions (inl first) (inl second) = absurd (false_differs (sym first ∙ second))

-- the answer is there and as strong as one that achieves the goal under a hypothesis
record IsUnder (extra : Nameless) (goal : Goal) (answer : Option Sequent) : Type 0 where
  sequent : Sequent
  is_given : answer ≡ Some sequent
  achieves : AchievesUnder extra goal sequent

as_strong-under : (extra : Nameless) (goal : Goal) (weak : Sequent) → AchievesUnder extra goal weak → (answer : Option Sequent) → AnswersAsStrong answer (Some weak) → IsUnder extra goal answer
as_strong-under extra goal weak achieves None stronger = absurd stronger
as_strong-under extra goal weak achieves (Some s) stronger =
    record {
      sequent = s;
      is_given = refl;
      achieves = record {
        same_conclusion = stronger.same_conclusion ∙ achieves.same_conclusion;
        assumed = λ x member. achieves.assumed x (stronger.no_more_hypotheses x member);
      };
    }

achieves_by_both : (goal : Goal) (answer : Option Sequent) → IsUnder false_term goal answer → IsUnder false_twice goal answer → GivesAchieving goal answer
achieves_by_both goal answer once twice =
    let same : twice.sequent ≡ once.sequent = cc (once.is_given, twice.is_given) in
    let second : AchievesUnder false_twice goal once.sequent = subst (λ (x : Sequent). AchievesUnder false_twice goal x) same twice.achieves in
    record {
      sequent = once.sequent;
      is_given = once.is_given;
      achieves = record {
        same_conclusion = once.achieves.same_conclusion;
        assumed = λ x member. allowed_by_both x (map image goal.assumptions) (once.achieves.assumed x member) (second.assumed x member);
      };
    }

pub replays-show-valid : ReplaysShowValid
replays-show-valid theory store goal step passes sequents each =
    achieves_by_both goal (sequent_of theory store sequents step.justification)
    (as_strong-under false_term goal passes.once.sequent passes.once.achieves (sequent_of theory store sequents step.justification)
    (subst (λ (answer : Option Sequent). AnswersAsStrong (sequent_of theory store sequents step.justification) answer) passes.once.is_made
    (justifications-monotone theory store sequents (map (supposed false_term) step.goals) (supposed-weaker false_term step.goals sequents each) step.justification)))
    (as_strong-under false_twice goal passes.twice.sequent passes.twice.achieves (sequent_of theory store sequents step.justification)
    (subst (λ (answer : Option Sequent). AnswersAsStrong (sequent_of theory store sequents step.justification) answer) passes.twice.is_made
    (justifications-monotone theory store sequents (map (supposed false_twice) step.goals) (supposed-weaker false_twice step.goals sequents each) step.justification)))
