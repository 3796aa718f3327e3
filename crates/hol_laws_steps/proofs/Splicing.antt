-- The sequent of a spliced justification, and splicing valid steps.
use Rattle.std.proofs.Common.{◌≡◌, ℕ, zero, suc, ◌+◌, List, [], ◌∷◌, ◌++◌, length, map, refl, sym, ◌∙◌, ap, subst, Option, Some, arith}
use Rattle.std.specs.Prelude.{slice_get}
use Rattle.hol_model.specs.Logic.Theory.{Theory}
use Rattle.hol_model.specs.Goals.Goals.{Sequent}
use Rattle.hol_model.specs.Goals.Strength.{AnswersAsStrong}
use Rattle.hol_model.specs.Derived.Inference.{given, rule_sequent}
use Rattle.hol_model.specs.Goals.Justifications.{Justification, sub, named, lemma, by_rule, Parts, no_parts, part, NamedSequents, Subgoals, joined, sequent_over, sequents_over, sequent_of}
use Rattle.hol_model.specs.Goals.Goals.{Goal, AchieveEach, GivesAchieving}
use Rattle.hol_model.specs.Goals.ValidSteps.{Step, AreValid}
use Rattle.hol_model.specs.Goals.Splicing.{replace_subs, replace_subs_in_parts, shift_subs, numbered_portion, portion_of, goals_of_steps}
use Rattle.hol_model.specs.Goals.JustificationLaws.{SpliceHasSequent, SplicesValid}
use Rattle.hol_laws_steps.proofs.FewerHypotheses.{sequent_over-stronger, IsAsStrong-self}
use Rattle.hol_laws_steps.proofs.Validity.{as_strong-achieves}

mutual
  pub replace_subs-sequent : (theory : Theory) (store : NamedSequents) (subgoals : Subgoals) (new : ℕ → Justification) (justification : Justification)
      → sequent_over theory store subgoals (replace_subs new justification) ≡ sequent_over theory store (λ i. sequent_over theory store subgoals (new i)) justification
  replace_subs-sequent theory store subgoals new (sub i) = refl
  replace_subs-sequent theory store subgoals new (named name) = refl
  replace_subs-sequent theory store subgoals new (lemma k) = refl
  replace_subs-sequent theory store subgoals new (by_rule rule parts) =
      ap (λ premises. given premises (rule_sequent theory rule)) (replace_subs-sequents theory store subgoals new parts)

  replace_subs-sequents : (theory : Theory) (store : NamedSequents) (subgoals : Subgoals) (new : ℕ → Justification) (parts : Parts)
      → sequents_over theory store subgoals (replace_subs_in_parts new parts) ≡ sequents_over theory store (λ i. sequent_over theory store subgoals (new i)) parts
  replace_subs-sequents theory store subgoals new no_parts = refl
  replace_subs-sequents theory store subgoals new (part first rest) =
      λ i. joined (replace_subs-sequent theory store subgoals new first i) (replace_subs-sequents theory store subgoals new rest i)

pub splice-has-sequent : SpliceHasSequent
splice-has-sequent theory store subgoals justification portions = replace_subs-sequent theory store subgoals (numbered_portion 0 portions) justification

-- sequents that achieve two lists of goals one after the other

record AchieveBoth (sequents : List Sequent) (first_goals last_goals : List Goal) : Type 0 where
  firsts : List Sequent
  lasts : List Sequent
  are_joined : sequents ≡ firsts ++ lasts
  same_length : length firsts ≡ length first_goals
  achieve_first : AchieveEach first_goals firsts
  achieve_last : AchieveEach last_goals lasts

AchieveEach-split : (sequents : List Sequent) (first_goals last_goals : List Goal) → AchieveEach (first_goals ++ last_goals) sequents → AchieveBoth sequents first_goals last_goals
AchieveEach-split sequents [] last_goals each = record { firsts = []; lasts = sequents; are_joined = refl; same_length = refl; achieve_first = tt; achieve_last = each }
AchieveEach-split [] (goal ∷ first_goals) last_goals each = absurd each
AchieveEach-split (sequent ∷ sequents) (goal ∷ first_goals) last_goals each =
    let deeper = AchieveEach-split sequents first_goals last_goals each.1 in
    record {
      firsts = sequent ∷ deeper.firsts;
      lasts = deeper.lasts;
      are_joined = ap (λ rest. sequent ∷ rest) deeper.are_joined;
      same_length = ap suc deeper.same_length;
      achieve_first = (each.0, deeper.achieve_first);
      achieve_last = deeper.achieve_last;
    }

-- places in joined lists

slice_get-longer : (firsts lasts : List Sequent) (i : ℕ) → AnswersAsStrong (slice_get (firsts ++ lasts) i) (slice_get firsts i)
slice_get-longer [] lasts i = tt
slice_get-longer (sequent ∷ firsts) lasts zero = IsAsStrong-self sequent
slice_get-longer (sequent ∷ firsts) lasts (suc i) = slice_get-longer firsts lasts i

slice_get-later : (firsts lasts : List Sequent) (i : ℕ) → slice_get (firsts ++ lasts) (length firsts + i) ≡ slice_get lasts i
slice_get-later [] lasts i = ap (slice_get lasts) (omega arith)
slice_get-later (sequent ∷ firsts) lasts i =
    let next : length (sequent ∷ firsts) + i ≡ suc (length firsts + i) = omega arith in
    rw next (slice_get-later firsts lasts i)

-- the sequents that the steps make of those of their subgoals
record AchievedBetween (theory : Theory) (store : NamedSequents) (before : ℕ) (sequents : List Sequent) (steps : List Step) (goals : List Goal) : Type 0 where
  middle : List Sequent
  achieve : AchieveEach goals middle
  answered : (i : ℕ) → AnswersAsStrong (sequent_over theory store (slice_get sequents) (numbered_portion before (map portion_of steps) i)) (slice_get middle i)

achieved_between : (theory : Theory) (store : NamedSequents) (steps : List Step) (goals : List Goal) → AreValid theory store goals steps
    → (before : ℕ) (sequents later : List Sequent) → ((i : ℕ) → slice_get sequents (before + i) ≡ slice_get later i)
    → AchieveEach (goals_of_steps steps) later → AchievedBetween theory store before sequents steps goals
achieved_between theory store [] [] valid before sequents later there each = record { middle = []; achieve = tt; answered = λ i. tt }
achieved_between theory store [] (goal ∷ goals) valid before sequents later there each = absurd valid
achieved_between theory store (first ∷ steps) [] valid before sequents later there each = absurd valid
achieved_between theory store (first ∷ steps) (goal ∷ goals) valid before sequents later there each =
    let parts = AchieveEach-split later first.goals (goals_of_steps steps) each in
    let here : (i : ℕ) → slice_get sequents (before + i) ≡ slice_get (parts.firsts ++ parts.lasts) i = λ i. there i ∙ ap (λ l. slice_get l i) parts.are_joined in
    let own = valid.0 parts.firsts parts.achieve_first in
    let rest = achieved_between theory store steps goals valid.1 (before + length first.goals) sequents parts.lasts
    (later_places parts.firsts parts.lasts (length first.goals) here parts.same_length) parts.achieve_last in
    record {
      middle = own.sequent ∷ rest.middle;
      achieve = (own.achieves, rest.achieve);
      answered = each_answered own.sequent rest.middle
          (subst (λ (answer : Option Sequent). AnswersAsStrong (sequent_over theory store (slice_get sequents) (shift_subs before first.justification)) answer) own.is_given
          (shifted parts.firsts parts.lasts here))
          rest.answered;
    }
  where
    later_places : (firsts lasts : List Sequent) (many : ℕ) → ((i : ℕ) → slice_get sequents (before + i) ≡ slice_get (firsts ++ lasts) i) → length firsts ≡ many
        → (i : ℕ) → slice_get sequents (before + many + i) ≡ slice_get lasts i
    later_places firsts lasts many here same i =
        let place : before + many + i ≡ before + (length firsts + i) = omega (arith, same) in
        ap (slice_get sequents) place ∙ here (length firsts + i) ∙ slice_get-later firsts lasts i

    shifted : (firsts lasts : List Sequent) → ((i : ℕ) → slice_get sequents (before + i) ≡ slice_get (firsts ++ lasts) i)
        → AnswersAsStrong (sequent_over theory store (slice_get sequents) (shift_subs before first.justification)) (sequent_of theory store firsts first.justification)
    shifted firsts lasts here =
        subst (λ (answer : Option Sequent). AnswersAsStrong answer (sequent_of theory store firsts first.justification))
        (sym (replace_subs-sequent theory store (slice_get sequents) (λ i. sub (before + i)) first.justification))
        (sequent_over-stronger theory store (λ i. slice_get sequents (before + i)) (slice_get firsts)
        (λ i. subst (λ (answer : Option Sequent). AnswersAsStrong answer (slice_get firsts i)) (sym (here i)) (slice_get-longer firsts lasts i))
        first.justification)

    each_answered : (sequent : Sequent) (middle : List Sequent)
        → AnswersAsStrong (sequent_over theory store (slice_get sequents) (shift_subs before first.justification)) (Some sequent)
        → ((i : ℕ) → AnswersAsStrong (sequent_over theory store (slice_get sequents) (numbered_portion (before + length first.goals) (map portion_of steps) i)) (slice_get middle i))
        → (i : ℕ) → AnswersAsStrong (sequent_over theory store (slice_get sequents) (numbered_portion before (map portion_of (first ∷ steps)) i)) (slice_get (sequent ∷ middle) i)
    each_answered sequent middle at_first at_rest zero = at_first
    each_answered sequent middle at_first at_rest (suc i) = at_rest i

pub splices-valid : SplicesValid
splices-valid theory store goal step steps valid are_valid sequents each =
    let between = achieved_between theory store steps step.goals are_valid 0 sequents sequents (λ i. ap (slice_get sequents) (omega arith)) each in
    let parts : ℕ → Option Sequent = λ i. sequent_over theory store (slice_get sequents) (numbered_portion 0 (map portion_of steps) i) in
    subst (λ (answer : Option Sequent). GivesAchieving goal answer) (sym (splice-has-sequent theory store (slice_get sequents) step.justification (map portion_of steps)))
    (as_strong-achieves goal (sequent_over theory store parts step.justification) (sequent_of theory store between.middle step.justification)
    (sequent_over-stronger theory store parts (slice_get between.middle) between.answered step.justification)
    (valid between.middle between.achieve))
