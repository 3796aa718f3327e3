-- Valid steps whose subgoals are known.
use Rattle.hol_model.specs.Logic.Theory.{Theory}
use Rattle.hol_model.specs.Goals.Goals.{Goal}
use Rattle.hol_model.specs.Goals.ValidSteps.{Step, IsValid}
use Rattle.hol_model.specs.Goals.Replays.{Store, sequents_in, AreKnownGoals}

-- whatever achieves the subgoals, of which each term is known, makes what achieves the goal
pub record IsGoodStep (theory : Theory) (store : Store) (goal : Goal) (step : Step) : Type 0 where
  pub valid : IsValid theory (sequents_in store) goal step
  pub known : AreKnownGoals theory step.goals
