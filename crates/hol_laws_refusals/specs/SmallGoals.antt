-- Derivations of what `e` answers in which all that is met is small: what the refiner meets where it is refused, and else the goal
-- that was set. The limit on the depth of a justification is not passed, and the whole justification, once no goal is left, leaves
-- room.
use Rattle.std.specs.Prelude.{◌≡◌, [], true, Option, Result}
use Rattle.hol_model.specs.declared.fault.Fault.{Fault}
use Rattle.hol_model.specs.Terms.Nameless.{image}
use Rattle.hol_model.specs.Logic.Theory.{Theory}
use Rattle.hol_model.specs.Kernel.Answers.{goes_on, stops}
use Rattle.hol_model.specs.Rewrites.SmallTerms.{is_small}
use Rattle.hol_model.specs.Goals.ValidSteps.{Step}
use Rattle.hol_model.specs.Goals.Replays.{Store, sequents_in, has_room, is_within_depth}
use Rattle.hol_model.specs.Goals.GoalStates.{Proof, Focus, Expansion, expanded}
use Rattle.hol_model.specs.Refining.HostFunctions.{Host}
use Rattle.hol_model.specs.Refining.Combinators.{Tactic, Stage}
use Rattle.hol_model_sessions.specs.SessionTools.{over_lemmas, IsStackExpansion}
use Rattle.hol_laws_refusals.specs.SmallRefiners.{RunsSmall}

-- the goal that was set is small, and the justification of its proof with the refinement in it is not too deep, and leaves room where
-- no goal is left
pub record EndsSmall (theory : Theory) (store : Store) (focus : Focus) (refinement : Step) : Type 0 where
  pub target : is_small (image focus.proof.goal.target) ≡ true
  pub depth : is_within_depth (expanded focus refinement).justification ≡ true
  pub room : (expanded focus refinement).goals ≡ [] → has_room theory (sequents_in store) [] (expanded focus refinement).justification ≡ true

-- what is met is small
abbrev pub ExpandsSmall : (theory : Theory) (host : Host) (before : Stage) (t : Tactic) (found : Option Proof) {answer : Result Expansion Fault}
    → IsStackExpansion theory host before t found answer → Type 0
-- no goal is open
ExpandsSmall theory host before t found (stops fault is same) = Unit {0}
-- the refiner is refused
ExpandsSmall theory host before t found (goes_on focus is (stops fault refused same)) = RunsSmall theory host refused.1
ExpandsSmall theory host before t found (goes_on focus is (goes_on refinement runs next)) = EndsSmall theory (over_lemmas before.store refinement.lemmas) focus refinement.step
