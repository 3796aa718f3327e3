-- The statements of the laws on small terms.
use Rattle.std.specs.Prelude.{◌≡◌, ℕ, true, Option, Err}
use Rattle.hol_model.specs.declared.fault.Fault.TheVariants.{TooLarge}
use Rattle.hol_model.specs.Terms.NamedTerm.{NamedTerm}
use Rattle.hol_model.specs.Logic.Theory.{Theory}
use Rattle.hol_model.specs.Terms.Nameless.{image}
use Rattle.hol_model.specs.Rewrites.SmallTerms.{is_small}
use Rattle.hol_model.specs.Goals.Goals.{Goal}
use Rattle.hol_model.specs.Goals.GoalStates.{Proof, set_outcome, back_outcome, rotate_outcome, top_outcome}
use Rattle.hol_model_sessions.specs.SessionTools.{IsStackExpansion}
use Rattle.hol_model.specs.Goals.Replays.{Store, IsStoreOver}
use Rattle.hol_model.specs.Refining.HostFunctions.{Host, HostConversions}
use Rattle.hol_model.specs.Refining.Conversions.{Conversion, Converts}
use Rattle.hol_model.specs.Refining.RefinerConditions.{HasLogic}
use Rattle.hol_model.specs.Refining.Combinators.{Tactic, Stage, Runs}
use Rattle.hol_laws_refusals.specs.KnownRules.{HasKnownRules, TacticHasKnownRules}
use Rattle.hol_laws_refusals.specs.SmallConversions.{StaysSmall}
use Rattle.hol_laws_refusals.specs.SmallRefiners.{RunsSmall}
use Rattle.hol_laws_refusals.specs.SmallGoals.{ExpandsSmall}

-- a conversion that meets what is small alone is not refused as too large
abbrev pub SmallConversionsFit : HostConversions → Type 0
SmallConversionsFit hosts =
    (theory : Theory) (store : Store) (depth steps left : ℕ) (c : Conversion) (t : NamedTerm) → HasLogic theory → IsStoreOver theory store → HasKnownRules theory c
    → (r : Converts theory store hosts depth steps c t (Err TooLarge) left) → StaysSmall theory store hosts r → ⊥

-- nor is such a refiner expression
abbrev pub SmallRefinersFit : Host → Type 0
SmallRefinersFit host =
    (theory : Theory) (before after : Stage) (t : Tactic) (goal : Goal) → HasLogic theory → IsStoreOver theory before.store → TacticHasKnownRules theory t
    → (r : Runs theory host before t goal (Err TooLarge) after) → RunsSmall theory host r → ⊥

-- of the commands on goals, `set` of a small term is not refused as too large, nor `e` where it meets what is small alone, and
-- the others never
pub record SmallGoalsFit (host : Host) : Type 0 where
  pub set : (theory : Theory) (term : NamedTerm) → is_small (image term) ≡ true → set_outcome theory term ≡ Err TooLarge → ⊥
  pub back : (found : Option Proof) → back_outcome found ≡ Err TooLarge → ⊥
  pub rotate : (found : Option Proof) (n : ℕ) → rotate_outcome found n ≡ Err TooLarge → ⊥
  pub top : (found : Option Proof) → top_outcome found ≡ Err TooLarge → ⊥
  pub expand : (theory : Theory) (before : Stage) (t : Tactic) (found : Option Proof) → HasLogic theory → IsStoreOver theory before.store → TacticHasKnownRules theory t
      → (expansion : IsStackExpansion theory host before t found (Err TooLarge)) → ExpandsSmall theory host before t found expansion → ⊥
