-- The statements of the laws on refusals.
use Rattle.std.specs.Prelude.{ℕ, Err}
use Rattle.hol_model.specs.declared.fault.Fault.{Fault}
use Rattle.hol_model.specs.Terms.HolType.{HolType}
use Rattle.hol_model.specs.Terms.NamedTerm.{NamedTerm}
use Rattle.hol_model.specs.Terms.Nameless.{image}
use Rattle.hol_model.specs.Logic.Theory.{Theory, IsKnown}
use Rattle.hol_model.specs.Goals.Goals.{Goal}
use Rattle.hol_model.specs.Goals.Replays.{Store, IsStoreOver, IsKnownGoal}
use Rattle.hol_model.specs.Refining.HostFunctions.{Host, HostConversions}
use Rattle.hol_model.specs.Refining.Conversions.{Conversion, Converts, top_depth_conv}
use Rattle.hol_model.specs.Refining.RefinerConditions.{HasLogic, HasKnownWitnesses}
use Rattle.hol_model.specs.Refining.Combinators.{Tactic, Stage, Runs}
use Rattle.hol_tactic_exprs.specs.declared.conv.Conv.{Conv}
use Rattle.hol_tactic_exprs.specs.declared.tac.Tac.{Tac}
use Rattle.hol_tactic_exprs.specs.Expressions.{conversion_of, tactic_of}
use Rattle.hol_laws_refusals.specs.Faults.{IsUncaughtFault, IsConversionFault, IsRefinerFault}
use Rattle.hol_laws_refusals.specs.KnownRules.{HasKnownRules, TacticHasKnownRules}

-- what a conversion on a known term is refused for is one of its refusals, whatever a host's conversions answer
abbrev pub ConversionsRefuse : HostConversions → Type 0
ConversionsRefuse hosts =
    (theory : Theory) (store : Store) (depth steps left : ℕ) (c : Conversion) (t : NamedTerm) (ty : HolType) (fault : Fault)
    → HasLogic theory → IsStoreOver theory store → HasKnownRules theory c → IsKnown theory (image t) ty
    → Converts theory store hosts depth steps c t (Err fault) left → IsConversionFault fault

-- TOP_DEPTH_CONV, and with it rewriting, is refused for those alone that no expression catches
abbrev pub RewritingRefuses : HostConversions → Type 0
RewritingRefuses hosts =
    (theory : Theory) (store : Store) (depth steps left : ℕ) (c : Conversion) (t : NamedTerm) (ty : HolType) (fault : Fault)
    → HasLogic theory → IsStoreOver theory store → HasKnownRules theory c → IsKnown theory (image t) ty
    → Converts theory store hosts depth steps (top_depth_conv c) t (Err fault) left → IsUncaughtFault fault

-- what a refiner expression for a known goal is refused for is one of its refusals, whatever a host's functions answer
abbrev pub RefinersRefuse : Host → Type 0
RefinersRefuse host =
    (theory : Theory) (before after : Stage) (t : Tactic) (goal : Goal) (fault : Fault)
    → HasLogic theory → IsStoreOver theory before.store → HasKnownWitnesses theory t → TacticHasKnownRules theory t → IsKnownGoal theory goal
    → Runs theory host before t goal (Err fault) after → IsRefinerFault fault

-- the expressions of the program have no rules of their own, so that nothing is asked of them
pub record ExpressionsHaveKnownRules : Type 0 where
  pub conversions : (theory : Theory) (c : Conv) → HasKnownRules theory (conversion_of c)
  pub refiners : (theory : Theory) (t : Tac NamedTerm) → TacticHasKnownRules theory (tactic_of t)
