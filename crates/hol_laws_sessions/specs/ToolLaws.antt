-- That refiners answer valid steps in a session, and what an expansion spends.
use Rattle.std.specs.Prelude.{ℕ, ◌<◌, Option, Ok}
use Rattle.hol_model.specs.Logic.Theory.{Theory}
use Rattle.hol_model.specs.Refining.HostFunctions.{Host}
use Rattle.hol_model.specs.Refining.Combinators.{Tactic, Stage, at, IsLater}
use Rattle.hol_model.specs.Goals.GoalStates.{Proof, Expansion}
use Rattle.hol_model.specs.Goals.Replays.{IsStoreOver}
use Rattle.hol_laws_sessions.specs.ReadTerms.{IsScopeOver}
use Rattle.hol_model_sessions.specs.ScriptSessions.{State, scope_in, store_in}
use Rattle.hol_laws_sessions.specs.ValidSessions.{RefinesValidly}
use Rattle.hol_model_sessions.specs.SessionTools.{over_lemmas, IsStackExpansion, tools}
use Rattle.hol_model.specs.Refining.RefinerConditions.{HasLogic}

-- over a legal theory with the logical definitions, where stored theorems and lemmas are proved and declared variables have
-- known types, whatever a host's functions answer
abbrev pub ToolsRefineValidly : Host → Type 0
ToolsRefineValidly host =
    (steps : ℕ) (state : State) → HasLogic state.library.theory → IsStoreOver state.library.theory (store_in state)
    → IsScopeOver state.library.theory (scope_in state) → RefinesValidly (tools host steps) state

-- an expansion has cost a step, and leaves further lemmas alone
pub record ExpansionSpends (host : Host) (theory : Theory) (before : Stage) (tactic : Tactic) (found : Option Proof) (expansion : Expansion) : Type 0 where
  pub later : IsLater theory before (at (over_lemmas before.store expansion.lemmas) expansion.left)
  pub costs : expansion.left < before.steps

abbrev pub ExpansionsSpend : Host → Type 0
ExpansionsSpend host =
    (theory : Theory) (before : Stage) (tactic : Tactic) (found : Option Proof) (expansion : Expansion)
    → IsStackExpansion theory host before tactic found (Ok expansion) → ExpansionSpends host theory before tactic found expansion
