-- The statements of the laws on what the commands of a session are refused for.
use Rattle.std.specs.Prelude.{◌≡◌, ◌⊎◌, ℕ, [], Err}
use Rattle.hol_model.specs.declared.fault.Fault.{Fault}
use Rattle.hol_model.specs.declared.fault.Fault.TheVariants.{NoGoal}
use Rattle.hol_model.specs.Texts.TermGrammar.{TermTree}
use Rattle.hol_model.specs.Texts.Reading.{meaning}
use Rattle.hol_model.specs.Goals.Replays.{IsStoreOver}
use Rattle.hol_model.specs.Refining.HostFunctions.{Host}
use Rattle.hol_model.specs.Refining.RefinerConditions.{HasLogic}
use Rattle.hol_model_sessions.specs.ConversionGrammar.{ConversionUnit}
use Rattle.hol_model_sessions.specs.TacticGrammar.{Tactic, read_tactic}
use Rattle.hol_model_sessions.specs.CommandGrammar.{by_conversion, e_command}
use Rattle.hol_model_sessions.specs.Replies.{Refusal}
use Rattle.hol_model_sessions.specs.ScriptSessions.{State, scope_in, store_in, IsTheoremAnswer, May}
use Rattle.hol_model_sessions.specs.SessionTools.{tools}
use Rattle.hol_laws_sessions.specs.ReadTerms.{IsScopeOver}
use Rattle.hol_laws_sessions.specs.ValidSessions.{HasValidProof}
use Rattle.hol_laws_refusals.specs.Faults.{IsConversionFault, IsRefinerFault}

-- The theory has the logical constants, what is stored is proved over it, texts name what it knows, and the proof under way
-- is sound.
pub record IsSound (state : State) : Type 0 where
  pub logic : HasLogic state.library.theory
  pub proved : IsStoreOver state.library.theory (store_in state)
  pub scope : IsScopeOver state.library.theory (scope_in state)
  pub proof : HasValidProof state

-- the refusals of `e` once its quoted terms are read: no goal is open, and those of a refiner expression
abbrev pub IsExpansionFault : Fault → Type 0
IsExpansionFault NoGoal = Unit {0}
IsExpansionFault fault = IsRefinerFault fault

-- `e` is refused as its first quoted term that is refused, or for one of its own refusals, whatever a host's functions answer
abbrev pub ExpandingRefuses : Host → Type 0
ExpandingRefuses host =
    (steps : ℕ) (state : State) (tree : Tactic TermTree) (refusal : Refusal) → IsSound state → May (tools host steps) state (e_command tree) (Err refusal)
    → (read_tactic (meaning (scope_in state) []) tree ≡ Err refusal.fault) ⊎ IsExpansionFault refusal.fault

-- the theorem of a conversion is refused as its quoted term, or as a conversion
abbrev pub ConvertingRefuses : Host → Type 0
ConvertingRefuses host =
    (steps : ℕ) (state : State) (conversion : ConversionUnit) (tree : TermTree) (refusal : Refusal) → IsSound state
    → IsTheoremAnswer (tools host steps) state (by_conversion conversion tree) (Err refusal)
    → (meaning (scope_in state) [] tree ≡ Err refusal.fault) ⊎ IsConversionFault refusal.fault
