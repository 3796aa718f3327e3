-- How far a run has come.
use Rattle.std.specs.Prelude.{◌≡◌, ℕ, List, ◌++◌, Err}
use Rattle.hol_model.specs.declared.fault.Fault.TheVariants.{Syntax}
use Rattle.hol_model_sessions.specs.Script.{Cuts, requested}
use Rattle.hol_model_sessions.specs.Replies.{refusal_of}
use Rattle.hol_model_sessions.specs.ScriptSessions.{State, start, Tools, Turn, Session, last_state}
use Rattle.hol_model_sessions.specs.Runs.{IsRun}

-- After these turns what is left of a script decides the run: whatever the turns of its session are, all are those of a run.
pub record SoFar (tools : Tools) (script : List ℕ) (state : State) (line : ℕ) (left : List ℕ) (turns : List Turn) : Type 0 where
  pub decides : (pieces : List (List ℕ)) (last : List ℕ) → Cuts left pieces last → (more : List Turn)
      → Session tools state (requested line pieces last) more → IsRun tools script (turns ++ more)
  pub ends : last_state start turns ≡ state

-- the turn of a text behind the last `;;`
abbrev pub unfinished : State → ℕ → Turn
unfinished state line = record { line = line; reply = Err (refusal_of Syntax); after = state }

-- the turns are the first of a run
pub record BeginsRun (tools : Tools) (script : List ℕ) (turns : List Turn) : Type 0 where
  pub more : List Turn
  pub is_run : IsRun tools script (turns ++ more)
