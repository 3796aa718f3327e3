-- The statements of the laws on runs: how a run begins, goes on and ends.
use Rattle.std.specs.Prelude.{◌≡◌, ℕ, ◌+◌, true, false, List, [], ◌∷◌, ◌++◌, Some}
use Rattle.hol_model_sessions.specs.Script.{has_mark, IsCut, line_feeds, leading_line_feeds, is_blank_text}
use Rattle.hol_model_sessions.specs.ScriptSessions.{State, start, Tools, Turn, Takes, last_state, text_of_turns, theorems_in_turns}
use Rattle.hol_model_sessions.specs.Runs.{Counts, counting, counts_after, claims_of_turns, IsRun}
use Rattle.hol_model_sessions.specs.Running.{SoFar, unfinished, BeginsRun}

abbrev pub RunsBegin : Tools → Type 0
RunsBegin tools = (script : List ℕ) → SoFar tools script start 1 script []

-- a blank piece asks for nothing
abbrev pub BlanksPass : Tools → Type 0
BlanksPass tools =
    (script : List ℕ) (state : State) (line : ℕ) (left piece behind : List ℕ) (turns : List Turn) → SoFar tools script state line left turns
    → IsCut left piece behind → is_blank_text piece ≡ true → SoFar tools script state (line + line_feeds piece) behind turns

-- another piece is a request in the line of its first byte that is not white space
abbrev pub TurnsPass : Tools → Type 0
TurnsPass tools =
    (script : List ℕ) (state : State) (line : ℕ) (left piece behind : List ℕ) (turns : List Turn) (turn : Turn) → SoFar tools script state line left turns
    → IsCut left piece behind → is_blank_text piece ≡ false → Takes tools state (record { line = line + leading_line_feeds piece; text = Some piece }) turn
    → SoFar tools script turn.after (line + line_feeds piece) behind (turns ++ turn ∷ [])

-- nothing stands behind the last `;;`
abbrev pub RunsEnd : Tools → Type 0
RunsEnd tools =
    (script : List ℕ) (state : State) (line : ℕ) (left : List ℕ) (turns : List Turn) → SoFar tools script state line left turns
    → has_mark left ≡ false → is_blank_text left ≡ true → IsRun tools script turns

-- a text stands behind it
abbrev pub RunsEndUnfinished : Tools → Type 0
RunsEndUnfinished tools =
    (script : List ℕ) (state : State) (line : ℕ) (left : List ℕ) (turns : List Turn) → SoFar tools script state line left turns
    → has_mark left ≡ false → is_blank_text left ≡ false → IsRun tools script (turns ++ unfinished state (line + leading_line_feeds left) ∷ [])

-- wherever a run stops, its turns are the first of a run
abbrev pub StoppedRunsBegin : Tools → Type 0
StoppedRunsBegin tools =
    (script : List ℕ) (state : State) (line : ℕ) (left : List ℕ) (turns : List Turn) → SoFar tools script state line left turns → BeginsRun tools script turns

-- what is seen of turns is seen of one after another
pub record TurnsAdd : Type 0 where
  pub text : (turns more : List Turn) → text_of_turns (turns ++ more) ≡ text_of_turns turns ++ text_of_turns more
  pub counts : (counts : Counts) (turns : List Turn) (turn : Turn) → counts_after counts (turns ++ turn ∷ []) ≡ counting (counts_after counts turns) turn.reply
  pub theorems : (turns more : List Turn) → theorems_in_turns (turns ++ more) ≡ theorems_in_turns turns ++ theorems_in_turns more
  pub claims : (turns more : List Turn) → claims_of_turns (turns ++ more) ≡ claims_of_turns turns ++ claims_of_turns more
  pub last : (state : State) (turns : List Turn) (turn : Turn) → last_state state (turns ++ turn ∷ []) ≡ turn.after
