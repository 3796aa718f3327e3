-- A run's output is told piece by piece.
use Rattle.std.proofs.Common.{List, ℕ, [], refl, sym, ◌∙◌, append-nil, Option, None, Some}
use Rattle.std.proofs.KnownBytes.{Appends-nil}
use Rattle.hol_model.specs.Texts.KnownText.{Tells}
use Rattle.hol_model_sessions.specs.ScriptSessions.{State, start, Tools, text_of_turns}
use Rattle.hol_model_sessions.specs.Runs.{Counts}
use Rattle.hol_model_sessions.specs.Walking.{TellsWalk}
use Rattle.hol_syntax_print.proofs.SequentTexts.{sequents_read_back}
use Rattle.hol_syntax_print.proofs.OneLine.{sequent_one_line, sequent_same, goal_one_line, goal_same}
use Rattle.hol_laws_sessions.specs.HeadlineLaws.{TextsArePrinted}
use Rattle.hol_laws_sessions.proofs.RunProgress.{begins, stopped-begins}
use Rattle.hol_laws_sessions.proofs.WalkedRuns.{runs-walked}
use Rattle.hol_script.specs.Runs.{Finishes, Breaks, TellsFront}

texts_are_printed : TextsArePrinted
texts_are_printed = record {
  read_back = sequents_read_back;
  are_lines = sequent_one_line;
  ignore_variables = sequent_same;
  goals_are_lines = goal_one_line;
  goals_ignore_variables = goal_same;
}

-- a whole run is a front of itself
pub front_told : {input written now : Option (List ℕ)} → TellsWalk input written now [] → TellsFront input written now
front_told lines = ([], lines)

module _ (tools : Tools) where
  -- a whole run
  pub finishes_told : {input written now : Option (List ℕ)} {counts : Counts} {names : List (List ℕ)} {state : State} (script : List ℕ) → Tells input script
      → Finishes tools script written now counts names state → TellsWalk input written now []
  finishes_told script read f =
      let text = runs-walked tools texts_are_printed script f.turns f.is_run in
      record {
        script = script;
        pieces = f.is_run.pieces;
        last = f.is_run.last;
        lines = text.lines;
        front = text_of_turns f.turns;
        read = read;
        cuts = f.is_run.cuts;
        walks = text.walks;
        whole = text.whole ∙ sym (append-nil (text_of_turns f.turns));
        wrote = f.wrote;
      }

  -- a run that broke off
  pub breaks_told : {input written now : Option (List ℕ)} (script : List ℕ) → Tells input script → Breaks tools script written now → TellsFront input written now
  breaks_told script read b =
      let text = runs-walked tools texts_are_printed script b.turns b.is_run in (
        b.wrote.rest,
        record {
          script = script;
          pieces = b.is_run.pieces;
          last = b.is_run.last;
          lines = text.lines;
          front = b.wrote.front;
          read = read;
          cuts = b.is_run.cuts;
          walks = text.walks;
          whole = text.whole ∙ b.wrote.whole;
          wrote = b.wrote.taken;
        },
      )

  -- nothing was written of a script
  pub unwritten : (script : List ℕ) (written : Option (List ℕ)) → Breaks tools script written written
  unwritten script written =
      let all = stopped-begins tools script start 1 script [] (begins tools script) in
      record { turns = all.more; is_run = all.is_run; wrote = record { front = []; rest = text_of_turns all.more; whole = refl; taken = Appends-nil written } }

  -- nothing was read, and nothing written
  pub unread_told : (input written : Option (List ℕ)) → TellsFront input written written
  unread_told None written = breaks_told [] tt (unwritten [] written)
  unread_told (Some script) written = breaks_told script refl (unwritten script written)
