-- The bytes of a whole proof log.
use Rattle.std.specs.Prelude.{ℕ, List, [], ◌∷◌, ◌++◌, map, Option, Some, None}
use Rattle.hol_model.specs.Logs.LogLine.{LogLine}
use Rattle.hol_model.specs.Logs.LogText.{ReadLine, LogText}
use Rattle.hol_logtext.specs.Fields.{split_on, line_feed}
use Rattle.hol_logtext.specs.LineReading.{read_text}
use Rattle.hol_logtext.specs.LineText.{line_bytes}

-- what follows the last line feed
abbrev pub last_part : List ℕ → Option ReadLine
last_part [] = None
last_part (byte ∷ bytes) = Some (read_text (byte ∷ bytes))

abbrev pub with_line : ReadLine → LogText → LogText
with_line line text = record { lines = line ∷ text.lines; rest = text.rest }

-- the parts of a log between its line feeds as lines
abbrev pub lines_of_parts : List (List ℕ) → LogText
lines_of_parts [] = record { lines = []; rest = None }
lines_of_parts (last ∷ []) = record { lines = []; rest = last_part last }
lines_of_parts (part ∷ next ∷ more) = with_line (read_text part) (lines_of_parts (next ∷ more))

abbrev pub log_text : List ℕ → LogText
log_text bytes = lines_of_parts (split_on line_feed bytes)

-- the bytes of lines, one after another
abbrev pub bytes_of_lines : List LogLine → List ℕ
bytes_of_lines [] = []
bytes_of_lines (line ∷ lines) = line_bytes line ++ bytes_of_lines lines

-- these lines, and nothing behind them
abbrev pub text_of_lines : List LogLine → LogText
text_of_lines lines = record { lines = map Some lines; rest = None }
