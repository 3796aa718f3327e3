-- What reading a line says of its text, and reading a log of its lines.
use Rattle.std.specs.Prelude.{◌≡◌, ◌≤◌, ℕ, List, length, Some, Ok}
use Rattle.hol_model.specs.declared.limits.TheConstants.{TEXT_BYTES_LIMIT}
use Rattle.hol_model.specs.Logs.LogState.{LogState}
use Rattle.hol_model.specs.Logs.LogText.{log_outcome}
use Rattle.hol_model.specs.Logs.LogLine.{LogLine}
use Rattle.std.specs.List.{All}
use Rattle.hol_logtext.specs.LineText.{IsTextOf, IsWritable}
use Rattle.hol_logtext.specs.LineReading.{read_text}
use Rattle.hol_logtext.specs.LogBytes.{log_text, bytes_of_lines, text_of_lines}

-- a text is read as the line whose text it is, so no two lines have one text
pub record ReadingIsExact : Type 0 where
  pub read : (text : List ℕ) (line : LogLine) → read_text text ≡ Some line → IsTextOf line text
  pub written : (text : List ℕ) (line : LogLine) → IsTextOf line text → read_text text ≡ Some line

-- the bytes of lines that can be written are read as these lines, and those of an accepted log are an accepted log
pub record LogsReadBack : Type 0 where
  pub read : (lines : List LogLine) → All IsWritable lines → log_text (bytes_of_lines lines) ≡ text_of_lines lines
  pub accepted : (lines : List LogLine) (state : LogState) → length (bytes_of_lines lines) ≤ TEXT_BYTES_LIMIT → log_outcome (text_of_lines lines) ≡ Ok state
      → log_outcome (log_text (bytes_of_lines lines)) ≡ Ok state
