-- What the fields of a log that is written stand for.
use Rattle.std.specs.Prelude.{◌≡◌, ◌≤◌, ◌<◌, ℕ, List, ◌∷◌, true, false, length}
use Rattle.hol_model.specs.declared.limits.TheConstants.{TEXT_BYTES_LIMIT}
use Rattle.hol_model.specs.Logs.LogLine.{LogLine}
use Rattle.hol_model.specs.Logs.LogLine.LogVersion.{second_version}
use Rattle.hol_model.specs.Logs.LogLine.LogLine.{header_line}
use Rattle.hol_logtext.specs.LogBytes.{bytes_of_lines}
use Rattle.hol_logtext.specs.declared.log.LogWriter.TheInside as log

-- the header of the second version and the lines behind it
abbrev pub log_bytes : List LogLine → List ℕ
log_bytes lines = bytes_of_lines (header_line second_version ∷ lines)

abbrev pub viewed_lines : log.Inside → List LogLine
viewed_lines inside = inside.lines.lines

-- the text is that of the lines
pub record IsWhole (text : List ℕ) (lines : List LogLine) : Type 0 where
  pub whole : text ≡ log_bytes lines
  pub within : length text ≤ TEXT_BYTES_LIMIT

-- the text is whole, or that of the lines is longer than the limit
pub record IsWritten (inside : log.Inside) : Type 0 where
  pub kept : inside.is_past ≡ false → IsWhole inside.text.items inside.lines.lines
  pub past : inside.is_past ≡ true → TEXT_BYTES_LIMIT < length (log_bytes inside.lines.lines)
