-- A log, one line longer.
use Rattle.std.proofs.Common.{◌≡◌, ◌<◌, ◌≤◌, ℕ, List, [], ◌∷◌, ◌++◌, true, false, nat_lt, length, Vec, Global, sym, ◌∙◌, ap, subst, append_assoc, append-nil, length-append, arith}
use Rattle.std.proofs.lemmas.Bool.{ltb-true, ltb-false}
use Rattle.hol_model.specs.declared.limits.TheConstants.{TEXT_BYTES_LIMIT}
use Rattle.hol_model.specs.Logs.LogLine.{LogLine}
use Rattle.hol_model.specs.Logs.LogLine.LogVersion.{second_version}
use Rattle.hol_model.specs.Logs.LogLine.LogLine.{header_line}
use Rattle.hol_logtext.specs.LineText.{line_bytes}
use Rattle.hol_logtext.specs.LogBytes.{bytes_of_lines}
use Rattle.hol_logtext.specs.LogViews.{log_bytes, IsWritten}
use Rattle.hol_logtext.specs.declared.log.LogWriter.TheInside as log
use Rattle.hol_logtext.specs.declared.written.WrittenLines.{WrittenLines}

bytes-more : (lines : List LogLine) (line : LogLine) → bytes_of_lines (lines ++ line ∷ []) ≡ bytes_of_lines lines ++ line_bytes line
bytes-more [] line = append-nil (line_bytes line)
bytes-more (first ∷ lines) line = ap (λ bytes. line_bytes first ++ bytes) (bytes-more lines line) ∙ sym (append_assoc (line_bytes first) (bytes_of_lines lines) (line_bytes line))

log-more : (lines : List LogLine) (line : LogLine) → log_bytes (lines ++ line ∷ []) ≡ log_bytes lines ++ line_bytes line
log-more lines line = bytes-more (header_line second_version ∷ lines) line

past-more : (lines : List LogLine) (line : LogLine) → TEXT_BYTES_LIMIT < length (log_bytes lines) → TEXT_BYTES_LIMIT < length (log_bytes (lines ++ line ∷ []))
past-more lines line past =
    subst (λ (bytes : List ℕ). TEXT_BYTES_LIMIT < length bytes) (sym (log-more lines line)) (omega (arith, past, length-append (log_bytes lines) (line_bytes line)))

-- the next line, kept or behind the limit

whole-more : (text : List ℕ) (lines : List LogLine) (line : LogLine) → text ≡ log_bytes lines → text ++ line_bytes line ≡ log_bytes (lines ++ line ∷ [])
whole-more text lines line whole = ap (λ bytes. bytes ++ line_bytes line) whole ∙ sym (log-more lines line)

-- with one line more, the fields stand for the lines that they should
abbrev pub IsNext : LogLine → WrittenLines → log.Inside → Type 0
IsNext line now inside = now.lines ≡ inside.lines.lines ++ line ∷ [] → IsWritten (record { text = inside.text; is_past = inside.is_past; lines = now })

pub line_kept : (old : log.Inside) (line : LogLine) (now : WrittenLines) (text : Vec ℕ Global) (count : ℕ) → IsWritten old → old.is_past ≡ false
    → text.items ≡ old.text.items ++ line_bytes line → count ≡ length text.items
    → IsNext line now (record { text = text; is_past = nat_lt TEXT_BYTES_LIMIT count; lines = old.lines })
line_kept old line now text count is within items counted = λ longer.
    let whole : text.items ≡ log_bytes now.lines =
    items ∙ whole-more old.text.items old.lines.lines line (is.kept within).whole ∙ ap log_bytes (sym longer) in
    record {
      kept = λ short. record { whole = whole; within = subst (λ n. n ≤ TEXT_BYTES_LIMIT) counted (ltb-false TEXT_BYTES_LIMIT count short) };
      past = λ long. subst (λ (bytes : List ℕ). TEXT_BYTES_LIMIT < length bytes) whole (subst (λ n. TEXT_BYTES_LIMIT < n) counted (ltb-true TEXT_BYTES_LIMIT count long));
    }

pub line_lost : (old : log.Inside) (line : LogLine) (now : WrittenLines) → IsWritten old → old.is_past ≡ true → IsNext line now old
line_lost old line now is past = λ longer. record {
  kept = λ short. cc;
  past = λ long. subst (λ (lines : List LogLine). TEXT_BYTES_LIMIT < length (log_bytes lines)) (sym longer) (past-more old.lines.lines line (is.past past));
}
