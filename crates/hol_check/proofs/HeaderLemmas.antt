-- An accepted log begins with a header.
use Rattle.std.proofs.Common.{◌≡◌, ℕ, List, [], ◌∷◌, ◌++◌, Option, Some, None, Ok, Bool, true, false, ◌==◌, refl, sym, ap, ◌∙◌}
use Rattle.std.proofs.lemmas.Bool.{eqb-true}
use Rattle.hol_model.specs.Logs.LogLine.{LogVersion}
use Rattle.hol_model.specs.Logs.LogLine.LogVersion.{first_version, second_version}
use Rattle.hol_model.specs.Logs.LogLine.LogLine.{header_line, type_variable_line, bool_line, function_type_line, declared_type_line, variable_line, constant_line, combination_line}
use Rattle.hol_model.specs.Logs.LogLine.LogLine.{abstraction_line, new_type_line, new_constant_line, theorem_line, claim_line, end_line}
use Rattle.hol_model.specs.Logs.LogState.{LogState}
use Rattle.hol_model.specs.Logs.LogText.{ReadLine, LogText, no_line, dest_header, log_outcome}
use Rattle.hol_logtext.specs.Fields.{line_feed, has_line_feed}
use Rattle.hol_logtext.specs.Laws.{ReadingIsExact}
use Rattle.hol_logtext.specs.LineReading.{read_text}
use Rattle.hol_logtext.specs.LineText.{line_text, line_bytes}
use Rattle.hol_logtext.specs.LogBytes.{log_text, last_part, with_line}
use Rattle.hol_check.specs.LogAnswers.{log_answer}
use Rattle.hol_check.specs.Migration.{IsHeaded}
use Rattle.hol_logtext.proofs.LogLemmas.{log_text_line, log_text_last}

-- the line up to the first line feed, and what stands behind it
record IsFirstLine (text : List ℕ) : Type 0 where
  pub line : List ℕ
  pub rest : List ℕ
  pub whole : text ≡ line ++ line_feed ∷ rest
  pub one : has_line_feed line ≡ false

first_line : (text : List ℕ) → has_line_feed text ≡ true → IsFirstLine text
first_line [] there = cc
first_line (byte ∷ text) there = go (byte == line_feed) refl (first_line text)
  where
    go : (test : Bool) → (byte == line_feed) ≡ test → (has_line_feed text ≡ true → IsFirstLine text) → IsFirstLine (byte ∷ text)
    go true here later = record { line = []; rest = text; whole = ap (λ b. b ∷ text) (eqb-true byte line_feed here); one = refl }
    go false other later =
        let deeper : IsFirstLine text = later (rw other at there) in
        record { line = byte ∷ deeper.line; rest = deeper.rest; whole = ap (λ l. byte ∷ l) deeper.whole; one = rw (other, deeper.one) refl }

header_found : (found : ReadLine) (version : LogVersion) → dest_header found ≡ Some version → found ≡ Some (header_line version)
header_found None version is = cc
header_found (Some (header_line other)) version is = let same : other ≡ version = cc in ap (λ v. Some (header_line v)) same
header_found (Some (type_variable_line name)) version is = cc
header_found (Some bool_line) version is = cc
header_found (Some (function_type_line a b)) version is = cc
header_found (Some (declared_type_line name)) version is = cc
header_found (Some (variable_line name ty)) version is = cc
header_found (Some (constant_line name ty)) version is = cc
header_found (Some (combination_line f a)) version is = cc
header_found (Some (abstraction_line v t)) version is = cc
header_found (Some (new_type_line name)) version is = cc
header_found (Some (new_constant_line name ty)) version is = cc
header_found (Some (theorem_line rule)) version is = cc
header_found (Some (claim_line name i c hs)) version is = cc
header_found (Some (end_line count)) version is = cc

-- the version of the header
record IsVersion (found : ReadLine) : Type 0 where
  pub version : LogVersion
  pub is : dest_header found ≡ Some version

version_told : (found : ReadLine) (text : LogText) (state : LogState) (version : Option LogVersion) → dest_header found ≡ version → log_outcome (with_line found text) ≡ Ok state → IsVersion found
version_told found text state (Some version) is accepted = record { version = version; is = is }
version_told found text state None is accepted = let wrong = rw is at accepted in cc

-- a text with no line feed is not accepted
no_line_refused : (rest : Option ReadLine) (state : LogState) → no_line rest ≡ Ok state → ⊥
no_line_refused None state accepted = cc
no_line_refused (Some cut) state accepted = go (dest_header cut) refl
  where
    go : (version : Option LogVersion) → dest_header cut ≡ version → ⊥
    go None is = let wrong = rw is at accepted in cc
    go (Some version) is = let wrong = rw is at accepted in cc

header_bytes : (version : LogVersion) (rest : List ℕ) → line_text (header_line version) ++ line_feed ∷ rest ≡ line_bytes (header_line version) ++ rest
header_bytes first_version rest = refl
header_bytes second_version rest = refl

headed_by : ReadingIsExact → (text : List ℕ) (state : LogState) → log_answer text ≡ Ok state → IsFirstLine text → IsHeaded text
headed_by exact text state accepted first =
    let cut : log_outcome (with_line (read_text first.line) (log_text first.rest)) ≡ Ok state =
    sym (ap log_outcome (log_text_line first.line first.rest first.one)) ∙ sym (ap log_answer first.whole) ∙ accepted in
    let told : IsVersion (read_text first.line) = version_told (read_text first.line) (log_text first.rest) state (dest_header (read_text first.line)) refl cut in
    let text_is = (exact.read first.line (header_line told.version) (header_found (read_text first.line) told.version told.is)).is_text in
    record {
      version = told.version;
      rest = first.rest;
      has = record { headed = first.whole ∙ ap (λ line. line ++ line_feed ∷ first.rest) text_is ∙ header_bytes told.version first.rest };
    }

pub is_headed : ReadingIsExact → (text : List ℕ) (state : LogState) → log_answer text ≡ Ok state → IsHeaded text
is_headed exact text state accepted = go (has_line_feed text) refl
  where
    go : (test : Bool) → has_line_feed text ≡ test → IsHeaded text
    go true there = headed_by exact text state accepted (first_line text there)
    go false none = absurd (no_line_refused (last_part text) state (sym (ap log_outcome (log_text_last text none)) ∙ accepted))
