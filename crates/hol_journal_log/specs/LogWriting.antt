-- The proof log of a journal: a line for each entry that is kept, behind lines for the types and terms that it names,
-- and the claims.
use Rattle.std.specs.Prelude.{ℕ, ◌+◌, List, [], ◌∷◌, ◌++◌, Bool, true, false, ◌&&◌, ◌==◌, if◌then◌else◌, length, map}
use Rattle.std.specs.List.{list_any, position_or_len}
use Rattle.std.specs.Str.{bytes_eq}
use Rattle.hol_model.specs.Terms.HolType.{HolType, type_variable, bool_type, function_type, declared_type}
use Rattle.hol_model.specs.Terms.NamedTerm.{NamedTerm, variable, constant, combination, abstraction}
use Rattle.hol_model.specs.Kernel.Theorem.{Theorem}
use Rattle.hol_model.specs.Logs.LogLine.{LogLine}
use Rattle.hol_model.specs.Logs.LogLine.LogVersion.{second_version}
use Rattle.hol_model.specs.Logs.LogLine.LogLine.{header_line, type_variable_line, bool_line, function_type_line, declared_type_line, variable_line}
use Rattle.hol_model.specs.Logs.LogLine.LogLine.{constant_line, combination_line, abstraction_line, new_type_line, new_constant_line, theorem_line}
use Rattle.hol_model.specs.Logs.LogLine.LogLine.{claim_line, end_line}
use Rattle.hol_journal.specs.Steps as steps
use Rattle.hol_journal.specs.Steps.{Step, JournalEntry, derived, declared_constant, terms_of, types_of}
use Rattle.hol_journal.specs.Lines.{Numbering, line_of}
use Rattle.hol_journal.specs.Journal.{Recorded}

-- two lines of types or of terms are the same
abbrev pub same_line : LogLine → LogLine → Bool
same_line (type_variable_line a) (type_variable_line b) = bytes_eq a b
same_line bool_line bool_line = true
same_line (function_type_line a b) (function_type_line c d) = (a == c) && (b == d)
same_line (declared_type_line a) (declared_type_line b) = bytes_eq a b
same_line (variable_line a s) (variable_line b t) = bytes_eq a b && (s == t)
same_line (constant_line a s) (constant_line b t) = bytes_eq a b && (s == t)
same_line (combination_line f a) (combination_line g b) = (f == g) && (a == b)
same_line (abstraction_line v a) (abstraction_line w b) = (v == w) && (a == b)
same_line _ _ = false

abbrev pub is_among : LogLine → List LogLine → Bool
is_among line lines = list_any (same_line line) lines

-- the place of a line, or the number of lines where it is not among them
abbrev pub place_of : LogLine → List LogLine → ℕ
place_of line lines = position_or_len (same_line line) lines

-- The lines of types, those of terms and all lines so far, and the entries whose theorems have lines. A type, a term and
-- a theorem are named by their places.
pub record Written : Type 0 where
  pub types : List LogLine
  pub terms : List LogLine
  pub theorems : List ℕ
  pub lines : List LogLine

abbrev pub nothing_written : Written
nothing_written = record { types = []; terms = []; theorems = []; lines = [] }

-- the line of a type, and the number of this line
abbrev pub type_line : List LogLine → HolType → LogLine
type_line types (type_variable name) = type_variable_line name
type_line types bool_type = bool_line
type_line types (function_type domain codomain) = function_type_line (place_of (type_line types domain) types) (place_of (type_line types codomain) types)
type_line types (declared_type name) = declared_type_line name

abbrev pub type_number : List LogLine → HolType → ℕ
type_number types ty = place_of (type_line types ty) types

-- the line of a term, with the names of bound variables, and the number of this line
abbrev pub term_line : List LogLine → List LogLine → NamedTerm → LogLine
term_line types terms (variable name ty) = variable_line name (type_number types ty)
term_line types terms (constant name ty) = constant_line name (type_number types ty)
term_line types terms (combination function argument) = combination_line (place_of (term_line types terms function) terms) (place_of (term_line types terms argument) terms)
term_line types terms (abstraction name ty body) = abstraction_line (place_of (variable_line name (type_number types ty)) terms) (place_of (term_line types terms body) terms)

abbrev pub term_number : List LogLine → List LogLine → NamedTerm → ℕ
term_number types terms term = place_of (term_line types terms term) terms

abbrev pub theorem_number : List ℕ → ℕ → ℕ
theorem_number theorems entry = position_or_len (λ other. entry == other) theorems

-- the numbers in what is written

abbrev pub number_of_type : Written → HolType → ℕ
number_of_type written ty = type_number written.types ty

abbrev pub number_of_term : Written → NamedTerm → ℕ
number_of_term written term = term_number written.types written.terms term

abbrev pub number_of_entry : Written → ℕ → ℕ
number_of_entry written entry = theorem_number written.theorems entry

abbrev pub numbering : Written → Numbering
numbering written = record { of_type = number_of_type written; of_term = number_of_term written; of_entry = number_of_entry written }

-- one more line
abbrev pub with_line : LogLine → Written → Written
with_line line written = record written { lines = written.lines ++ line ∷ [] }

-- the line of a type or of a term, unless it is there

abbrev pub with_type_line : LogLine → Written → Written
with_type_line line written =
    if is_among line written.types then written else record written { types = written.types ++ line ∷ []; lines = written.lines ++ line ∷ [] }

abbrev pub with_term_line : LogLine → Written → Written
with_term_line line written =
    if is_among line written.terms then written else record written { terms = written.terms ++ line ∷ []; lines = written.lines ++ line ∷ [] }

abbrev pub with_type : HolType → Written → Written
with_type ty written = with_type_line (type_line written.types ty) written

abbrev pub with_term : NamedTerm → Written → Written
with_term term written = with_term_line (term_line written.types written.terms term) written

-- a type or a term, behind its parts from left to right

abbrev pub write_type : HolType → Written → Written
write_type (type_variable name) written = with_type (type_variable name) written
write_type bool_type written = with_type bool_type written
write_type (function_type domain codomain) written = with_type (function_type domain codomain) (write_type codomain (write_type domain written))
write_type (declared_type name) written = with_type (declared_type name) written

abbrev pub write_variable : List ℕ → HolType → Written → Written
write_variable name ty written = with_term (variable name ty) (write_type ty written)

abbrev pub write_term : NamedTerm → Written → Written
write_term (variable name ty) written = write_variable name ty written
write_term (constant name ty) written = with_term (constant name ty) (write_type ty written)
write_term (combination function argument) written = with_term (combination function argument) (write_term argument (write_term function written))
write_term (abstraction name ty body) written = with_term (abstraction name ty body) (write_term body (write_variable name ty written))

-- each of a list, from left to right

abbrev pub write_each : {A : Type 0} → (A → Written → Written) → List A → Written → Written
write_each write [] written = written
write_each write (item ∷ items) written = write_each write items (write item written)

abbrev pub write_types : List HolType → Written → Written
write_types types written = write_each write_type types written

abbrev pub write_terms : List NamedTerm → Written → Written
write_terms terms written = write_each write_term terms written

-- the types and the terms that a step names
abbrev pub write_parts : Step → Written → Written
write_parts step written = write_terms (terms_of step) (write_types (types_of step) written)

-- the line of the theorem of an entry
abbrev pub with_theorem : ℕ → Step → Written → Written
with_theorem number step written =
    record written { theorems = written.theorems ++ number ∷ []; lines = written.lines ++ theorem_line (line_of (numbering written) step) ∷ [] }

abbrev pub with_constant : List ℕ → HolType → Written → Written
with_constant name ty written = with_line (new_constant_line name (number_of_type written ty)) written

-- the entry of this number
abbrev pub write_entry : ℕ → JournalEntry → Written → Written
write_entry number (derived step sequent) written = with_theorem number step (write_parts step written)
write_entry number (steps.declared_type name) written = with_line (new_type_line name) written
write_entry number (declared_constant name ty) written = with_constant name ty (write_type ty written)

-- the marked ones of the entries from a number on
abbrev pub write_entries : ℕ → List JournalEntry → List Bool → Written → Written
write_entries number [] marks written = written
write_entries number (entry ∷ entries) [] written = written
write_entries number (entry ∷ entries) (true ∷ marks) written = write_entries (number + 1) entries marks (write_entry number entry written)
write_entries number (entry ∷ entries) (false ∷ marks) written = write_entries (number + 1) entries marks written

-- a name for a theorem that was recorded
pub record Claimed : Type 0 where
  pub name : List ℕ
  pub made : Recorded

abbrev pub terms_of_claim : Claimed → List NamedTerm
terms_of_claim claim = claim.made.theorem.conclusion ∷ claim.made.theorem.hypotheses

abbrev pub with_claim : Claimed → Written → Written
with_claim claim written =
    let theorem : Theorem = claim.made.theorem in
    with_line (claim_line claim.name (number_of_entry written claim.made.entry) (number_of_term written theorem.conclusion) (map (number_of_term written) theorem.hypotheses)) written

abbrev pub write_claim : Claimed → Written → Written
write_claim claim written = with_claim claim (write_terms (terms_of_claim claim) written)

abbrev pub write_claims : List Claimed → Written → Written
write_claims claims written = write_each write_claim claims written

-- the marked entries and the claims
abbrev pub log_written : List JournalEntry → List Bool → List Claimed → Written
log_written entries marks claims = write_claims claims (write_entries 0 entries marks nothing_written)

-- lines between the header and the end, which tells how many claims there are
abbrev pub closed : ℕ → List LogLine → List LogLine
closed claims lines = header_line second_version ∷ (lines ++ end_line claims ∷ [])

-- the lines of the log, from the header to the end
abbrev pub log_lines : List JournalEntry → List Bool → List Claimed → List LogLine
log_lines entries marks claims = closed (length claims) (log_written entries marks claims).lines
