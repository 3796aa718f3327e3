-- Lines that are accepted one after another, and what the tables of a log that is written stand for.
use Rattle.std.proofs.Common.{◌≡◌, ◌⊎◌, ◌<◌, ◌+◌, ℕ, List, [], ◌∷◌, ◌++◌, length, Bool, true, false, refl, sym, ◌∙◌, ap, subst, inl, inr, Some, None}
use Rattle.std.proofs.Common.{Ok, append-nil, append_assoc, length-append, if◌then◌else◌, arith}
use Rattle.std.specs.Prelude.{slice_get, map}
use Rattle.std.specs.List.{list_all, slice_index_or}
use Rattle.std.proofs.lemmas.List.Folds.{list_all-append}
use Rattle.std.proofs.lemmas.Bool.{lt-leb}
use Rattle.std.proofs.lemmas.List.{length_push, get_or_append_left}
use Rattle.hol_model.specs.Terms.HolType.{HolType, bool_type, function_type}
use Rattle.hol_model.specs.Terms.Nameless.{Nameless, bound}
use Rattle.hol_model.specs.Logs.LogLine.{LogLine}
use Rattle.hol_model.specs.Logs.LogLine.LogVersion.{second_version}
use Rattle.hol_model.specs.Logs.LogLine.LogLine.{header_line, type_variable_line, bool_line, function_type_line, declared_type_line, variable_line, constant_line, combination_line, abstraction_line}
use Rattle.hol_model.specs.Logs.LogState.{LogState, first_state, type_at, term_at}
use Rattle.hol_model.specs.Logs.LogSequents.{abstraction_over, new_types, new_terms, new_theorems, new_entries, new_claims, ends, after_line}
use Rattle.hol_model.specs.Logs.LogFaults.{first_cause, has_number_fault, is_no_type, is_no_term}
use Rattle.hol_model.specs.Logs.LogText.{from_line, LogOutcome, log_outcome}
use Rattle.hol_model.specs.Logs.LogLaws.{IsSoundState}
use Rattle.hol_model.proofs.Tests.{first_of_both, second_of_both, first_of_neither, second_of_neither}
use Rattle.hol_model.proofs.Logs.LogTests.{is_there}
use Rattle.hol_model.proofs.Logs.AcceptedLog.{IsFaultless, after_line-sound, first_state-sound}
use Rattle.hol_journal_log.specs.LogAccepted.{has_name, log_of}
use Rattle.hol_journal_log.specs.LogWriting.{Written, same_line, is_among, with_line, with_type_line, with_term_line}
use Rattle.hol_journal.proofs.Showing.{neither}
use Rattle.hol_journal_log.proofs.LogTables.{GoesOn, last_there, get_last, IsPart}
use Rattle.hol_journal.proofs.Places.{get_earlier, get_at_end}

-- lines one after another

abbrev after_lines : LogState → List LogLine → LogState
after_lines state [] = state
after_lines state (line ∷ lines) = after_lines (after_line state line) lines

abbrev AreAccepted : LogState → List LogLine → Type 0
AreAccepted state [] = Unit {0}
AreAccepted state (line ∷ lines) = (first_cause state line ≡ None) × AreAccepted (after_line state line) lines

after-last : (state : LogState) (lines : List LogLine) (line : LogLine) → after_lines state (lines ++ line ∷ []) ≡ after_line (after_lines state lines) line
after-last state [] line = refl
after-last state (first ∷ lines) line = after-last (after_line state first) lines line

accepted-last : (state : LogState) (lines : List LogLine) (line : LogLine) → AreAccepted state lines → first_cause (after_lines state lines) line ≡ None → AreAccepted state (lines ++ line ∷ [])
accepted-last state [] line accepted last = (last, tt)
accepted-last state (first ∷ lines) line accepted last = (accepted.0, accepted-last (after_line state first) lines line accepted.1 last)

-- the lines lead to the state, and are accepted where their names are of their kinds
pub record IsRun (lines : List LogLine) (state : LogState) : Type 0 where
  pub is : after_lines (first_state second_version) lines ≡ state
  pub accepted : list_all has_name lines ≡ true → AreAccepted (first_state second_version) lines

pub run-start : IsRun [] (first_state second_version)
run-start = record { is = refl; accepted = λ _. tt }

pub run-more : (lines : List LogLine) (state : LogState) (line : LogLine) → IsRun lines state
    → (has_name line ≡ true → first_cause state line ≡ None) → IsRun (lines ++ line ∷ []) (after_line state line)
run-more lines state line run next = record {
  is = after-last (first_state second_version) lines line ∙ ap (λ s. after_line s line) run.is;
  accepted = λ named.
      let parts = sym (list_all-append has_name lines (line ∷ [])) ∙ named in
      let last = first_of_both (has_name line) true (second_of_both (list_all has_name lines) (list_all has_name (line ∷ [])) parts) in
      accepted-last (first_state second_version) lines line (run.accepted (first_of_both (list_all has_name lines) (list_all has_name (line ∷ [])) parts))
      (ap (λ s. first_cause s line) run.is ∙ next last);
}

lines-sound : (state : LogState) (lines : List LogLine) → IsSoundState state → AreAccepted state lines → IsSoundState (after_lines state lines)
lines-sound state [] sound accepted = sound
lines-sound state (line ∷ lines) sound accepted = lines-sound (after_line state line) lines (after_line-sound state line accepted.0 sound) accepted.1

pub run-sound : (lines : List LogLine) (state : LogState) → IsRun lines state → list_all has_name lines ≡ true → IsSoundState state
run-sound lines state run named =
    subst IsSoundState run.is (lines-sound (first_state second_version) lines (first_state-sound second_version) (run.accepted named))

lines-outcome : (lines : List LogLine) (number : ℕ) (state : LogState) → AreAccepted state lines → (after_lines state lines).is_ended ≡ true
    → from_line None (map Some lines) number state ≡ Ok (after_lines state lines)
lines-outcome [] number state accepted ended = rw ended refl
lines-outcome (line ∷ lines) number state accepted ended = rw accepted.0 (lines-outcome lines (number + 1) (after_line state line) accepted.1 ended)

-- a run to an end is an accepted log
pub run-outcome : (lines : List LogLine) (state : LogState) → IsRun lines state → list_all has_name lines ≡ true → state.is_ended ≡ true
    → log_outcome (log_of (header_line second_version ∷ lines)) ≡ Ok state
run-outcome lines state run named ended =
    lines-outcome lines 2 (first_state second_version) (run.accepted named) (ap (λ (s : LogState). s.is_ended) run.is ∙ ended)
    ∙ ap (λ (s : LogState). ok s) run.is
  where
    ok : LogState → LogOutcome
    ok s = Ok s

-- no cause applies
pub faultless : (state : LogState) (line : LogLine) → IsFaultless state line → first_cause state line ≡ None
faultless state line is = rw (is.shape, is.number, is.name, is.type_fits, is.constant, is.rule, is.claim, is.size, is.end) refl

-- each line of a table is good and makes what has its place
pub record Stands {X : Type 0} (lines : List LogLine) (fault : LogLine → Bool) (makes : LogLine → List X) (values : List X) : Type 0 where
  pub count : length lines ≡ length values
  pub stands : (n : ℕ) (line : LogLine) → slice_get lines n ≡ Some line → (x : X) × (slice_get values n ≡ Some x) × (makes line ≡ x ∷ []) × (fault line ≡ false)

-- what is said later of lines is what was said before
pub record SaysLater {X : Type 0} (fault later_fault : LogLine → Bool) (makes later : LogLine → List X) : Type 0 where
  pub good : (line : LogLine) (x : X) → makes line ≡ x ∷ [] → fault line ≡ false → later_fault line ≡ false
  pub same : (line : LogLine) (x : X) → makes line ≡ x ∷ [] → fault line ≡ false → later line ≡ x ∷ []

pub stands-later : {X : Type 0} (lines : List LogLine) (fault later_fault : LogLine → Bool) (makes later : LogLine → List X) (values now : List X)
    → Stands lines fault makes values → SaysLater fault later_fault makes later → now ≡ values → Stands lines later_fault later now
stands-later lines fault later_fault makes later values now table says same = record {
  count = table.count ∙ ap length (sym same);
  stands = λ n line is. let entry = table.stands n line is in
      (entry.0, ap (λ l. slice_get l n) same ∙ entry.1, says.same line entry.0 entry.2 entry.3, says.good line entry.0 entry.2 entry.3);
}

pub stands-more : {X : Type 0} (lines : List LogLine) (fault later_fault : LogLine → Bool) (makes later : LogLine → List X) (values now : List X) (line : LogLine) (x : X)
    → Stands lines fault makes values → SaysLater fault later_fault makes later → now ≡ values ++ x ∷ [] → later line ≡ x ∷ [] → later_fault line ≡ false
    → Stands (lines ++ line ∷ []) later_fault later now
stands-more {X} lines fault later_fault makes later values now line x table says same made good = record {
  count = length_push lines line ∙ ap (λ n. n + 1) table.count ∙ sym (length_push values x) ∙ ap length (sym same);
  stands = λ n other is. go n other (get_last lines line n other is);
}
  where
    go : (n : ℕ) (other : LogLine) → (slice_get lines n ≡ Some other) ⊎ ((n ≡ length lines) × (line ≡ other))
        → (y : X) × (slice_get now n ≡ Some y) × (later other ≡ y ∷ []) × (later_fault other ≡ false)
    go n other (inl is) =
        let entry = table.stands n other is in
        (entry.0, ap (λ l. slice_get l n) same ∙ get_earlier values (x ∷ []) n entry.0 entry.1, says.same other entry.0 entry.2 entry.3, says.good other entry.0 entry.2 entry.3)
    go n other (inr is) = (
      x,
      ap (λ l. slice_get l n) same ∙ ap (slice_get (values ++ x ∷ [])) (is.0 ∙ table.count) ∙ get_at_end values x,
      ap later (sym is.1) ∙ made,
      ap later_fault (sym is.1) ∙ good,
    )

-- a state that comes later
pub record IsLater (old new : LogState) : Type 0 where
  pub types : GoesOn old.types new.types
  pub terms : GoesOn old.terms new.terms

type_stays : (old new : LogState) → IsLater old new → (a : ℕ) → is_no_type old a ≡ false → (is_no_type new a ≡ false) × (type_at new a ≡ type_at old a)
type_stays old new later a there =
    let within : a < length old.types = is_there (length old.types) a there in
    let longer : length new.types ≡ length old.types + length later.types.added = ap length later.types.is ∙ length-append old.types later.types.added in
    (lt-leb (length new.types) a (omega arith), ap (λ l. slice_index_or l a bool_type) later.types.is ∙ get_or_append_left old.types later.types.added bool_type a within)

term_stays : (old new : LogState) → IsLater old new → (a : ℕ) → is_no_term old a ≡ false → (is_no_term new a ≡ false) × (term_at new a ≡ term_at old a)
term_stays old new later a there =
    let within : a < length old.terms = is_there (length old.terms) a there in
    let longer : length new.terms ≡ length old.terms + length later.terms.added = ap length later.terms.is ∙ length-append old.terms later.terms.added in
    (lt-leb (length new.terms) a (omega arith), ap (λ l. slice_index_or l a (bound 0)) later.terms.is ∙ get_or_append_left old.terms later.terms.added (bound 0) a within)

-- lines of types say later what they said
pub types_later : (old new : LogState) → IsLater old new → SaysLater (has_number_fault old) (has_number_fault new) (new_types old) (new_types new)
types_later old new later = record { good = fault; same = makes }
  where
    fault : (line : LogLine) (x : HolType) → new_types old line ≡ x ∷ [] → has_number_fault old line ≡ false → has_number_fault new line ≡ false
    fault (type_variable_line name) x is good = refl
    fault bool_line x is good = refl
    fault (declared_type_line name) x is good = refl
    fault (function_type_line a b) x is good =
        neither _ _ (type_stays old new later a (first_of_neither (is_no_type old a) (is_no_type old b) good)).0
        (type_stays old new later b (second_of_neither (is_no_type old a) (is_no_type old b) good)).0
    fault _ x is good = cc

    makes : (line : LogLine) (x : HolType) → new_types old line ≡ x ∷ [] → has_number_fault old line ≡ false → new_types new line ≡ x ∷ []
    makes (type_variable_line name) x is good = is
    makes bool_line x is good = is
    makes (declared_type_line name) x is good = is
    makes (function_type_line a b) x is good =
        (λ i. function_type ((type_stays old new later a (first_of_neither (is_no_type old a) (is_no_type old b) good)).1 i)
        ((type_stays old new later b (second_of_neither (is_no_type old a) (is_no_type old b) good)).1 i) ∷ []) ∙ is
    makes _ x is good = cc

pub terms_later : (old new : LogState) → IsLater old new → SaysLater (has_number_fault old) (has_number_fault new) (new_terms old) (new_terms new)
terms_later old new later = record { good = fault; same = makes }
  where
    fault : (line : LogLine) (x : Nameless) → new_terms old line ≡ x ∷ [] → has_number_fault old line ≡ false → has_number_fault new line ≡ false
    fault (variable_line name ty) x is good = (type_stays old new later ty good).0
    fault (constant_line name ty) x is good = (type_stays old new later ty good).0
    fault (combination_line a b) x is good =
        neither _ _ (term_stays old new later a (first_of_neither (is_no_term old a) (is_no_term old b) good)).0
        (term_stays old new later b (second_of_neither (is_no_term old a) (is_no_term old b) good)).0
    fault (abstraction_line a b) x is good =
        neither _ _ (term_stays old new later a (first_of_neither (is_no_term old a) (is_no_term old b) good)).0
        (term_stays old new later b (second_of_neither (is_no_term old a) (is_no_term old b) good)).0
    fault _ x is good = cc

    makes : (line : LogLine) (x : Nameless) → new_terms old line ≡ x ∷ [] → has_number_fault old line ≡ false → new_terms new line ≡ x ∷ []
    makes (variable_line name ty) x is good = ap (λ t. Nameless.free name t ∷ []) (type_stays old new later ty good).1 ∙ is
    makes (constant_line name ty) x is good = ap (λ t. Nameless.const name t ∷ []) (type_stays old new later ty good).1 ∙ is
    makes (combination_line a b) x is good =
        (λ i. Nameless.app ((term_stays old new later a (first_of_neither (is_no_term old a) (is_no_term old b) good)).1 i)
        ((term_stays old new later b (second_of_neither (is_no_term old a) (is_no_term old b) good)).1 i) ∷ []) ∙ is
    makes (abstraction_line a b) x is good =
        (λ i. abstraction_over ((term_stays old new later a (first_of_neither (is_no_term old a) (is_no_term old b) good)).1 i)
        ((term_stays old new later b (second_of_neither (is_no_term old a) (is_no_term old b) good)).1 i) ∷ []) ∙ is
    makes _ x is good = cc

-- each state comes before the next

later-next : (state : LogState) (line : LogLine) → IsLater state (after_line state line)
later-next state line = record { types = record { added = new_types state line; is = refl }; terms = record { added = new_terms state line; is = refl } }

-- what is written is a log that leads to the state, which is not ended
pub record IsLog (written : Written) (state : LogState) : Type 0 where
  pub run : IsRun written.lines state
  pub version : state.version ≡ second_version
  pub going_on : state.is_ended ≡ false
  pub types : Stands written.types (has_number_fault state) (new_types state) state.types
  pub terms : Stands written.terms (has_number_fault state) (new_terms state) state.terms

-- a line of neither a type nor a term
pub record IsOther (state : LogState) (line : LogLine) : Type 0 where
  pub types : new_types state line ≡ []
  pub terms : new_terms state line ≡ []
  pub ends : ends line ≡ false

pub log-more : (written : Written) (state : LogState) (line : LogLine) → IsLog written state → IsOther state line → (has_name line ≡ true → first_cause state line ≡ None)
    → IsLog (with_line line written) (after_line state line)
log-more written state line log other next = record {
  run = run-more written.lines state line log.run next;
  version = log.version;
  going_on = neither state.is_ended (ends line) log.going_on other.ends;
  types = stands-later written.types _ _ _ _ state.types _ log.types (types_later state (after_line state line) (later-next state line))
      (ap (λ l. state.types ++ l) other.types ∙ append-nil state.types);
  terms = stands-later written.terms _ _ _ _ state.terms _ log.terms (terms_later state (after_line state line) (later-next state line))
      (ap (λ l. state.terms ++ l) other.terms ∙ append-nil state.terms);
}

-- what else a line of a type or a term leaves as it is
record IsPartLine (state : LogState) (line : LogLine) : Type 0 where
  theorems : new_theorems state line ≡ []
  theory : new_entries state line ≡ []
  claims : new_claims state line ≡ []
  ends : ends line ≡ false

type_line-only : (state : LogState) (line : LogLine) (x : HolType) → new_types state line ≡ x ∷ [] → IsPartLine state line × (new_terms state line ≡ [])
type_line-only state (type_variable_line name) x is = (record { theorems = refl; theory = refl; claims = refl; ends = refl }, refl)
type_line-only state bool_line x is = (record { theorems = refl; theory = refl; claims = refl; ends = refl }, refl)
type_line-only state (function_type_line a b) x is = (record { theorems = refl; theory = refl; claims = refl; ends = refl }, refl)
type_line-only state (declared_type_line name) x is = (record { theorems = refl; theory = refl; claims = refl; ends = refl }, refl)
type_line-only state _ x is = cc

term_line-only : (state : LogState) (line : LogLine) (x : Nameless) → new_terms state line ≡ x ∷ [] → IsPartLine state line × (new_types state line ≡ [])
term_line-only state (variable_line name ty) x is = (record { theorems = refl; theory = refl; claims = refl; ends = refl }, refl)
term_line-only state (constant_line name ty) x is = (record { theorems = refl; theory = refl; claims = refl; ends = refl }, refl)
term_line-only state (combination_line a b) x is = (record { theorems = refl; theory = refl; claims = refl; ends = refl }, refl)
term_line-only state (abstraction_line a b) x is = (record { theorems = refl; theory = refl; claims = refl; ends = refl }, refl)
term_line-only state _ x is = cc

-- only types and terms were written
pub record Wrote (old new : Written) (state : LogState) : Type 0 where
  pub after : LogState
  pub log : IsLog new after
  pub types : GoesOn old.types new.types
  pub terms : GoesOn old.terms new.terms
  pub written_theorems : new.theorems ≡ old.theorems
  pub theorems : after.theorems ≡ state.theorems
  pub theory : after.theory ≡ state.theory
  pub claims : after.claims ≡ state.claims
  pub lines : GoesOn old.lines new.lines

pub goes_on-same : {X : Type 0} (xs : List X) → GoesOn xs xs
goes_on-same xs = record { added = []; is = sym (append-nil xs) }

pub goes_on-twice : {X : Type 0} (xs ys zs : List X) → GoesOn xs ys → GoesOn ys zs → GoesOn xs zs
goes_on-twice xs ys zs one two = record { added = one.added ++ two.added; is = two.is ∙ ap (λ l. l ++ two.added) one.is ∙ append_assoc xs one.added two.added }

pub wrote-nothing : (written : Written) (state : LogState) → IsLog written state → Wrote written written state
wrote-nothing written state log = record {
  after = state;
  log = log;
  types = goes_on-same written.types;
  terms = goes_on-same written.terms;
  written_theorems = refl;
  theorems = refl;
  theory = refl;
  claims = refl;
  lines = goes_on-same written.lines;
}

abbrev pub wrote-twice : (first second third : Written) (state : LogState) (one : Wrote first second state) → Wrote second third one.after → Wrote first third state
wrote-twice first second third state one two = record {
  after = two.after;
  log = two.log;
  types = goes_on-twice first.types second.types third.types one.types two.types;
  terms = goes_on-twice first.terms second.terms third.terms one.terms two.terms;
  written_theorems = two.written_theorems ∙ one.written_theorems;
  theorems = two.theorems ∙ one.theorems;
  theory = two.theory ∙ one.theory;
  claims = two.claims ∙ one.claims;
  lines = goes_on-twice first.lines second.lines third.lines one.lines two.lines;
}

-- a line of a type that is new
abbrev new_type_line : LogLine → Written → Written
new_type_line line written = record written { types = written.types ++ line ∷ []; lines = written.lines ++ line ∷ [] }

-- a line of a type, unless it is there
pub wrote-type_line : (written : Written) (state : LogState) (line : LogLine) (x : HolType) → IsLog written state → IsPart line → new_types state line ≡ x ∷ []
    → has_number_fault state line ≡ false → (has_name line ≡ true → first_cause state line ≡ None)
    → Wrote written (with_type_line line written) state × (is_among line (with_type_line line written).types ≡ true)
wrote-type_line written state line x log part made good next = go (is_among line written.types) refl
  where
    only : IsPartLine state line × (new_terms state line ≡ [])
    only = type_line-only state line x made

    says : SaysLater (has_number_fault state) (has_number_fault (after_line state line)) (new_types state) (new_types (after_line state line))
    says = types_later state (after_line state line) (later-next state line)

    added : Wrote written (new_type_line line written) state
    added = record {
      after = after_line state line;
      log = record {
        run = run-more written.lines state line log.run next;
        version = log.version;
        going_on = neither state.is_ended (ends line) log.going_on only.0.ends;
        types = stands-more written.types _ _ _ _ state.types _ line x log.types says (ap (λ l. state.types ++ l) made) (says.same line x made good) (says.good line x made good);
        terms = stands-later written.terms _ _ _ _ state.terms _ log.terms (terms_later state (after_line state line) (later-next state line))
            (ap (λ l. state.terms ++ l) only.1 ∙ append-nil state.terms);
      };
      types = record { added = line ∷ []; is = refl };
      terms = goes_on-same written.terms;
      written_theorems = refl;
      theorems = ap (λ l. state.theorems ++ l) only.0.theorems ∙ append-nil state.theorems;
      theory = ap (λ l. l ++ state.theory) only.0.theory;
      claims = ap (λ l. state.claims ++ l) only.0.claims ∙ append-nil state.claims;
      lines = record { added = line ∷ []; is = refl };
    }

    go : (t : Bool) → is_among line written.types ≡ t → Wrote written (if t then written else new_type_line line written) state
        × (is_among line ((if t then written else new_type_line line written).types) ≡ true)
    go true there = (wrote-nothing written state log, there)
    go false there = (added, last_there (same_line line) written.types line part)

-- a line of a term that is new
abbrev new_term_line : LogLine → Written → Written
new_term_line line written = record written { terms = written.terms ++ line ∷ []; lines = written.lines ++ line ∷ [] }

-- a line of a term, unless it is there
pub wrote-term_line : (written : Written) (state : LogState) (line : LogLine) (x : Nameless) → IsLog written state → IsPart line → new_terms state line ≡ x ∷ []
    → has_number_fault state line ≡ false → (has_name line ≡ true → first_cause state line ≡ None)
    → Wrote written (with_term_line line written) state × (is_among line (with_term_line line written).terms ≡ true)
wrote-term_line written state line x log part made good next = go (is_among line written.terms) refl
  where
    only : IsPartLine state line × (new_types state line ≡ [])
    only = term_line-only state line x made

    says : SaysLater (has_number_fault state) (has_number_fault (after_line state line)) (new_terms state) (new_terms (after_line state line))
    says = terms_later state (after_line state line) (later-next state line)

    added : Wrote written (new_term_line line written) state
    added = record {
      after = after_line state line;
      log = record {
        run = run-more written.lines state line log.run next;
        version = log.version;
        going_on = neither state.is_ended (ends line) log.going_on only.0.ends;
        types = stands-later written.types _ _ _ _ state.types _ log.types (types_later state (after_line state line) (later-next state line))
            (ap (λ l. state.types ++ l) only.1 ∙ append-nil state.types);
        terms = stands-more written.terms _ _ _ _ state.terms _ line x log.terms says (ap (λ l. state.terms ++ l) made) (says.same line x made good) (says.good line x made good);
      };
      types = goes_on-same written.types;
      terms = record { added = line ∷ []; is = refl };
      written_theorems = refl;
      theorems = ap (λ l. state.theorems ++ l) only.0.theorems ∙ append-nil state.theorems;
      theory = ap (λ l. l ++ state.theory) only.0.theory;
      claims = ap (λ l. state.claims ++ l) only.0.claims ∙ append-nil state.claims;
      lines = record { added = line ∷ []; is = refl };
    }

    go : (t : Bool) → is_among line written.terms ≡ t → Wrote written (if t then written else new_term_line line written) state
        × (is_among line ((if t then written else new_term_line line written).terms) ≡ true)
    go true there = (wrote-nothing written state log, there)
    go false there = (added, last_there (same_line line) written.terms line part)
