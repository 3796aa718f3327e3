-- The names in what is written are those that are mentioned.
use Rattle.std.proofs.Common.{◌≡◌, ℕ, ◌+◌, List, [], ◌∷◌, ◌++◌, Bool, true, false, ◌||◌, if◌then◌else◌, refl, sym, ◌∙◌, ap, subst, inl, inr, append-nil}
use Rattle.std.proofs.Common.{Some, None, Result, OnOk, map}
use Rattle.std.specs.Prelude.{slice_get}
use Rattle.std.specs.Option.{option_map}
use Rattle.std.proofs.lemmas.Option.{slice_get-map, same_Some}
use Rattle.std.specs.List.{flat_map}
use Rattle.std.specs.Str.{bytes_eq}
use Rattle.std.proofs.lemmas.Slice.Eq.{bytes_eq-Decides}
use Rattle.hol_model.specs.Logic.Derivable.{IsMember}
use Rattle.hol_model.proofs.Terms.Membership.{of_append, IsMember-append_left, IsMember-append_right}
use Rattle.hol_model.proofs.Tests.{first_of_both}
use Rattle.hol_model.specs.Terms.HolType.{HolType, type_variable, bool_type, function_type, declared_type}
use Rattle.hol_model.specs.Terms.NamedTerm.{NamedTerm, variable, constant, combination, abstraction}
use Rattle.hol_model.specs.Logs.LogLine.{LogLine}
use Rattle.hol_model.specs.Logs.LogLine.LogLine.{type_variable_line, bool_line, declared_type_line, constant_line}
use Rattle.hol_journal.specs.Steps as steps
use Rattle.hol_journal.specs.Steps.{JournalEntry, derived, declared_constant, terms_of, types_of}
use Rattle.hol_journal_log.specs.Needed.{names_in_type, names_in_term, names_in}
use Rattle.hol_journal_log.specs.LogWriting.{Written, same_line, is_among, type_line, term_line, with_type_line, with_term_line}
use Rattle.hol_journal_log.specs.LogWriting.{write_type, write_variable, write_term, write_each, write_types, write_entry, write_entries}
use Rattle.hol_journal_log.specs.Marking.{Notes, names_of_marked}
use Rattle.hol_journal_log.specs.WrittenNames.{name_in_line, names_in_lines, names_written}
use Rattle.hol_journal_log.proofs.MarkingLemmas.{Notes-twice, flat_map-push}

pub Notes-none : (names : List (List ℕ)) → Notes names names []
Notes-none names = record { kept = λ n h. h; added = λ n h. absurd h; only = λ n h. inl h }

pub Notes-swapped : (old new xs ys : List (List ℕ)) → Notes old new (xs ++ ys) → Notes old new (ys ++ xs)
Notes-swapped old new xs ys notes = record {
  kept = notes.kept;
  added = λ n h. notes.added n (swapped n ys xs h);
  only = λ n h. elim (notes.only n h) [ inl before ↦ inl before | inr inside ↦ inr (swapped n xs ys inside) ];
}
  where
    swapped : (n : List ℕ) (front back : List (List ℕ)) → IsMember n (front ++ back) → IsMember n (back ++ front)
    swapped n front back h = elim (of_append n front back h) [ inl a ↦ IsMember-append_right n back front a | inr b ↦ IsMember-append_left n back front b ]

-- what notes nothing comes behind
pub behind_nothing : (first second third xs : List (List ℕ)) → Notes first second xs → Notes second third [] → Notes first third xs
behind_nothing first second third xs early late = subst (Notes first third) (append-nil xs) (Notes-twice first second third xs [] early late)

-- names in front of these, and behind them
module _ (old new xs others : List (List ℕ)) (notes : Notes old new xs) where
  Notes-left : Notes (old ++ others) (new ++ others) xs
  Notes-left = record {
    kept = λ n h. elim (of_append n old others h) [ inl a ↦ IsMember-append_left n new others (notes.kept n a) | inr b ↦ IsMember-append_right n new others b ];
    added = λ n h. IsMember-append_left n new others (notes.added n h);
    only = λ n h. elim (of_append n new others h) [
      | inl a ↦ (elim (notes.only n a) [ inl before ↦ inl (IsMember-append_left n old others before) | inr inside ↦ inr inside ])
      | inr b ↦ inl (IsMember-append_right n old others b)
    ];
  }

  Notes-right : Notes (others ++ old) (others ++ new) xs
  Notes-right = record {
    kept = λ n h. elim (of_append n others old h) [ inl a ↦ IsMember-append_left n others new a | inr b ↦ IsMember-append_right n others new (notes.kept n b) ];
    added = λ n h. IsMember-append_right n others new (notes.added n h);
    only = λ n h. elim (of_append n others new h) [
      | inl a ↦ inl (IsMember-append_left n others old a)
      | inr b ↦ (elim (notes.only n b) [ inl before ↦ inl (IsMember-append_right n others old before) | inr inside ↦ inr inside ])
    ];
  }

-- the names in a line that is among others

same_text : (name a b : List ℕ) → bytes_eq a b ≡ true → IsMember name (a ∷ []) → IsMember name (b ∷ [])
same_text name a b same member = subst (λ t. IsMember name (t ∷ [])) ((bytes_eq-Decides a b).0 same) member

name_of_type : (name text : List ℕ) (other : LogLine) → same_line (declared_type_line text) other ≡ true → IsMember name (text ∷ []) → IsMember name (name_in_line other)
name_of_type name text (declared_type_line b) same member = same_text name text b same member
name_of_type name text other same member = cc

name_of_constant : (name text : List ℕ) (ty : ℕ) (other : LogLine) → same_line (constant_line text ty) other ≡ true → IsMember name (text ∷ []) → IsMember name (name_in_line other)
name_of_constant name text ty (constant_line b t) same member = same_text name text b (first_of_both (bytes_eq text b) _ same) member
name_of_constant name text ty other same member = cc

name_of_line : (name : List ℕ) (line other : LogLine) → same_line line other ≡ true → IsMember name (name_in_line line) → IsMember name (name_in_line other)
name_of_line name (declared_type_line text) other same member = name_of_type name text other same member
name_of_line name (constant_line text ty) other same member = name_of_constant name text ty other same member
name_of_line name line other same member = absurd member

name_among : (name : List ℕ) (line : LogLine) (lines : List LogLine) → is_among line lines ≡ true → IsMember name (name_in_line line) → IsMember name (names_in_lines lines)
name_among name line [] among member = cc
name_among name line (other ∷ lines) among member = go (same_line line other) refl among (λ later. name_among name line lines later member)
  where
    go : (test : Bool) → same_line line other ≡ test → (test || is_among line lines) ≡ true → (is_among line lines ≡ true → IsMember name (names_in_lines lines))
        → IsMember name (names_in_lines (other ∷ lines))
    go true same among later = IsMember-append_left name (name_in_line other) (names_in_lines lines) (name_of_line name line other same member)
    go false same among later = IsMember-append_right name (name_in_line other) (names_in_lines lines) (later among)

-- a line notes its name, where it is put and where it was there

there_notes : (line : LogLine) (lines : List LogLine) → is_among line lines ≡ true → Notes (names_in_lines lines) (names_in_lines lines) (name_in_line line)
there_notes line lines among = record { kept = λ n h. h; added = λ n h. name_among n line lines among h; only = λ n h. inl h }

put_notes : (line : LogLine) (lines : List LogLine) → Notes (names_in_lines lines) (names_in_lines (lines ++ line ∷ [])) (name_in_line line)
put_notes line lines = subst (λ l. Notes (names_in_lines lines) l (name_in_line line)) (sym (flat_map-push name_in_line lines line)) (record {
  kept = λ n h. IsMember-append_left n (names_in_lines lines) (name_in_line line) h;
  added = λ n h. IsMember-append_right n (names_in_lines lines) (name_in_line line) h;
  only = λ n h. of_append n (names_in_lines lines) (name_in_line line) h;
})

type_line_notes : (line : LogLine) (w : Written) → Notes (names_written w) (names_written (with_type_line line w)) (name_in_line line)
type_line_notes line w = go (is_among line w.types) refl
  where
    go : (test : Bool) → is_among line w.types ≡ test
        → Notes (names_written w) (names_written (if test then w else record w { types = w.types ++ line ∷ []; lines = w.lines ++ line ∷ [] })) (name_in_line line)
    go true among = Notes-left _ _ _ (names_in_lines w.terms) (there_notes line w.types among)
    go false among = Notes-left _ _ _ (names_in_lines w.terms) (put_notes line w.types)

term_line_notes : (line : LogLine) (w : Written) → Notes (names_written w) (names_written (with_term_line line w)) (name_in_line line)
term_line_notes line w = go (is_among line w.terms) refl
  where
    go : (test : Bool) → is_among line w.terms ≡ test
        → Notes (names_written w) (names_written (if test then w else record w { terms = w.terms ++ line ∷ []; lines = w.lines ++ line ∷ [] })) (name_in_line line)
    go true among = Notes-right _ _ _ (names_in_lines w.types) (there_notes line w.terms among)
    go false among = Notes-right _ _ _ (names_in_lines w.types) (put_notes line w.terms)

-- types and terms

write_type-notes : (ty : HolType) (w : Written) → Notes (names_written w) (names_written (write_type ty w)) (names_in_type ty)
write_type-notes (type_variable name) w = type_line_notes (type_variable_line name) w
write_type-notes bool_type w = type_line_notes bool_line w
write_type-notes (function_type a b) w =
    let one = write_type a w in
    let two = write_type b one in
    behind_nothing (names_written w) (names_written two) (names_written (write_type (function_type a b) w)) (names_in_type a ++ names_in_type b)
    (Notes-twice (names_written w) (names_written one) (names_written two) (names_in_type a) (names_in_type b) (write_type-notes a w) (write_type-notes b one))
    (type_line_notes (type_line two.types (function_type a b)) two)
write_type-notes (declared_type name) w = type_line_notes (declared_type_line name) w

write_variable-notes : (name : List ℕ) (ty : HolType) (w : Written) → Notes (names_written w) (names_written (write_variable name ty w)) (names_in_type ty)
write_variable-notes name ty w =
    let one = write_type ty w in
    behind_nothing (names_written w) (names_written one) (names_written (write_variable name ty w)) (names_in_type ty)
    (write_type-notes ty w) (term_line_notes (term_line one.types one.terms (variable name ty)) one)

write_term-notes : (term : NamedTerm) (w : Written) → Notes (names_written w) (names_written (write_term term w)) (names_in_term term)
write_term-notes (variable name ty) w = write_variable-notes name ty w
write_term-notes (constant name ty) w =
    let one = write_type ty w in
    let new = write_term (constant name ty) w in
    Notes-swapped (names_written w) (names_written new) (names_in_type ty) (name ∷ [])
    (Notes-twice (names_written w) (names_written one) (names_written new) (names_in_type ty) (name ∷ [])
    (write_type-notes ty w) (term_line_notes (term_line one.types one.terms (constant name ty)) one))
write_term-notes (combination f a) w =
    let one = write_term f w in
    let two = write_term a one in
    behind_nothing (names_written w) (names_written two) (names_written (write_term (combination f a) w)) (names_in_term f ++ names_in_term a)
    (Notes-twice (names_written w) (names_written one) (names_written two) (names_in_term f) (names_in_term a) (write_term-notes f w) (write_term-notes a one))
    (term_line_notes (term_line two.types two.terms (combination f a)) two)
write_term-notes (abstraction name ty body) w =
    let one = write_variable name ty w in
    let two = write_term body one in
    behind_nothing (names_written w) (names_written two) (names_written (write_term (abstraction name ty body) w)) (names_in_type ty ++ names_in_term body)
    (Notes-twice (names_written w) (names_written one) (names_written two) (names_in_type ty) (names_in_term body) (write_variable-notes name ty w) (write_term-notes body one))
    (term_line_notes (term_line two.types two.terms (abstraction name ty body)) two)

write_each-notes : {A : Type 0} (write : A → Written → Written) (names : A → List (List ℕ)) → ((x : A) (w : Written) → Notes (names_written w) (names_written (write x w)) (names x))
    → (xs : List A) (w : Written) → Notes (names_written w) (names_written (write_each write xs w)) (flat_map names xs)
write_each-notes write names each [] w = Notes-none (names_written w)
write_each-notes write names each (x ∷ xs) w =
    let one = write x w in
    Notes-twice (names_written w) (names_written one) (names_written (write_each write xs one)) (names x) (flat_map names xs) (each x w) (write_each-notes write names each xs one)

-- entries

write_entry-notes : (number : ℕ) (entry : JournalEntry) (w : Written) → Notes (names_written w) (names_written (write_entry number entry w)) (names_in entry)
write_entry-notes number (derived step sequent) w =
    let one = write_types (types_of step) w in
    let two = write_each write_term (terms_of step) one in
    let types = flat_map names_in_type (types_of step) in
    let terms = flat_map names_in_term (terms_of step) in
    Notes-swapped (names_written w) (names_written two) types terms (Notes-twice (names_written w) (names_written one) (names_written two) types terms
    (write_each-notes write_type names_in_type write_type-notes (types_of step) w) (write_each-notes write_term names_in_term write_term-notes (terms_of step) one))
write_entry-notes number (steps.declared_type name) w = Notes-none (names_written w)
write_entry-notes number (declared_constant name ty) w = write_type-notes ty w

pub write_entries-notes : (number : ℕ) (entries : List JournalEntry) (marks : List Bool) (w : Written)
    → Notes (names_written w) (names_written (write_entries number entries marks w)) (names_of_marked entries marks)
write_entries-notes number [] marks w = Notes-none (names_written w)
write_entries-notes number (entry ∷ entries) [] w = Notes-none (names_written w)
write_entries-notes number (entry ∷ entries) (true ∷ marks) w =
    let one = write_entry number entry w in
    Notes-twice (names_written w) (names_written one) (names_written (write_entries (number + 1) entries marks one)) (names_in entry) (names_of_marked entries marks)
    (write_entry-notes number entry w) (write_entries-notes (number + 1) entries marks one)
write_entries-notes number (entry ∷ entries) (false ∷ marks) w = write_entries-notes (number + 1) entries marks w

-- names that are noted where they are written
pub noted_written : (entries : List JournalEntry) (marks : List Bool) (nothing w : Written) (before names : List (List ℕ)) → names_written nothing ≡ []
    → w ≡ write_entries 0 entries marks nothing → Notes before names (names_written w) → Notes before names (names_of_marked entries marks)
noted_written entries marks nothing w before names none is notes = record {
  kept = notes.kept;
  added = λ n h. notes.added n (written.added n h);
  only = λ n h. elim (notes.only n h) [
    | inl old ↦ inl old
    | inr inside ↦ (elim (written.only n inside) [ inl none ↦ absurd none | inr member ↦ inr member ])
  ];
}
  where
    written : Notes [] (names_written w) (names_of_marked entries marks)
    written = subst (λ v. Notes [] (names_written v) (names_of_marked entries marks)) (sym is)
        (subst (λ l. Notes l (names_written (write_entries 0 entries marks nothing)) (names_of_marked entries marks)) none (write_entries-notes 0 entries marks nothing))

-- one more line
pub notes_line_turn : (first second third : List (List ℕ)) (front longer : List LogLine) (line : LogLine) → Notes first second (names_in_lines front) → Notes second third (name_in_line line)
    → longer ≡ front ++ line ∷ [] → Notes first third (names_in_lines longer)
notes_line_turn first second third front longer line before one is =
    let names : names_in_lines longer ≡ names_in_lines front ++ name_in_line line = ap names_in_lines is ∙ flat_map-push name_in_line front line in
    subst (Notes first third) (sym names) (Notes-twice first second third (names_in_lines front) (name_in_line line) before one)

-- the line under a key, in the lines of keys
module _ {K : Type 0} (line_of : K → LogLine) (keys : List K) (place : ℕ) (line : LogLine) (there : slice_get (map line_of keys) place ≡ Some line) where
  key_there : option_map line_of (slice_get keys place) ≡ Some line
  key_there = sym (slice_get-map line_of keys place) ∙ there

  pub line_under : (key : K) → Some key ≡ slice_get keys place → line_of key ≡ line
  line_under key is = same_Some (line_of key) line (ap (option_map line_of) is ∙ key_there)

  pub none_under : None ≡ slice_get keys place → ⊥
  none_under is = none_some (ap (option_map line_of) is ∙ key_there)
    where
      none_some : None ≡ Some line → ⊥
      none_some same = cc

-- the name in a line that is there is noted
pub noted_at : {K A E : Type 0} (line_of : K → LogLine) (keys : List K) (key : K) (place : ℕ) (line : LogLine) (answer : Result A E) (old new : List (List ℕ)) → Some key ≡ slice_get keys place
    → slice_get (map line_of keys) place ≡ Some line → OnOk answer (Notes old new (name_in_line (line_of key))) → OnOk answer (Notes old new (name_in_line line))
noted_at line_of keys key place line answer old new is there notes =
    subst (λ l. OnOk answer (Notes old new (name_in_line l))) (line_under line_of keys place line there key is) notes
