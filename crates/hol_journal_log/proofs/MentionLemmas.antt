-- Names that are noted before anything is written.
use Rattle.std.proofs.Common.{get_or, Result, Ok, Err, OnOk, if◌then◌else◌, ◌≡◌, ◌⊎◌, ℕ, zero, suc, ◌<◌}
use Rattle.std.proofs.Common.{List, [], ◌∷◌, ◌++◌, length, Bool, true, false, Some, refl, sym, ◌∙◌, ap, subst, inl, inr, arith}
use Rattle.std.specs.Prelude.{slice_get}
use Rattle.std.specs.List.{flat_map, slice_index_or}
use Rattle.hol_model.specs.Logic.Derivable.{IsMember}
use Rattle.hol_model.specs.Goals.Goals.{Sequent}
use Rattle.hol_model.proofs.Terms.Membership.{IsMember-append_left, IsMember-append_right}
use Rattle.hol_model.specs.Terms.NamedTerm.{NamedTerm}
use Rattle.hol_journal.specs.Steps.{Step, JournalEntry, derived, terms_of, both_parts}
use Rattle.hol_journal_log.specs.Needed.{names_in_term, names_in, introduced_by, IsNeeded, by_name}
use Rattle.hol_journal_log.specs.Marking.{IsMarkedAt, cited_by, is_reached, is_noted, IsEntryMarked, Marks, Notes, NotesAmong, AreCitedFrom, AreMentioned, Introduces}
use Rattle.hol_journal_log.proofs.MarkingLemmas.{noted_member, introduced_name, both_reached, introduces_none_cited, cited_member}

pub among_none : (names others : List (List ℕ)) → NotesAmong names names others
among_none names others = record { only = λ n h. inl h }

-- what is noted is among more names

pub among_wider : {A E : Type 0} (answer : Result A E) (old new xs zs : List (List ℕ)) → ((n : List ℕ) → IsMember n xs → IsMember n zs)
    → OnOk answer (NotesAmong old new xs) → OnOk answer (NotesAmong old new zs)
among_wider (Ok x) old new xs zs inside notes = record { only = λ n h. elim (notes.only n h) [ inl before ↦ inl before | inr member ↦ inr (inside n member) ] }
among_wider (Err e) old new xs zs inside notes = tt

pub among_noted : {A E : Type 0} (answer : Result A E) (old new xs zs : List (List ℕ)) → zs ≡ xs → OnOk answer (Notes old new xs) → OnOk answer (NotesAmong old new zs)
among_noted (Ok x) old new xs zs is notes = record { only = λ n h. subst (λ l. IsMember n old ⊎ IsMember n l) (sym is) (notes.only n h) }
among_noted (Err e) old new xs zs is notes = tt

pub noted_among : (old new xs : List (List ℕ)) → Notes old new xs → NotesAmong old new xs
noted_among old new xs notes = record { only = notes.only }

pub among_two : {A E : Type 0} (answer : Result A E) (first second third xs ys zs : List (List ℕ)) → zs ≡ xs ++ ys
    → NotesAmong first second xs → OnOk answer (NotesAmong second third ys) → OnOk answer (NotesAmong first third zs)
among_two (Ok x) first second third xs ys zs is early late = subst (NotesAmong first third) (sym is) (record {
  only = λ n h. elim (late.only n h) [
    | inl before ↦ (elim (early.only n before) [ inl b ↦ inl b | inr inside ↦ inr (IsMember-append_left n xs ys inside) ])
    | inr inside ↦ inr (IsMember-append_right n xs ys inside)
  ];
})
among_two (Err e) first second third xs ys zs is early late = tt

-- the terms of a rule

pub among_term : {A E : Type 0} (answer : Result A E) (old new : List (List ℕ)) (term : NamedTerm) (terms : List NamedTerm) → terms ≡ term ∷ []
    → OnOk answer (NotesAmong old new (names_in_term term)) → OnOk answer (NotesAmong old new (flat_map names_in_term terms))
among_term answer old new term terms is notes =
    among_wider answer old new (names_in_term term) (flat_map names_in_term terms)
    (λ n member. subst (λ l. IsMember n (flat_map names_in_term l)) (sym is) (IsMember-append_left n (names_in_term term) [] member)) notes

pub among_terms : {A E : Type 0} (answer : Result A E) (old new : List (List ℕ)) (some terms : List NamedTerm) → terms ≡ some
    → OnOk answer (NotesAmong old new (flat_map names_in_term some)) → OnOk answer (NotesAmong old new (flat_map names_in_term terms))
among_terms answer old new some terms is notes = subst (λ l. OnOk answer (NotesAmong old new (flat_map names_in_term l))) (sym is) notes

-- a pair's names are among those of all pairs

first_of_pair : (pairs : List (NamedTerm × NamedTerm)) (i : ℕ) (pair : NamedTerm × NamedTerm) → i < length pairs → pair ≡ get_or pairs i pair
    → (n : List ℕ) → IsMember n (names_in_term pair.0) → IsMember n (flat_map names_in_term (both_parts pairs))
first_of_pair [] i pair inside is n member = absurd (omega arith)
first_of_pair (one ∷ pairs) zero pair inside is n member =
    IsMember-append_left n (names_in_term one.0) (names_in_term one.1 ++ flat_map names_in_term (both_parts pairs)) (subst (λ (p : NamedTerm × NamedTerm). IsMember n (names_in_term p.0)) is member)
first_of_pair (one ∷ pairs) (suc i) pair inside is n member =
    IsMember-append_right n (names_in_term one.0) (names_in_term one.1 ++ flat_map names_in_term (both_parts pairs))
    (IsMember-append_right n (names_in_term one.1) (flat_map names_in_term (both_parts pairs)) (first_of_pair pairs i pair (omega arith) is n member))

second_of_pair : (pairs : List (NamedTerm × NamedTerm)) (i : ℕ) (pair : NamedTerm × NamedTerm) → i < length pairs → pair ≡ get_or pairs i pair
    → (n : List ℕ) → IsMember n (names_in_term pair.1) → IsMember n (flat_map names_in_term (both_parts pairs))
second_of_pair [] i pair inside is n member = absurd (omega arith)
second_of_pair (one ∷ pairs) zero pair inside is n member =
    IsMember-append_right n (names_in_term one.0) (names_in_term one.1 ++ flat_map names_in_term (both_parts pairs))
    (IsMember-append_left n (names_in_term one.1) (flat_map names_in_term (both_parts pairs)) (subst (λ (p : NamedTerm × NamedTerm). IsMember n (names_in_term p.1)) is member))
second_of_pair (one ∷ pairs) (suc i) pair inside is n member =
    IsMember-append_right n (names_in_term one.0) (names_in_term one.1 ++ flat_map names_in_term (both_parts pairs))
    (IsMember-append_right n (names_in_term one.1) (flat_map names_in_term (both_parts pairs)) (second_of_pair pairs i pair (omega arith) is n member))

pub among_pair : (pairs : List (NamedTerm × NamedTerm)) (i : ℕ) (pair : NamedTerm × NamedTerm) (first second third fourth : List (List ℕ)) → i < length pairs → pair ≡ get_or pairs i pair
    → NotesAmong first second (flat_map names_in_term (both_parts pairs)) → NotesAmong second third (names_in_term pair.0) → NotesAmong third fourth (names_in_term pair.1)
    → NotesAmong first fourth (flat_map names_in_term (both_parts pairs))
among_pair pairs i pair first second third fourth inside is before early late = record {
  only = λ n h. elim (late.only n h) [
    | inl between ↦ (elim (early.only n between) [
      | inl front ↦ before.only n front
      | inr member ↦ inr (first_of_pair pairs i pair inside is n member)
    ])
    | inr member ↦ inr (second_of_pair pairs i pair inside is n member)
  ];
}

-- the names of an entry

pub among_entry : {A E : Type 0} (answer : Result A E) (old new : List (List ℕ)) (entry : JournalEntry) (step : Step) (sequent : Sequent) → entry ≡ derived step sequent
    → OnOk answer (NotesAmong old new (flat_map names_in_term (terms_of step))) → OnOk answer (NotesAmong old new (names_in entry))
among_entry answer old new entry step sequent is notes =
    among_wider answer old new (flat_map names_in_term (terms_of step)) (names_in entry)
    (λ n member. subst (λ e. IsMember n (names_in e)) (sym is) (IsMember-append_left n (flat_map names_in_term (terms_of step)) _ member)) notes

pub marked_among : {A E : Type 0} (answer : Result A E) (mark : Bool) (old new : List (List ℕ)) (told entry : JournalEntry) → mark ≡ true → told ≡ entry
    → OnOk answer (NotesAmong old new (names_in told)) → OnOk answer (NotesAmong old new (if mark then names_in entry else []))
marked_among answer true old new told entry is same notes = subst (λ e. OnOk answer (NotesAmong old new (names_in e))) same notes
marked_among answer false old new told entry is same notes = cc

-- names that a needed entry mentions

pub mentioned_more : (entries : List JournalEntry) (claimed : List ℕ) (place : ℕ) (entry : JournalEntry) (old new : List (List ℕ)) → slice_get entries place ≡ Some entry
    → IsNeeded entries claimed place → AreMentioned entries claimed old → NotesAmong old new (names_in entry) → AreMentioned entries claimed new
mentioned_more entries claimed place entry old new there needed mentioned notes = λ name member. elim (notes.only name member) [
  | inl before ↦ mentioned name before
  | inr inside ↦ record { user = place; using = entry; needed = needed; there = there; member = inside }
]

-- the entry at a place, if it is marked
pub mentioned_at : (entries : List JournalEntry) (claimed : List ℕ) (place : ℕ) (entry : JournalEntry) (mark : Bool) (marks : List Bool) (old new : List (List ℕ))
    → AreCitedFrom entries claimed 0 marks → slice_get entries place ≡ Some entry → mark ≡ get_or marks place false
    → AreMentioned entries claimed old → NotesAmong old new (if mark then names_in entry else []) → AreMentioned entries claimed new
mentioned_at entries claimed place entry true marks old new cited there is mentioned notes =
    mentioned_more entries claimed place entry old new there (cited.needed place (marked_there marks place is)) mentioned notes
  where
    marked_there : (marks : List Bool) (place : ℕ) → true ≡ get_or marks place false → IsMarkedAt marks place
    marked_there [] place is = cc
    marked_there (first ∷ marks) zero is = ap (λ m. Some m) (sym is)
    marked_there (first ∷ marks) (suc place) is = marked_there marks place is
mentioned_at entries claimed place entry false marks old new cited there is mentioned notes = λ name member. elim (notes.only name member) [
  | inl before ↦ mentioned name before
  | inr none ↦ absurd none
]

-- the entries of names that are mentioned, one entry further back

pub record MarksMentioned (entries : List JournalEntry) (claimed : List ℕ) (marks : List Bool) (names : List (List ℕ)) : Type 0 where
  pub cited : AreCitedFrom entries claimed 0 marks
  pub mentioned : AreMentioned entries claimed names

module _ (entries : List JournalEntry) (claimed : List ℕ) (place : ℕ) (entry : JournalEntry) (marks : List Bool) (names : List (List ℕ))
    (there : slice_get entries place ≡ Some entry) (before : MarksMentioned entries claimed marks names) where
  -- an entry that is reached introduces a name that is mentioned
  reached_needed : (introduces : Introduces entry) → is_noted names (introduced_by entry) ≡ true → IsNeeded entries claimed place
  reached_needed introduces noted =
      let here : is_noted names (Some introduces.0) ≡ true = ap (is_noted names) (sym introduces.1) ∙ noted in
      let by = before.mentioned introduces.0 (noted_member names introduces.0 here) in
      by_name place by.user entry by.using introduces.0 by.needed by.there by.member there introduces.1

  module _ (new_marks : List Bool) (new_names : List (List ℕ)) (needed : IsNeeded entries claimed place) (introduces : Introduces entry)
      (marks_more : Marks marks new_marks (place ∷ [])) (notes_more : Notes names new_names (names_in entry)) where
    none_cited : (number : ℕ) → IsMember number (cited_by entry) → ⊥
    none_cited number member = subst (IsMember number) (introduces_none_cited entry introduces) member

    marked_here : MarksMentioned entries claimed new_marks new_names
    marked_here = record {
      cited = record {
        one_each = marks_more.one_each ∙ before.cited.one_each;
        needed = λ number at. elim (marks_more.only number at) [
          | inl old ↦ before.cited.needed number old
          | inr (inl here) ↦ subst (IsNeeded entries claimed) (sym here) needed
          | inr (inr none) ↦ absurd none
        ];
        of_claims = λ number member. marks_more.kept number (before.cited.of_claims number member);
        cited = λ number user step sequent above at using member. elim (marks_more.only user at) [
          | inl old ↦ marks_more.kept number (before.cited.cited number user step sequent above old using member)
          | inr (inl here) ↦ absurd (none_cited number (cited_member entries place number user entry step sequent there here using member))
          | inr (inr none) ↦ absurd none
        ];
      };
      mentioned = mentioned_more entries claimed place entry names new_names there needed before.mentioned (noted_among names new_names (names_in entry) notes_more);
    }

  pub mentioned_further : (new_marks : List Bool) (new_names : List (List ℕ)) → IsEntryMarked place entry marks names new_marks new_names → MarksMentioned entries claimed new_marks new_names
  mentioned_further new_marks new_names is = go (is_reached place entry marks names) refl
    where
      go : (test : Bool) → is_reached place entry marks names ≡ test → MarksMentioned entries claimed new_marks new_names
      go true reaches =
          let noted = both_reached (slice_index_or marks place false) (is_noted names (introduced_by entry)) reaches in
          let introduces : Introduces entry = introduced_name names entry noted in
          marked_here new_marks new_names (reached_needed introduces noted) introduces (is.marked reaches) (is.noted reaches)
      go false passes = rw (is.kept_marks passes, is.kept_names passes) before
