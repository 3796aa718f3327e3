-- The steps of marking.
use Rattle.std.proofs.Common.{get_or, Bor, Result, Ok, Err, OnOk, if◌then◌else◌, append_assoc, append-nil, ◌≡◌, ◌⊎◌, ℕ, zero, suc, ◌+◌, ◌<◌, ◌≤◌}
use Rattle.std.proofs.Common.{List, [], ◌∷◌, ◌++◌, length, Bool, true, false, ◌||◌, ◌&&◌, not, Option, Some, None, refl, sym, ◌∙◌, ap, subst, inl, inr, arith}
use Rattle.std.specs.Prelude.{slice_get}
use Rattle.std.specs.List.{list_any, slice_index_or, flat_map}
use Rattle.indexmap.specs.IndexSet.{insert_key}
use Rattle.std.specs.Str.{bytes_eq}
use Rattle.std.proofs.lemmas.Slice.Eq.{bytes_eq-Decides}
use Rattle.hol_model.specs.Logic.Derivable.{IsMember}
use Rattle.hol_model.specs.Goals.Goals.{Sequent}
use Rattle.hol_model.proofs.Terms.Membership.{of_append, IsMember-append_left, IsMember-append_right}
use Rattle.hol_journal.specs.Steps.{Step, by_refl, by_trans, by_mk_comb, by_abs, by_beta, by_assume, by_eq_mp, by_deduct, by_inst, by_inst_type}
use Rattle.hol_journal.specs.Steps.{by_eta, by_select, by_definition, JournalEntry, derived, declared_type, declared_constant, entries_of}
use Rattle.hol_journal.specs.Journal.{added_by}
use Rattle.hol_journal_log.specs.Needed.{names_in, introduced_by, IsNeeded, by_claim, by_citation, by_name, StandOnEarlier, MarksNeeded}
use Rattle.hol_journal_log.specs.Marking.{IsMarkedAt, AreMarked, held_names, is_reached, cited_by, cited_at, CitesWithin, IsEntryMarked, Marks, Notes, is_noted, AreCitedFrom, names_of_marked, Introduces, IsSame, IsMentioned, AreMentioned, IsMarkedFrom}

pub Marks-twice : (first second third : List Bool) (xs ys : List ℕ) → Marks first second xs → Marks second third ys → Marks first third (xs ++ ys)
Marks-twice first second third xs ys early late = record {
  one_each = late.one_each ∙ early.one_each;
  kept = λ n h. late.kept n (early.kept n h);
  added = λ n h. elim (of_append n xs ys h) [ inl a ↦ late.kept n (early.added n a) | inr b ↦ late.added n b ];
  only = λ n h. elim (late.only n h) [
    | inl before ↦ (elim (early.only n before) [ inl o ↦ inl o | inr a ↦ inr (IsMember-append_left n xs ys a) ])
    | inr b ↦ inr (IsMember-append_right n xs ys b)
  ];
}

pub Notes-twice : (first second third : List (List ℕ)) (xs ys : List (List ℕ)) → Notes first second xs → Notes second third ys → Notes first third (xs ++ ys)
Notes-twice first second third xs ys early late = record {
  kept = λ n h. late.kept n (early.kept n h);
  added = λ n h. elim (of_append n xs ys h) [ inl a ↦ late.kept n (early.added n a) | inr b ↦ late.added n b ];
  only = λ n h. elim (late.only n h) [
    | inl before ↦ (elim (early.only n before) [ inl o ↦ inl o | inr a ↦ inr (IsMember-append_left n xs ys a) ])
    | inr b ↦ inr (IsMember-append_right n xs ys b)
  ];
}

pub noted_member : (names : List (List ℕ)) (name : List ℕ) → is_noted names (Some name) ≡ true → IsMember name names
noted_member [] name noted = cc
noted_member (other ∷ names) name noted = go (bytes_eq name other) refl noted (noted_member names name)
  where
    go : (test : Bool) → bytes_eq name other ≡ test → (test || list_any (bytes_eq name) names) ≡ true
        → (list_any (bytes_eq name) names ≡ true → IsMember name names) → (name ≡ other) ⊎ IsMember name names
    go true is any later = inl ((bytes_eq-Decides name other).0 is)
    go false is any later = inr (later any)

pub member_noted : (names : List (List ℕ)) (name : List ℕ) → IsMember name names → is_noted names (Some name) ≡ true
member_noted [] name member = absurd member
member_noted (other ∷ names) name (inl same) = let is : bytes_eq name other ≡ true = (bytes_eq-Decides name other).1 same in rw is
member_noted (other ∷ names) name (inr member) = go (bytes_eq name other) (member_noted names name member)
  where
    go : (test : Bool) → list_any (bytes_eq name) names ≡ true → (test || list_any (bytes_eq name) names) ≡ true
    go true later = refl
    go false later = later

pub within : {X : Type 0} (xs : List X) (i : ℕ) (x : X) → slice_get xs i ≡ Some x → i < length xs
within [] i x there = cc
within (y ∷ xs) zero x there = omega arith
within (y ∷ xs) (suc i) x there = let deeper = within xs i x there in omega arith

pub same_value : {A : Type 0} {x y : A} → Some x ≡ Some y → x ≡ y
same_value same = cc

at_least : (place number : ℕ) → place ≤ number → (number ≡ place) ⊎ (place + 1 ≤ number)
at_least zero zero above = inl refl
at_least zero (suc number) above = inr (omega arith)
at_least (suc place) zero above = absurd (omega arith)
at_least (suc place) (suc number) above = elim (at_least place number (omega arith)) [ inl same ↦ inl (ap suc same) | inr more ↦ inr (omega arith) ]

true_false : (test : Bool) → test ≡ true → test ≡ false → ⊥
true_false test is is_not = cc

introduced_in : (names : List (List ℕ)) (introduced : Option (List ℕ)) → is_noted names introduced ≡ true → (name : List ℕ) × (introduced ≡ Some name)
introduced_in names None noted = cc
introduced_in names (Some name) noted = (name, refl)

-- an entry that introduces a noted name introduces one
pub introduced_name : (names : List (List ℕ)) (entry : JournalEntry) → is_noted names (introduced_by entry) ≡ true → Introduces entry
introduced_name names entry noted = introduced_in names (introduced_by entry) noted

true_mark : (marks : List Bool) (place : ℕ) → slice_index_or marks place false ≡ true → IsMarkedAt marks place
true_mark [] place at = cc
true_mark (mark ∷ marks) zero at = ap Some at
true_mark (mark ∷ marks) (suc place) at = true_mark marks place at

false_mark : (marks : List Bool) (place : ℕ) → IsMarkedAt marks place → slice_index_or marks place false ≡ false → ⊥
false_mark [] place at not_at = cc
false_mark (mark ∷ marks) zero at not_at = cc
false_mark (mark ∷ marks) (suc place) at not_at = false_mark marks place at not_at

-- the cited entries, one entry further back

cited_below : (entries : List JournalEntry) (place number : ℕ) (entry : JournalEntry) → StandOnEarlier entries → slice_get entries place ≡ Some entry → IsMember number (cited_by entry) → number < place
cited_below entries place number (derived step sequent) earlier there member = earlier.cites number place step sequent there member
cited_below entries place number (declared_type name) earlier there member = absurd member
cited_below entries place number (declared_constant name ty) earlier there member = absurd member

-- what the entry at a place cites, as the place tells
pub cited_member : (entries : List JournalEntry) (place number user : ℕ) (entry : JournalEntry) (step : Step) (sequent : Sequent) → slice_get entries place ≡ Some entry → user ≡ place
    → slice_get entries user ≡ Some (derived step sequent) → IsMember number (entries_of step) → IsMember number (cited_by entry)
cited_member entries place number user entry step sequent there here using member =
    let same : entry ≡ derived step sequent = same_value (sym there ∙ ap (slice_get entries) (sym here) ∙ using) in
    subst (λ e. IsMember number (cited_by e)) (sym same) member

module _ (entries : List JournalEntry) (claimed : List ℕ) (place : ℕ) (entry : JournalEntry) (marks new_marks : List Bool)
    (earlier : StandOnEarlier entries) (there : slice_get entries place ≡ Some entry) (cited : AreCitedFrom entries claimed (place + 1) marks) where
  cited_needed : IsNeeded entries claimed place → (number : ℕ) (user : JournalEntry) → entry ≡ user → IsMember number (cited_by user) → IsNeeded entries claimed number
  cited_needed is_needed number (derived step sequent) is member = by_citation number place step sequent is_needed (there ∙ ap Some is) member
  cited_needed is_needed number (declared_type name) is member = absurd member
  cited_needed is_needed number (declared_constant name ty) is member = absurd member

  cited_of_marked : IsMarkedAt marks place → Marks marks new_marks (cited_by entry) → AreCitedFrom entries claimed place new_marks
  cited_of_marked at more = record {
    one_each = more.one_each ∙ cited.one_each;
    needed = λ number marked. elim (more.only number marked) [
      | inl before ↦ cited.needed number before
      | inr member ↦ cited_needed (cited.needed place at) number entry refl member
    ];
    of_claims = λ number member. more.kept number (cited.of_claims number member);
    cited = λ number user step sequent above marked using member. elim (at_least place user above) [
      | inl here ↦ more.added number (cited_member entries place number user entry step sequent there here using member)
      | inr later ↦ (elim (more.only user marked) [
        | inl before ↦ more.kept number (cited.cited number user step sequent later before using member)
        | inr inside ↦ (let less = cited_below entries place user entry earlier there inside in absurd (omega arith))
      ])
    ];
  }

  cited_of_unmarked : slice_index_or marks place false ≡ false → Marks marks new_marks [] → AreCitedFrom entries claimed place new_marks
  cited_of_unmarked not_at more = record {
    one_each = more.one_each ∙ cited.one_each;
    needed = λ number marked. cited.needed number (before number marked);
    of_claims = λ number member. more.kept number (cited.of_claims number member);
    cited = λ number user step sequent above marked using member. elim (at_least place user above) [
      | inl here ↦ absurd (false_mark marks place (subst (IsMarkedAt marks) here (before user marked)) not_at)
      | inr later ↦ more.kept number (cited.cited number user step sequent later (before user marked) using member)
    ];
  }
    where
      before : (number : ℕ) → IsMarkedAt new_marks number → IsMarkedAt marks number
      before number marked = elim (more.only number marked) [ inl old ↦ old | inr none ↦ absurd none ]

  pub cited_further : Marks marks new_marks (cited_at place entry marks) → AreCitedFrom entries claimed place new_marks
  cited_further more = go (slice_index_or marks place false) refl more
    where
      go : (test : Bool) → slice_index_or marks place false ≡ test → Marks marks new_marks (if test then cited_by entry else []) → AreCitedFrom entries claimed place new_marks
      go true at more = cited_of_marked (true_mark marks place at) more
      go false not_at more = cited_of_unmarked not_at more

pub Marks-none : (marks : List Bool) → Marks marks marks []
Marks-none marks = record { one_each = refl; kept = λ n h. h; added = λ n h. absurd h; only = λ n h. inl h }

-- an entry that is not marked has nothing marked, and one that is what it cites
pub cited_not_at : (place : ℕ) (entry : JournalEntry) (marks : List Bool) → slice_index_or marks place false ≡ false → Marks marks marks (cited_at place entry marks)
cited_not_at place entry marks not_at = rw not_at (Marks-none marks)

cited_at_marked : (place : ℕ) (entry : JournalEntry) (marks new_marks : List Bool) → slice_index_or marks place false ≡ true → Marks marks new_marks (cited_by entry)
    → Marks marks new_marks (cited_at place entry marks)
cited_at_marked place entry marks new_marks at more = rw at more

-- an entry that is told has what it cites marked
pub told_cited : (entries : List JournalEntry) (place : ℕ) (told entry : JournalEntry) (marks new_marks : List Bool) → slice_get entries place ≡ Some told → slice_get entries place ≡ Some entry
    → slice_index_or marks place false ≡ true → Marks marks new_marks (cited_by told) → Marks marks new_marks (cited_at place entry marks)
told_cited entries place told entry marks new_marks is there at more =
    cited_at_marked place entry marks new_marks at (subst (λ e. Marks marks new_marks (cited_by e)) (same_value (sym is ∙ there)) more)

-- the mark at a place, as an index reads it
pub mark_there : (marks : List Bool) (place : ℕ) (mark value : Bool) → place < length marks → mark ≡ get_or marks place mark → mark ≡ value → slice_index_or marks place false ≡ value
mark_there [] place mark value inside is same = absurd (omega arith)
mark_there (first ∷ marks) zero mark value inside is same = sym is ∙ same
mark_there (first ∷ marks) (suc place) mark value inside is same = mark_there marks place mark value (omega arith) is same

-- the entries of noted names, one entry further back

pub introduces_none_cited : (entry : JournalEntry) → Introduces entry → cited_by entry ≡ []
introduces_none_cited (derived (by_definition name term) sequent) introduces = refl
introduces_none_cited (declared_type name) introduces = refl
introduces_none_cited (declared_constant name ty) introduces = refl
introduces_none_cited (derived step sequent) introduces = cc

either_reached : (at noted : Bool) → (not at && noted) ≡ false → (at ≡ true) ⊎ (noted ≡ false)
either_reached true noted is = inl refl
either_reached false noted is = inr is

pub both_reached : (at noted : Bool) → (not at && noted) ≡ true → noted ≡ true
both_reached true noted is = cc
both_reached false noted is = is

module _ (entries : List JournalEntry) (claimed : List ℕ) (place : ℕ) (entry : JournalEntry) (marks : List Bool) (names : List (List ℕ))
    (earlier : StandOnEarlier entries) (there : slice_get entries place ≡ Some entry) (marked : IsMarkedFrom entries claimed (place + 1) marks names) where
  -- a needed entry that is not marked introduces a noted name
  reached : IsNeeded entries claimed place → IsMarkedAt marks place ⊎ (is_noted names (introduced_by entry) ≡ true)
  reached (by_claim number member) = inl (marked.of_claims place member)
  reached (by_citation number user step sequent needed using member) =
      let above = earlier.cites place user step sequent using member in
      inl (marked.cited place user step sequent (marked.complete user (omega arith) needed) using member)
  reached (by_name number user other using name needed at member here introduced) =
      let above = earlier.mentions place user other using name at member here introduced in
      let noted : IsMember name names = marked.noted user using name (marked.complete user (omega arith) needed) at member in
      let same : introduced_by entry ≡ Some name = cc in
      inr (rw same (member_noted names name noted))

  -- where the entry is not reached, nothing changes
  passed : is_reached place entry marks names ≡ false → IsMarkedFrom entries claimed place marks names
  passed not_reached = record {
    one_each = marked.one_each;
    needed = marked.needed;
    mentioned = marked.mentioned;
    of_claims = marked.of_claims;
    complete = λ number above is_needed. elim (at_least place number above) [
      | inl here ↦ subst (IsMarkedAt marks) (sym here) (at_place (reached (subst (IsNeeded entries claimed) here is_needed)))
      | inr later ↦ marked.complete number later is_needed
    ];
    cited = marked.cited;
    noted = marked.noted;
  }
    where
      at_place : IsMarkedAt marks place ⊎ (is_noted names (introduced_by entry) ≡ true) → IsMarkedAt marks place
      at_place (inl at) = at
      at_place (inr noted) = elim (either_reached (slice_index_or marks place false) (is_noted names (introduced_by entry)) not_reached) [
        | inl at ↦ true_mark marks place at
        | inr not_noted ↦ absurd (true_false (is_noted names (introduced_by entry)) noted not_noted)
      ]

  -- where it is reached, it is needed and cites nothing, and it is marked
  module _ (new_marks : List Bool) (new_names : List (List ℕ)) (is_needed : IsNeeded entries claimed place) (introduces : Introduces entry)
      (marks_more : Marks marks new_marks (place ∷ [])) (notes_more : Notes names new_names (names_in entry)) where
    marked_here : IsMarkedFrom entries claimed place new_marks new_names
    marked_here = record {
      one_each = marks_more.one_each ∙ marked.one_each;
      needed = λ number at. elim (marks_more.only number at) [
        | inl before ↦ marked.needed number before
        | inr (inl here) ↦ subst (IsNeeded entries claimed) (sym here) is_needed
        | inr (inr none) ↦ absurd none
      ];
      mentioned = λ name member. elim (notes_more.only name member) [
        | inl before ↦ marked.mentioned name before
        | inr inside ↦ record { user = place; using = entry; needed = is_needed; there = there; member = inside }
      ];
      of_claims = λ number member. marks_more.kept number (marked.of_claims number member);
      complete = λ number above needed. elim (at_least place number above) [
        | inl here ↦ marks_more.added number (inl here)
        | inr later ↦ marks_more.kept number (marked.complete number later needed)
      ];
      cited = λ number user step sequent at using member. elim (marks_more.only user at) [
        | inl before ↦ marks_more.kept number (marked.cited number user step sequent before using member)
        | inr (inl here) ↦ absurd (none_cited number (cited_member entries place number user entry step sequent there here using member))
        | inr (inr none) ↦ absurd none
      ];
      noted = λ user using name at there_user member. elim (marks_more.only user at) [
        | inl before ↦ notes_more.kept name (marked.noted user using name before there_user member)
        | inr (inl here) ↦ notes_more.added name (same_entry user using name here there_user member)
        | inr (inr none) ↦ absurd none
      ];
    }
      where
        none_cited : (number : ℕ) → IsMember number (cited_by entry) → ⊥
        none_cited number member = subst (IsMember number) (introduces_none_cited entry introduces) member

        same_entry : (user : ℕ) (using : JournalEntry) (name : List ℕ) → user ≡ place → slice_get entries user ≡ Some using → IsMember name (names_in using) → IsMember name (names_in entry)
        same_entry user using name here there_user member =
            let same : entry ≡ using = same_value (sym there ∙ ap (slice_get entries) (sym here) ∙ there_user) in
            subst (λ e. IsMember name (names_in e)) (sym same) member

  -- an entry that is reached introduces a name, and is needed

  reached_name : is_reached place entry marks names ≡ true → is_noted names (introduced_by entry) ≡ true
  reached_name is = both_reached (slice_index_or marks place false) (is_noted names (introduced_by entry)) is

  reached_needed : (introduces : Introduces entry) → is_noted names (introduced_by entry) ≡ true → IsNeeded entries claimed place
  reached_needed introduces noted =
      let here : is_noted names (Some introduces.0) ≡ true = ap (is_noted names) (sym introduces.1) ∙ noted in
      let by = marked.mentioned introduces.0 (noted_member names introduces.0 here) in
      by_name place by.user entry by.using introduces.0 by.needed by.there by.member there introduces.1

  pub one_further : (new_marks : List Bool) (new_names : List (List ℕ)) → IsEntryMarked place entry marks names new_marks new_names → IsMarkedFrom entries claimed place new_marks new_names
  one_further new_marks new_names is = go (is_reached place entry marks names) refl
    where
      go : (test : Bool) → is_reached place entry marks names ≡ test → IsMarkedFrom entries claimed place new_marks new_names
      go true reaches =
          let noted = reached_name reaches in
          let introduces : Introduces entry = introduced_name names entry noted in
          marked_here new_marks new_names (reached_needed introduces noted) introduces (is.marked reaches) (is.noted reaches)
      go false passes = rw (is.kept_marks passes, is.kept_names passes) (passed passes)

-- whether an entry is reached, by its mark and by what it introduces

pub passed_marked : (place : ℕ) (entry : JournalEntry) (marks : List Bool) (names : List (List ℕ)) → slice_index_or marks place false ≡ true → is_reached place entry marks names ≡ false
passed_marked place entry marks names at = rw at refl

pub reached_as_noted : (place : ℕ) (entry : JournalEntry) (marks : List Bool) (names : List (List ℕ)) (noted : Bool) → slice_index_or marks place false ≡ false
    → noted ≡ is_noted names (introduced_by entry) → is_reached place entry marks names ≡ noted
reached_as_noted place entry marks names noted not_at is = rw not_at (sym is)

-- an entry that is neither marked nor cited

pub within_of : (step wanted : Step) (count number : ℕ) → step ≡ wanted → ((n : ℕ) → IsMember n (entries_of step) → n < count) → IsMember number (entries_of wanted) → number < count
within_of step wanted count number is all member = all number (subst (λ s. IsMember number (entries_of s)) (sym is) member)

-- names that the code holds

any_held : (name : List ℕ) (keys : List (Bor (List ℕ))) → list_any (λ key. bytes_eq name key.now) keys ≡ list_any (bytes_eq name) (held_names keys)
any_held name [] = refl
any_held name (key ∷ keys) = ap (λ rest. bytes_eq name key.now || rest) (any_held name keys)

pub noted_by : (answer : Bool) (keys : List (Bor (List ℕ))) (text name : List ℕ) (introduced : Option (List ℕ))
    → answer ≡ list_any (λ key. bytes_eq text key.now) keys → text ≡ name → introduced ≡ Some name
    → answer ≡ is_noted (held_names keys) introduced
noted_by answer keys text name introduced is same introduces = is ∙ (any_held text keys ∙ (ap (λ n. is_noted (held_names keys) (Some n)) same ∙ ap (is_noted (held_names keys)) (sym introduces)))

held_end : (keys : List (Bor (List ℕ))) (key : Bor (List ℕ)) → held_names (keys ++ key ∷ []) ≡ held_names keys ++ key.now ∷ []
held_end [] key = refl
held_end (first ∷ keys) key = ap (λ l. first.now ∷ l) (held_end keys key)

pub note_put : (keys new_keys : List (Bor (List ℕ))) (key : Bor (List ℕ)) → new_keys ≡ insert_key (λ a b. bytes_eq a.now b.now) keys key → Notes (held_names keys) (held_names new_keys) (key.now ∷ [])
note_put keys new_keys key put = go (list_any (λ other. bytes_eq key.now other.now) keys) refl put
  where
    go : (test : Bool) → list_any (λ other. bytes_eq key.now other.now) keys ≡ test → new_keys ≡ (if test then keys else keys ++ key ∷ [])
        → Notes (held_names keys) (held_names new_keys) (key.now ∷ [])
    go true any is =
        let there : IsMember key.now (held_names keys) = noted_member (held_names keys) key.now (sym (any_held key.now keys) ∙ any) in
        subst (λ k. Notes (held_names keys) (held_names k) (key.now ∷ [])) (sym is) (record {
          kept = λ n h. h;
          added = λ n h. elim h [ inl same ↦ subst (λ m. IsMember m (held_names keys)) (sym same) there | inr none ↦ absurd none ];
          only = λ n h. inl h;
        })
    go false any is =
        let longer : held_names new_keys ≡ held_names keys ++ key.now ∷ [] = ap held_names is ∙ held_end keys key in
        subst (λ l. Notes (held_names keys) l (key.now ∷ [])) (sym longer) (record {
          kept = λ n h. IsMember-append_left n (held_names keys) (key.now ∷ []) h;
          added = λ n h. IsMember-append_right n (held_names keys) (key.now ∷ []) h;
          only = λ n h. of_append n (held_names keys) (key.now ∷ []) h;
        })

pub notes_two : {A E : Type 0} (answer : Result A E) (first second third : List (List ℕ)) (xs ys zs : List (List ℕ)) → zs ≡ xs ++ ys
    → Notes first second xs → OnOk answer (Notes second third ys) → OnOk answer (Notes first third zs)
notes_two (Ok x) first second third xs ys zs is early late = subst (Notes first third) (sym is) (Notes-twice first second third xs ys early late)
notes_two (Err e) first second third xs ys zs is early late = tt

pub flat_map-push : {A B : Type 0} (f : A → List B) (xs : List A) (x : A) → flat_map f (xs ++ x ∷ []) ≡ flat_map f xs ++ f x
flat_map-push f [] x = append-nil (f x)
flat_map-push f (y ∷ xs) x = ap (λ l. f y ++ l) (flat_map-push f xs x) ∙ sym (append_assoc (f y) (flat_map f xs) (f x))

-- the first marks

pub marked_more : (old new : List Bool) (front longer : List ℕ) (number : ℕ) → AreMarked old front → Marks old new (number ∷ []) → longer ≡ front ++ number ∷ [] → AreMarked new longer
marked_more old new front longer number before more is = subst (AreMarked new) (sym is) (record {
  all = λ n h. elim (of_append n front (number ∷ []) h) [ inl a ↦ more.kept n (before.all n a) | inr b ↦ more.added n b ];
  only = λ n h. elim (more.only n h) [ inl a ↦ IsMember-append_left n front (number ∷ []) (before.only n a) | inr b ↦ IsMember-append_right n front (number ∷ []) b ];
})

pub entry_passed : (place : ℕ) (entry : JournalEntry) (marks : List Bool) (names : List (List ℕ)) → is_reached place entry marks names ≡ false → IsEntryMarked place entry marks names marks names
entry_passed place entry marks names passes = record { marked = λ is. cc (is, passes); noted = λ is. cc (is, passes); kept_marks = λ _. refl; kept_names = λ _. refl }

pub entry_marked : {A E : Type 0} (answer : Result A E) (place : ℕ) (entry : JournalEntry) (marks new_marks : List Bool) (names new_names : List (List ℕ)) → is_reached place entry marks names ≡ true
    → Marks marks new_marks (place ∷ []) → (Introduces entry → OnOk answer (Notes names new_names (names_in entry))) → OnOk answer (IsEntryMarked place entry marks names new_marks new_names)
entry_marked (Ok x) place entry marks new_marks names new_names reaches more notes =
    let noted = both_reached (slice_index_or marks place false) (is_noted names (introduced_by entry)) reaches in
    record {
      marked = λ is. more;
      noted = λ is. notes (introduced_name names entry noted);
      kept_marks = λ is_not. cc (reaches, is_not);
      kept_names = λ is_not. cc (reaches, is_not);
    }
entry_marked (Err e) place entry marks new_marks names new_names reaches more notes = tt

pub IsSame-same : (is_more : Bool) (marks : List Bool) → IsSame is_more is_more marks marks
IsSame-same is_more marks = record { before = λ is. is; marks = λ is. refl }

-- where it is told that there is more
pub more_told : {A E : Type 0} (answer : Result A E) (was_more : Bool) (old new : List Bool) → OnOk answer (IsSame was_more true old new)
more_told (Ok x) was_more old new = record { before = λ is_not. cc is_not; marks = λ is_not. cc is_not }
more_told (Err e) was_more old new = tt

pub IsSame-twice : (first second third : Bool) (a b c : List Bool) → IsSame first second a b → IsSame second third b c → IsSame first third a c
IsSame-twice first second third a b c early late = record {
  before = λ is. early.before (late.before is);
  marks = λ is. late.marks is ∙ early.marks (late.before is);
}

-- the entry at a place
pub entry_at : {X : Type 0} (entries : List X) (at : ℕ) → at < length entries → (entry : X) × (slice_get entries at ≡ Some entry)
entry_at [] at within = absurd (omega arith)
entry_at (first ∷ entries) zero within = (first, refl)
entry_at (first ∷ entries) (suc at) within = entry_at entries at (omega arith)

-- an entry that adds nothing introduces no name
introduces_nothing : (entry : JournalEntry) → added_by entry ≡ [] → introduced_by entry ≡ None
introduces_nothing (derived (by_refl term) sequent) adds = refl
introduces_nothing (derived (by_trans first second) sequent) adds = refl
introduces_nothing (derived (by_mk_comb first second) sequent) adds = refl
introduces_nothing (derived (by_abs binder theorem) sequent) adds = refl
introduces_nothing (derived (by_beta term) sequent) adds = refl
introduces_nothing (derived (by_assume term) sequent) adds = refl
introduces_nothing (derived (by_eq_mp first second) sequent) adds = refl
introduces_nothing (derived (by_deduct first second) sequent) adds = refl
introduces_nothing (derived (by_inst theorem pairs) sequent) adds = refl
introduces_nothing (derived (by_inst_type theorem pairs) sequent) adds = refl
introduces_nothing (derived by_eta sequent) adds = refl
introduces_nothing (derived by_select sequent) adds = refl
introduces_nothing (derived (by_definition name term) sequent) adds = cc
introduces_nothing (declared_type name) adds = cc
introduces_nothing (declared_constant name ty) adds = cc

-- one that adds nothing is passed over
pub untold_passed : (place : ℕ) (entry : JournalEntry) (marks : List Bool) (names : List (List ℕ)) → added_by entry ≡ [] → IsEntryMarked place entry marks names marks names
untold_passed place entry marks names adds =
    let none : introduced_by entry ≡ None = introduces_nothing entry adds in
    entry_passed place entry marks names (passes (slice_index_or marks place false) (introduced_by entry) none)
  where
    passes : (at : Bool) (introduced : Option (List ℕ)) → introduced ≡ None → (not at && is_noted names introduced) ≡ false
    passes true introduced none = refl
    passes false introduced none = rw none refl

-- an entry cites within the marks
pub cites_within : (entries : List JournalEntry) (at count : ℕ) (entry : JournalEntry) → StandOnEarlier entries → slice_get entries at ≡ Some entry → at < count → CitesWithin entry count
cites_within entries at count (derived step sequent) earlier there below number member = let less = earlier.cites number at step sequent there member in omega arith
cites_within entries at count (declared_type name) earlier there below number member = absurd member
cites_within entries at count (declared_constant name ty) earlier there below number member = absurd member

-- before any entry is looked at

pub citing_begun : (entries : List JournalEntry) (claimed : List ℕ) (marks : List Bool) → length marks ≡ length entries → AreMarked marks claimed → AreCitedFrom entries claimed (length entries) marks
citing_begun entries claimed marks one_each are = record {
  one_each = one_each;
  needed = λ number at. by_claim number (are.only number at);
  of_claims = are.all;
  cited = λ number user step sequent above at using member. (let less = within marks user true at in absurd (omega arith));
}

-- the names that marked entries mention

module _ (name : List ℕ) where
  names_of_user : (entries : List JournalEntry) (marks : List Bool) (user : ℕ) (using : JournalEntry) → IsMarkedAt marks user → slice_get entries user ≡ Some using
      → IsMember name (names_in using) → IsMember name (names_of_marked entries marks)
  names_of_user [] marks user using at there member = cc
  names_of_user (entry ∷ entries) [] user using at there member = cc
  names_of_user (entry ∷ entries) (true ∷ marks) zero using at there member =
      let same : entry ≡ using = same_value there in
      IsMember-append_left name (names_in entry) (names_of_marked entries marks) (subst (λ e. IsMember name (names_in e)) (sym same) member)
  names_of_user (entry ∷ entries) (false ∷ marks) zero using at there member = cc
  names_of_user (entry ∷ entries) (true ∷ marks) (suc user) using at there member =
      IsMember-append_right name (names_in entry) (names_of_marked entries marks) (names_of_user entries marks user using at there member)
  names_of_user (entry ∷ entries) (false ∷ marks) (suc user) using at there member = names_of_user entries marks user using at there member

record IsUsed (entries : List JournalEntry) (marks : List Bool) (name : List ℕ) : Type 0 where
  pub user : ℕ
  pub using : JournalEntry
  pub marked : IsMarkedAt marks user
  pub there : slice_get entries user ≡ Some using
  pub member : IsMember name (names_in using)

used_later : (entry : JournalEntry) (mark : Bool) (entries : List JournalEntry) (marks : List Bool) (name : List ℕ) → IsUsed entries marks name → IsUsed (entry ∷ entries) (mark ∷ marks) name
used_later entry mark entries marks name used = record { user = suc used.user; using = used.using; marked = used.marked; there = used.there; member = used.member }

user_of_name : (entries : List JournalEntry) (marks : List Bool) (name : List ℕ) → IsMember name (names_of_marked entries marks) → IsUsed entries marks name
user_of_name [] marks name member = absurd member
user_of_name (entry ∷ entries) [] name member = absurd member
user_of_name (entry ∷ entries) (true ∷ marks) name member = elim (of_append name (names_in entry) (names_of_marked entries marks) member) [
  | inl here ↦ record { user = zero; using = entry; marked = refl; there = refl; member = here }
  | inr later ↦ used_later entry true entries marks name (user_of_name entries marks name later)
]
user_of_name (entry ∷ entries) (false ∷ marks) name member = used_later entry false entries marks name (user_of_name entries marks name member)

-- before any entry is looked at for its name
pub naming_begun : (entries : List JournalEntry) (claimed : List ℕ) (marks : List Bool) (before names : List (List ℕ)) → StandOnEarlier entries → AreCitedFrom entries claimed 0 marks
    → AreMentioned entries claimed before → Notes before names (names_of_marked entries marks) → IsMarkedFrom entries claimed (length entries) marks names
naming_begun entries claimed marks before names earlier cited were_mentioned notes = record {
  one_each = cited.one_each;
  needed = cited.needed;
  mentioned = λ name member. mentioned name (notes.only name member);
  of_claims = cited.of_claims;
  complete = λ number above needed. none number above needed;
  cited = λ number user step sequent at using member. cited.cited number user step sequent (omega arith) at using member;
  noted = λ user using name at there member. notes.added name (names_of_user name entries marks user using at there member);
}
  where
    mentioned : (name : List ℕ) → IsMember name before ⊎ IsMember name (names_of_marked entries marks) → IsMentioned entries claimed name
    mentioned name (inl member) = were_mentioned name member
    mentioned name (inr member) =
        let used = user_of_name entries marks name member in
        record { user = used.user; using = used.using; needed = cited.needed used.user used.marked; there = used.there; member = used.member }

    none : (number : ℕ) → length entries ≤ number → IsNeeded entries claimed number → IsMarkedAt marks number
    none number above (by_claim n member) = cited.of_claims number member
    none number above (by_citation n user step sequent needed using member) =
        let less = earlier.cites number user step sequent using member in
        let inside = within entries user (derived step sequent) using in
        absurd (omega arith)
    none number above (by_name n user entry using name needed at member here introduced) = let inside = within entries number entry here in absurd (omega arith)

-- after all entries
pub marking_ended : (entries : List JournalEntry) (claimed : List ℕ) (marks : List Bool) (names : List (List ℕ)) → IsMarkedFrom entries claimed 0 marks names → MarksNeeded entries claimed marks
marking_ended entries claimed marks names marked = record { one_each = marked.one_each; marked = λ number. (marked.needed number, marked.complete number (omega arith)) }

pub member_at : (xs : List ℕ) (i d : ℕ) → i < length xs → IsMember (get_or xs i d) xs
member_at [] i d inside = absurd (omega arith)
member_at (x ∷ xs) zero d inside = inl refl
member_at (x ∷ xs) (suc i) d inside = inr (member_at xs i d (omega arith))
