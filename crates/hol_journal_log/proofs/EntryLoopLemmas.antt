-- Entries one after another.
use Rattle.std.proofs.Common.{◌≡◌, ℕ, ◌+◌, ◌<◌, List, [], ◌∷◌, ◌++◌, length, take, Bool, true, false, nat_eq, map, Result, Ok, Err, OnOk, refl, sym, ◌∙◌, ap, subst, inl, inr, arith}
use Rattle.std.proofs.Common.{Some}
use Rattle.std.specs.Prelude.{slice_get}
use Rattle.std.proofs.lemmas.List.{length-take-le, take_more}
use Rattle.std.proofs.lemmas.Option.{slice_get_within, get_or_from_slice_get}
use Rattle.std.specs.List.{list_any}
use Rattle.std.proofs.lemmas.Bool.Decides.{nat_tests}
use Rattle.hol_model.specs.Logic.Derivable.{IsMember}
use Rattle.hol_model.proofs.Terms.Membership.{of_append}
use Rattle.hol_journal.specs.Steps.{JournalEntry, derived, declared_type, declared_constant, terms_of, types_of}
use Rattle.hol_journal_log.specs.LogWriting.{Written, Claimed, write_claim, write_claims, write_each, write_entry, write_entries, write_types}
use Rattle.hol_journal_log.specs.Writing.{StandBelow, write_marked}
use Rattle.hol_journal_log.specs.declared.claim.Claim.{Claim}
use Rattle.hol_journal_log.specs.Claims.{claim_of, claims_of}
use Rattle.hol_journal_log.specs.Pruning.{entries_of_claims}
use Rattle.hol_journal_log.proofs.WrittenLemmas.{Grows-twice, write_type-grows, write_types-grows, write_terms-grows}

-- an entry above all others has no theorem's line
pub none_there : (number : ℕ) (theorems : List ℕ) → ((n : ℕ) → IsMember n theorems → n < number) → list_any (nat_eq number) theorems ≡ false
none_there number [] below = refl
none_there number (first ∷ theorems) below =
    let other : nat_eq number first ≡ false = differ number first (below first (inl refl)) in
    let rest : list_any (nat_eq number) theorems ≡ false = none_there number theorems (λ n member. below n (inr member)) in
    cc
  where
    differ : (a b : ℕ) → b < a → nat_eq a b ≡ false
    differ a b less = grind (arith, nat_tests)

same_theorems : (number place : ℕ) (old new : Written) → new.theorems ≡ old.theorems → number < place → StandBelow number old → StandBelow place new
same_theorems number place old new same less stand = record { below = λ n member. let below = stand.below n (subst (λ l. IsMember n l) same member) in omega arith }

one_more_theorem : (number : ℕ) (old new : Written) → new.theorems ≡ old.theorems ++ number ∷ [] → StandBelow number old → StandBelow (number + 1) new
one_more_theorem number old new longer stand = record {
  below = λ n member. elim (of_append n old.theorems (number ∷ []) (subst (λ l. IsMember n l) longer member)) [
    | inl before ↦ (let below = stand.below n before in omega arith)
    | inr (inl same) ↦ omega arith
    | inr (inr none) ↦ absurd none
  ];
}

pub entry_below : (number : ℕ) (entry : JournalEntry) (old : Written) → StandBelow number old → StandBelow (number + 1) (write_entry number entry old)
entry_below number (derived step sequent) old stand =
    let middle : Written = write_types (types_of step) old in
    let grows = Grows-twice old middle _ (write_types-grows (types_of step) old) (write_terms-grows (terms_of step) middle) in
    one_more_theorem number old _ (ap (λ l. l ++ number ∷ []) grows.theorems) stand
entry_below number (declared_type name) old stand = same_theorems number (number + 1) old _ refl (omega arith) stand
entry_below number (declared_constant name ty) old stand = let grows = write_type-grows ty old in same_theorems number (number + 1) old _ grows.theorems (omega arith) stand

pub unmarked_below : (number : ℕ) (old : Written) → StandBelow number old → StandBelow (number + 1) old
unmarked_below number old stand = same_theorems number (number + 1) old old refl (omega arith) stand

pub marked_answers : {A E : Type 0} (answer : Result A E) (number : ℕ) (entry : JournalEntry) (old new : Written) → StandBelow number old
    → OnOk answer (new ≡ write_entry number entry old) → OnOk answer (StandBelow (number + 1) new)
marked_answers (Ok x) number entry old new stand is = subst (StandBelow (number + 1)) (sym is) (entry_below number entry old stand)
marked_answers (Err e) number entry old new stand is = tt

-- one more entry
pub write_entries-push : (place : ℕ) (entries : List JournalEntry) (marks : List Bool) (entry : JournalEntry) (mark : Bool) (w : Written) → length marks ≡ length entries
    → write_entries place (entries ++ entry ∷ []) (marks ++ mark ∷ []) w ≡ write_marked (place + length entries) mark entry (write_entries place entries marks w)
write_entries-push place [] [] entry true w same = ap (λ n. write_entry n entry w) (omega arith)
write_entries-push place [] [] entry false w same = refl
write_entries-push place [] (m ∷ marks) entry mark w same = absurd (omega arith)
write_entries-push place (e ∷ entries) [] entry mark w same = absurd (omega arith)
write_entries-push place (e ∷ entries) (true ∷ marks) entry mark w same =
    let deeper = write_entries-push (place + 1) entries marks entry mark (write_entry place e w) (omega arith) in
    deeper ∙ ap (λ n. write_marked n mark entry (write_entries (place + 1) entries marks (write_entry place e w))) (omega arith)
write_entries-push place (e ∷ entries) (false ∷ marks) entry mark w same =
    let deeper = write_entries-push (place + 1) entries marks entry mark w (omega arith) in
    deeper ∙ ap (λ n. write_marked n mark entry (write_entries (place + 1) entries marks w)) (omega arith)

length_take : {X : Type 0} (xs : List X) (i : ℕ) → i < length xs → length (take i xs) ≡ i
length_take xs i within = length-take-le i xs (omega arith)

-- the entries before a place, and the entry there
pub one_more_entry : {X : Type 0} (entries : List X) (i : ℕ) (entry : X) → slice_get entries i ≡ Some entry → take (i + 1) entries ≡ take i entries ++ entry ∷ []
one_more_entry entries i entry there =
    take_more entries i entry (slice_get_within entries i entry there) ∙ ap (λ e. take i entries ++ e ∷ []) (get_or_from_slice_get entries i entry entry there)

pub entries_turn : (entries : List JournalEntry) (marks : List Bool) (i : ℕ) (entry : JournalEntry) (mark : Bool) (nothing w new : Written) → i < length entries → length marks ≡ length entries
    → take (i + 1) entries ≡ take i entries ++ entry ∷ [] → take (i + 1) marks ≡ take i marks ++ mark ∷ []
    → w ≡ write_entries 0 (take i entries) (take i marks) nothing → new ≡ write_marked i mark entry w
    → new ≡ write_entries 0 (take (i + 1) entries) (take (i + 1) marks) nothing
entries_turn entries marks i entry mark nothing w new within one_each longer_entries longer_marks before is =
    let front = take i entries in
    let count : length front ≡ i = length_take entries i within in
    let marks_count : length (take i marks) ≡ i = length_take marks i (omega arith) in
    let push = write_entries-push 0 front (take i marks) entry mark nothing (omega arith) in
    let place : 0 + length front ≡ i = omega arith in
    let goal : write_entries 0 (take (i + 1) entries) (take (i + 1) marks) nothing ≡ write_entries 0 (front ++ entry ∷ []) (take i marks ++ mark ∷ []) nothing =
    ap (λ l. write_entries 0 l (take (i + 1) marks) nothing) longer_entries ∙ ap (λ l. write_entries 0 (front ++ entry ∷ []) l nothing) longer_marks in
    is ∙ (ap (write_marked i mark entry) before ∙ (ap (λ n. write_marked n mark entry (write_entries 0 front (take i marks) nothing)) (sym place) ∙ (sym push ∙ sym goal)))

-- one more claim

write_each-push : {A : Type 0} (write : A → Written → Written) (items : List A) (item : A) (w : Written) → write_each write (items ++ item ∷ []) w ≡ write item (write_each write items w)
write_each-push write [] item w = refl
write_each-push write (first ∷ items) item w = write_each-push write items item (write first w)

map-push : {A B : Type 0} (f : A → B) (items : List A) (item : A) → map f (items ++ item ∷ []) ≡ map f items ++ f item ∷ []
map-push f [] item = refl
map-push f (first ∷ items) item = ap (λ l. f first ∷ l) (map-push f items item)

pub claims_turn : {A : Type 0} (f : A → Claimed) (front longer : List A) (item : A) (old w new : Written) → longer ≡ front ++ item ∷ []
    → w ≡ write_claims (map f front) old → new ≡ write_claim (f item) w
    → new ≡ write_claims (map f longer) old
claims_turn f front longer item old w new is before one =
    one ∙ (ap (write_claim (f item)) before
    ∙ (sym (write_each-push write_claim (map f front) (f item) old)
    ∙ (ap (λ l. write_claims l old) (sym (map-push f front item)) ∙ ap (λ l. write_claims (map f l) old) (sym is))))

pub numbers_turn : {A : Type 0} (f : A → ℕ) (front longer : List A) (item : A) (numbers new : List ℕ) (number : ℕ) → longer ≡ front ++ item ∷ []
    → numbers ≡ map f front → new ≡ numbers ++ number ∷ [] → number ≡ f item
    → new ≡ map f longer
numbers_turn f front longer item numbers new number is before one same =
    one ∙ (ap (λ l. l ++ number ∷ []) before ∙ (ap (λ n. map f front ++ n ∷ []) same ∙ (sym (map-push f front item) ∙ ap (map f) (sym is))))

map-map : {A B C : Type 0} (f : A → B) (g : B → C) (items : List A) → map (λ item. g (f item)) items ≡ map g (map f items)
map-map f g [] = refl
map-map f g (first ∷ items) = ap (λ l. g (f first) ∷ l) (map-map f g items)

pub numbers_of_claims : (claims : List Claim) → map (λ claim. claim.theorem.now.entry) claims ≡ entries_of_claims (claims_of claims)
numbers_of_claims claims = map-map claim_of (λ claim. claim.made.entry) claims
