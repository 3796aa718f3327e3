-- Entries that are kept: one more, one less, and the one of a number.
use Rattle.std.proofs.Common.{◌≡◌, ℕ, zero, suc, ◌+◌, ◌<◌, ◌≤◌, List, [], ◌∷◌, ◌++◌, length, true, false, Option, Some, None, sym, ◌∙◌, ap, subst}
use Rattle.std.proofs.Common.{inl, inr, Bor, Vec, Global, IfSome, option_to_list, append-nil, get_or, ltb, arith}
use Rattle.std.proofs.lemmas.List.{length_push}
use Rattle.std.specs.Prelude.{slice_get}
use Rattle.std.specs.List.Sorted.{IsNonDecreasingBy, IsPartitionPoint}
use Rattle.std.specs.Slice.{IsItemAt}
use Rattle.std.proofs.lemmas.Bool.{ltb-true, ltb-false, cases_lt}
use Rattle.std.proofs.lemmas.Option.{slice_get_within, get_or_from_slice_get, slice_get-get_or}
use Rattle.hol_journal.specs.Steps.{JournalEntry}
use Rattle.hol_journal.specs.Views.{entry_of}
use Rattle.hol_journal.specs.Journal.{added_by}
use Rattle.hol_journal.specs.Stored.{AreKept}
use Rattle.hol_journal.specs.declared.kept.Numbered.{Numbered}

-- one more
pub kept_pushed : (number : ℕ) (entries : List JournalEntry) (kept : List Numbered) (entry : JournalEntry) (one : Numbered)
    → AreKept number entries kept → one.number ≡ number + length entries → entry_of one.entry ≡ entry → AreKept number (entries ++ entry ∷ []) (kept ++ one ∷ [])
kept_pushed number [] [] entry one are numbered is = inl (record { numbered = omega (arith, numbered); is = is }, tt)
kept_pushed number [] (other ∷ kept) entry one are numbered is = absurd are
kept_pushed number (first ∷ entries) [] entry one are numbered is = inr (are.0, kept_pushed (number + 1) entries [] entry one are.1 (omega (arith, numbered)) is)
kept_pushed number (first ∷ entries) (other ∷ kept) entry one (inl here) numbered is = inl (here.0, kept_pushed (number + 1) entries kept entry one here.1 (omega (arith, numbered)) is)
kept_pushed number (first ∷ entries) (other ∷ kept) entry one (inr later) numbered is = inr (later.0, kept_pushed (number + 1) entries (other ∷ kept) entry one later.1 (omega (arith, numbered)) is)

-- the last one is dropped
pub kept_popped : (number : ℕ) (entries : List JournalEntry) (kept : List Numbered) (one : Numbered)
    → AreKept number entries (kept ++ one ∷ []) → added_by (entry_of one.entry) ≡ [] → AreKept number entries kept
kept_popped number [] [] one are adds = absurd are
kept_popped number [] (other ∷ kept) one are adds = absurd are
kept_popped number (first ∷ entries) [] one (inl here) adds = (subst (λ e. added_by e ≡ []) here.0.is adds, here.1)
kept_popped number (first ∷ entries) [] one (inr later) adds = (later.0, kept_popped (number + 1) entries [] one later.1 adds)
kept_popped number (first ∷ entries) (other ∷ kept) one (inl here) adds = inl (here.0, kept_popped (number + 1) entries kept one here.1 adds)
kept_popped number (first ∷ entries) (other ∷ kept) one (inr later) adds = inr (later.0, kept_popped (number + 1) entries (other ∷ kept) one later.1 adds)

-- none stands before the first number
kept_above : (number : ℕ) (entries : List JournalEntry) (kept : List Numbered) → AreKept number entries kept
    → (place : ℕ) (default : Numbered) → place < length kept → number ≤ (get_or kept place default).number
kept_above number entries [] are place default within = absurd (omega arith)
kept_above number [] (one ∷ kept) are place default within = absurd are
kept_above number (entry ∷ entries) (one ∷ kept) (inl here) zero default within = let at : one.number ≡ number = here.0.numbered in omega (arith, at)
kept_above number (entry ∷ entries) (one ∷ kept) (inl here) (suc place) default within = let above = kept_above (number + 1) entries kept here.1 place default (omega arith) in omega (arith, above)
kept_above number (entry ∷ entries) (one ∷ kept) (inr later) place default within = let above = kept_above (number + 1) entries (one ∷ kept) later.1 place default within in omega (arith, above)

at_above : (number : ℕ) (entries : List JournalEntry) (kept : List Numbered) → AreKept number entries kept
    → (place : ℕ) (one : Numbered) → slice_get kept place ≡ Some one → number ≤ one.number
at_above number entries kept are place one there =
    let above = kept_above number entries kept are place one (slice_get_within kept place one there) in
    let is = ap (λ (x : Numbered). x.number) (get_or_from_slice_get kept place one one there) in omega (arith, above, is)

-- their numbers rise
pub kept_rise : (number : ℕ) (entries : List JournalEntry) (kept : List Numbered) → AreKept number entries kept → IsNonDecreasingBy (λ (one : Numbered). one.number) kept
kept_rise number entries [] are i j default before within = absurd (omega arith)
kept_rise number [] (one ∷ kept) are i j default before within = absurd are
kept_rise number (entry ∷ entries) (one ∷ kept) (inl here) zero zero default before within = omega arith
kept_rise number (entry ∷ entries) (one ∷ kept) (inl here) zero (suc j) default before within =
    let at : one.number ≡ number = here.0.numbered in let above = kept_above (number + 1) entries kept here.1 j default (omega arith) in omega (arith, at, above)
kept_rise number (entry ∷ entries) (one ∷ kept) (inl here) (suc i) zero default before within = absurd (omega arith)
kept_rise number (entry ∷ entries) (one ∷ kept) (inl here) (suc i) (suc j) default before within = kept_rise (number + 1) entries kept here.1 i j default (omega arith) (omega arith)
kept_rise number (entry ∷ entries) (one ∷ kept) (inr later) i j default before within = kept_rise (number + 1) entries (one ∷ kept) later.1 i j default before within

-- one that is kept is the entry of its number
pub kept_at : (number : ℕ) (entries : List JournalEntry) (kept : List Numbered) → AreKept number entries kept
    → (place : ℕ) (one : Numbered) (at : ℕ) → slice_get kept place ≡ Some one → one.number ≡ number + at → slice_get entries at ≡ Some (entry_of one.entry)
kept_at number entries [] are place one at there numbered = cc
kept_at number [] (first ∷ kept) are place one at there numbered = absurd are
kept_at number (entry ∷ entries) (first ∷ kept) (inl here) zero one zero there numbered = let same : first ≡ one = cc in ap Some (sym here.0.is ∙ ap (λ (x : Numbered). entry_of x.entry) same)
kept_at number (entry ∷ entries) (first ∷ kept) (inl here) zero one (suc at) there numbered =
    let same : first ≡ one = cc in let is : first.number ≡ number = here.0.numbered in let other : first.number ≡ one.number =
    ap (λ (x : Numbered). x.number) same in absurd (omega (arith, is, other, numbered))
kept_at number (entry ∷ entries) (first ∷ kept) (inl here) (suc place) one zero there numbered =
    let above = at_above (number + 1) entries kept here.1 place one there in absurd (omega (arith, above, numbered))
kept_at number (entry ∷ entries) (first ∷ kept) (inl here) (suc place) one (suc at) there numbered = kept_at (number + 1) entries kept here.1 place one at there (omega (arith, numbered))
kept_at number (entry ∷ entries) (first ∷ kept) (inr later) place one zero there numbered =
    let above = at_above (number + 1) entries (first ∷ kept) later.1 place one there in absurd (omega (arith, above, numbered))
kept_at number (entry ∷ entries) (first ∷ kept) (inr later) place one (suc at) there numbered = kept_at (number + 1) entries (first ∷ kept) later.1 place one at there (omega (arith, numbered))

-- an entry that is not kept adds nothing
pub kept_missed : (number : ℕ) (entries : List JournalEntry) (kept : List Numbered) → AreKept number entries kept
    → (at : ℕ) (entry : JournalEntry) → ((place : ℕ) (default : Numbered) → place < length kept → (get_or kept place default).number ≡ number + at → ⊥)
    → slice_get entries at ≡ Some entry → added_by entry ≡ []
kept_missed number [] kept are at entry missed there = cc
kept_missed number (first ∷ entries) [] are zero entry missed there = let same : first ≡ entry = cc in subst (λ e. added_by e ≡ []) same are.0
kept_missed number (first ∷ entries) [] are (suc at) entry missed there = kept_missed (number + 1) entries [] are.1 at entry (λ place default within numbered. omega arith) there
kept_missed number (first ∷ entries) (one ∷ kept) (inl here) zero entry missed there = absurd (missed 0 one (omega arith) (here.0.numbered ∙ omega arith))
kept_missed number (first ∷ entries) (one ∷ kept) (inl here) (suc at) entry missed there =
    kept_missed (number + 1) entries kept here.1 at entry (λ place default within numbered. missed (suc place) default (omega arith) (omega (arith, numbered))) there
kept_missed number (first ∷ entries) (one ∷ kept) (inr later) zero entry missed there = let same : first ≡ entry = cc in subst (λ e. added_by e ≡ []) same later.0
kept_missed number (first ∷ entries) (one ∷ kept) (inr later) (suc at) entry missed there =
    kept_missed (number + 1) entries (one ∷ kept) later.1 at entry (λ place default within numbered. missed place default within (omega (arith, numbered))) there

-- no entry of this number is kept, where it is not at the place where the numbers come to it
pub kept_nowhere : (entries : List JournalEntry) (kept : List Numbered) (number place : ℕ) → AreKept 0 entries kept
    → IsPartitionPoint (λ (y : Numbered). ltb y.number number ≡ true) (λ (y : Numbered). ltb y.number number ≡ false) kept place
    → ((one : Numbered) → slice_get kept place ≡ Some one → one.number ≡ number → ⊥)
    → (entry : JournalEntry) → slice_get entries number ≡ Some entry → added_by entry ≡ []
kept_nowhere entries kept number place are point elsewhere entry there = kept_missed 0 entries kept are number entry missed there
  where
    missed : (at : ℕ) (default : Numbered) → at < length kept → (get_or kept at default).number ≡ 0 + number → ⊥
    missed at default within numbered = elim (cases_lt at place) [
      | inl before ↦ let less = ltb-true _ _ (point.0 at default (omega arith) before) in omega (arith, less, numbered)
      | inr behind ↦ (
          let rises = kept_rise 0 entries kept are place at default behind within in
          let last = ltb-false _ _ (point.1 place default (omega arith) (omega arith)) in
          elsewhere (get_or kept place default) (slice_get-get_or kept place default (omega arith)) (omega (arith, rises, last, numbered)))
    ]

-- what a look-up by a place tells
pub none_past : (kept : List Numbered) (place : ℕ) (one : Numbered) → IsItemAt kept place None → slice_get kept place ≡ Some one → ⊥
none_past kept place one past there = let within = slice_get_within kept place one there in let not_within : length kept ≤ place = past.3 in omega (arith, within, not_within)

pub same_one : (kept : List Numbered) (place : ℕ) (one : Numbered) (found : Bor Numbered) → IsItemAt kept place (Some found) → slice_get kept place ≡ Some one → found.now ≡ one
same_one kept place one found at there = at.1 ∙ get_or_from_slice_get kept place one found.now there

-- the last one is dropped, if there is one
pub kept_less : (entries : List JournalEntry) (kept less : List Numbered) (last : Option Numbered) → kept ≡ less ++ option_to_list last
    → ((front : List Numbered) (one : Numbered) → kept ≡ front ++ one ∷ [] → added_by (entry_of one.entry) ≡ []) → AreKept 0 entries kept → AreKept 0 entries less
kept_less entries kept less None is adds are = subst (AreKept 0 entries) (is ∙ append-nil less) are
kept_less entries kept less (Some one) is adds are = kept_popped 0 entries less one (subst (AreKept 0 entries) is are) (adds less one is)

-- one more is kept
pub kept_grown : (old new : List JournalEntry) (entry : JournalEntry) (count : ℕ) (kept : Option (Vec Numbered Global)) (items : Vec Numbered Global) (roomy more : List Numbered) (one : Numbered)
    → kept ≡ Some items → IfSome kept (λ items. AreKept 0 old items.items) → count ≡ length old → new ≡ old ++ entry ∷ [] → roomy ≡ items.items
    → more ≡ roomy ++ one ∷ [] → one.number ≡ count → entry_of one.entry ≡ entry
    → AreKept 0 new more
kept_grown old new entry count kept items roomy more one is are counted longer same_kept longer_kept numbered same =
    let before : AreKept 0 old items.items = subst (λ (k : Option (Vec Numbered Global)). IfSome k (λ items. AreKept 0 old items.items)) is are in
    let after = kept_pushed 0 old items.items entry one before (omega (arith, numbered, counted)) same in
    subst (λ l. AreKept 0 l more) (sym longer) (subst (AreKept 0 (old ++ entry ∷ [])) (sym (longer_kept ∙ ap (λ l. l ++ one ∷ []) same_kept)) after)

pub one_counted : (old new : List JournalEntry) (entry : JournalEntry) (count : ℕ) → count ≡ length old → new ≡ old ++ entry ∷ [] → count + 1 ≡ length new
one_counted old new entry count counted longer = let long = length_push old entry in omega (arith, counted, long, ap length longer)

pub none_kept : (entries : List JournalEntry) (kept : Option (Vec Numbered Global)) → kept ≡ None → IfSome kept (λ items. AreKept 0 entries items.items)
none_kept entries kept is = subst (λ (k : Option (Vec Numbered Global)). IfSome k (λ items. AreKept 0 entries items.items)) (sym is) tt
