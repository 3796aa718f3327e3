-- One more entry keeps a journal.
use Rattle.std.proofs.Common.{◌≡◌, ◌⊎◌, ℕ, List, [], ◌∷◌, ◌++◌, length, true, refl, sym, ◌∙◌, ap, subst, inl, inr, nat_le}
use Rattle.hol_model.specs.declared.limits.TheConstants.{DEFINITIONS_LIMIT}
use Rattle.hol_model.specs.Logic.Theory.{Theory, IsLegal}
use Rattle.hol_model.specs.Kernel.Theorem.{IsTheorem}
use Rattle.hol_model.specs.Logic.Derivable.{IsMember}
use Rattle.hol_model.specs.Goals.Goals.{Sequent}
use Rattle.hol_journal.specs.Steps.{Step, JournalEntry, derived_sequent, sequent_of_theorem}
use Rattle.hol_journal.specs.Steps as steps
use Rattle.hol_journal.specs.Lines.{Gives}
use Rattle.hol_journal.specs.Journal.{Journal, Recorded, added_by, grown_by, HasTheorem, KnowsParts, Follows, IsEntryAfter, IsJournal, IsMade}
use Rattle.hol_journal.proofs.Showing.{IsCited}

not_empty : {A : Type 0} (before : List A) (x : A) (after : List A) → [] ≡ before ++ x ∷ after → ⊥
not_empty [] x after is = cc
not_empty (b ∷ before) x after is = cc

-- a place in a list with one more element: the last, or one before
split_last : {A : Type 0} (xs : List A) (x : A) (before : List A) (y : A) (after : List A) → xs ++ x ∷ [] ≡ before ++ y ∷ after
    → ((before ≡ xs) × (x ≡ y)) ⊎ ((rest : List A) × (xs ≡ before ++ y ∷ rest))
split_last [] x [] y after is = inl (refl, cc)
split_last [] x (b ∷ before) y after is = let none : [] ≡ before ++ y ∷ after = cc in absurd (not_empty before y after none)
split_last (a ∷ xs) x [] y after is = let same : a ≡ y = cc in inr (xs, ap (λ h. h ∷ xs) same)
split_last (a ∷ xs) x (b ∷ before) y after is =
    let head : a ≡ b = cc in
    let tail : xs ++ x ∷ [] ≡ before ++ y ∷ after = cc in
    elim (split_last xs x before y after tail) [
      | inl p ↦ inl ((λ i. sym head i ∷ p.0 i), p.1)
      | inr p ↦ inr (p.0, (λ i. head i ∷ p.1 i))
    ]

pub grown_by-last : (theory : Theory) (entries : List JournalEntry) (entry : JournalEntry) → grown_by theory (entries ++ entry ∷ []) ≡ added_by entry ++ grown_by theory entries
grown_by-last theory [] entry = refl
grown_by-last theory (first ∷ entries) entry = grown_by-last (added_by first ++ theory) entries entry

pub journal-start : IsJournal (record { theory = []; entries = [] })
journal-start = record {
  theory = refl;
  legal = tt;
  within_limit = refl;
  entries_follow = λ before entry after is. absurd (not_empty before entry after is);
}

-- an entry that may stand behind those of the journal
pub record IsNextEntry (journal : Journal) (entry : JournalEntry) : Type 0 where
  pub legal : IsLegal (added_by entry ++ journal.theory)
  pub within_limit : nat_le (length (added_by entry ++ journal.theory)) DEFINITIONS_LIMIT ≡ true
  pub follows : IsEntryAfter journal.entries entry

-- one more entry
journal-more : (journal : Journal) (entry : JournalEntry) → IsJournal journal → IsNextEntry journal entry
    → IsJournal (record { theory = added_by entry ++ journal.theory; entries = journal.entries ++ entry ∷ [] })
journal-more journal entry is next = record {
  theory = ap (λ t. added_by entry ++ t) is.theory ∙ sym (grown_by-last [] journal.entries entry);
  legal = next.legal;
  within_limit = next.within_limit;
  entries_follow = λ before other after same. elim (split_last journal.entries entry before other after same) [
    | inl p ↦ subst (λ (e : JournalEntry). IsEntryAfter before e) p.1 (subst (λ (es : List JournalEntry). IsEntryAfter es entry) (sym p.0) next.follows)
    | inr p ↦ is.entries_follow before other p.0 p.1
  ];
}

-- the same, as the program holds it
pub journal-stored : (old : Journal) (theory : Theory) (items : List JournalEntry) (entry : JournalEntry) → IsJournal old
    → theory ≡ added_by entry ++ old.theory → items ≡ old.entries ++ entry ∷ [] → IsNextEntry old entry
    → IsJournal (record { theory = theory; entries = items })
journal-stored old theory items entry is grown pushed next =
    subst IsJournal (λ i. record { theory = sym grown i; entries = sym pushed i }) (journal-more old entry is next)

-- what is given over the theory of a journal follows
pub given-follows : (journal : Journal) (step : Step) (sequent : Sequent) → IsJournal journal → ((number : ℕ) → IsMember number (steps.entries_of step) → HasTheorem journal.entries number)
    → KnowsParts journal.theory step → Gives journal.theory journal.entries step sequent → Follows journal.entries step sequent
given-follows journal step sequent is cites knows gives = record {
  cites = cites;
  knows = subst (λ (t : Theory). KnowsParts t step) is.theory knows;
  gives = subst (λ (t : Theory). Gives t journal.entries step sequent) is.theory gives;
}

-- theorems that the recorder made
pub made-cited : (journal : Journal) (made : Recorded) → IsMade journal made → IsTheorem made.theorem → IsCited journal.entries made.entry made.theorem
made-cited journal made is theorem = record { is = theorem; at = ap derived_sequent is.there }

pub made-there : (journal : Journal) (made : Recorded) → IsMade journal made → (number : ℕ) → number ≡ made.entry → HasTheorem journal.entries number
made-there journal made is number same =
    subst (HasTheorem journal.entries) (sym same) (record { step = is.step; sequent = sequent_of_theorem made.theorem; there = is.there })
