-- Journals only grow.
use Rattle.std.proofs.Common.{◌≡◌, List, [], ◌∷◌, ◌++◌, sym, ◌∙◌, ap, subst, append_assoc, append-nil, Result, Ok, Err, IfOk, OnErr}
use Rattle.std.specs.Prelude.{slice_get}
use Rattle.hol_model.specs.declared.fault.Fault.{Fault}
use Rattle.hol_model.specs.Logic.Theory.{Theory, IsEarlier}
use Rattle.hol_model.proofs.Logic.Earlier.{earlier-same, earlier-twice}
use Rattle.hol_journal.specs.Steps.{Step, JournalEntry, derived, sequent_of_theorem}
use Rattle.hol_journal.specs.Journal.{Journal, Recorded, IsRecorded}
use Rattle.hol_journal.specs.Growth.{IsGrown, Continues, JournalsGrow}
use Rattle.hol_journal.proofs.Places.{get_earlier, get_at_end}

pub journals-grow : JournalsGrow
journals-grow = record {
  grown = λ old new step made is. record { added = derived step (sequent_of_theorem made.theorem) ∷ []; entries = is.entries; earlier = is.earlier };
  made = λ old new step made is. record {
    step = step;
    there = (λ i. slice_get (is.entries i) (is.number i)) ∙ get_at_end old.entries (derived step (sequent_of_theorem made.theorem));
    earlier = earlier-same made.theorem.theory new.theory is.stands_on;
  };
  stays = λ old new made is was. record {
    step = was.step;
    there = ap (λ es. slice_get es made.entry) is.entries ∙ get_earlier old.entries is.added made.entry (derived was.step (sequent_of_theorem made.theorem)) was.there;
    earlier = earlier-twice made.theorem.theory old.theory new.theory was.earlier is.earlier;
  };
  twice = λ first second third one two. record {
    added = one.added ++ two.added;
    entries = two.entries ∙ ap (λ l. l ++ two.added) one.entries ∙ append_assoc first.entries one.added two.added;
    earlier = earlier-twice first.theory second.theory third.theory one.earlier two.earlier;
  };
}

-- one entry more, as the program holds it
pub entry-grown : (shown now : Journal) (theory : Theory) (mid items : List JournalEntry) (entry : JournalEntry) → shown ≡ now
    → mid ≡ shown.entries → items ≡ mid ++ entry ∷ [] → IsEarlier shown.theory theory → IsGrown now (record { theory = theory; entries = items })
entry-grown shown now theory mid items entry view same pushed earlier = record {
  added = entry ∷ [];
  entries = pushed ∙ ap (λ l. l ++ entry ∷ []) same ∙ ap (λ (j : Journal). j.entries ++ entry ∷ []) view;
  earlier = subst (λ (j : Journal). IsEarlier j.theory theory) view earlier;
}

-- a call that records one entry more, or leaves the journal as it is, continues it
pub continued : (result : Result Recorded Fault) (old new : Journal) (step : Step) → IfOk result (λ made. made.theorem.theory ≡ old.theory)
    → IfOk result (IsRecorded old new step) → OnErr result (new ≡ old) → Continues old new result
continued (Ok made) old new step stands recorded kept = record {
  grown = journals-grow.grown old new step made recorded;
  theory = sym recorded.stands_on ∙ stands;
  held = record { made = journals-grow.made old new step made recorded; stands_on = recorded.stands_on };
}
continued (Err fault) old new step stands recorded kept = record {
  grown = record {
    added = [];
    entries = ap (λ (j : Journal). j.entries) kept ∙ sym (append-nil old.entries);
    earlier = earlier-same old.theory new.theory (ap (λ (j : Journal). j.theory) (sym kept));
  };
  theory = ap (λ (j : Journal). j.theory) kept;
  held = tt;
}
