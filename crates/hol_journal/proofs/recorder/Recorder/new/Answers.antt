use Rattle.std.proofs.Common.{sym}
use Rattle.std.proofs.Common.{subst}
use Rattle.hol_journal.specs.Journal.{IsJournal}
use Rattle.hol_journal.proofs.JournalLemmas.{journal-start}
use Rattle.hol_journal.proofs.recorder.Recorder.new.Goals as goal

pub invariant_of-result : goal.invariant_of-result
invariant_of-result c = subst IsJournal (λ i. record { theory = sym c.in_ok-new.ensures.ok i; entries = sym c.new-2.ensures i }) journal-start
