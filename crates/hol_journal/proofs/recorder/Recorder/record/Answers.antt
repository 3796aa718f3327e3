use Rattle.std.proofs.Common.{subst}
use Rattle.hol_journal.specs.Journal.{IsJournal}
use Rattle.hol_journal.specs.Recorder.{viewed_recorder}
use Rattle.hol_journal.proofs.StoredLemmas.{rule-stored}
use Rattle.hol_journal.proofs.recorder.Recorder.record.Goals as goal

pub invariant_of-self-2 : goal.invariant_of-self-2
invariant_of-self-2 c =
    rule-stored (viewed_recorder c.self.inside) c.args.self.now c.push_step.new.self.entries c.args.rule c.args.theorem
    c.self.view_is c.self.invariant c.in_ok-push_step.ensures.ok
    (c.requires.follows (subst IsJournal c.self.view_is c.self.invariant))
