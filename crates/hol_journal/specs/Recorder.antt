-- What the fields of a recorder and of a recorded theorem stand for.
use Rattle.hol_journal.specs.Journal.{Journal, Recorded}
use Rattle.hol_journal.specs.declared.recorder.Recorder.TheInside as recorder
use Rattle.hol_journal.specs.declared.recorder.Rec.TheInside as rec

abbrev pub viewed_recorder : recorder.Inside → Journal
viewed_recorder inside = record { theory = inside.theory; entries = inside.entries.entries }

abbrev pub viewed_rec : rec.Inside → Recorded
viewed_rec inside = record { theorem = inside.theorem; entry = inside.entry }
