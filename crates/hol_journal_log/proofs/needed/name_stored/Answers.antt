use Rattle.std.proofs.Common.{Bor, Option, OnOk, true, false, sym, ◌∙◌, subst}
use Rattle.hol_journal.specs.Steps.{JournalEntry}
use Rattle.hol_journal.specs.Stored.{IsStored}
use Rattle.hol_journal.specs.Views.{entry_of}
use Rattle.hol_journal.specs.declared.entry.Entry.{Entry}
use Rattle.hol_journal_log.specs.Marking.{IsEntryMarked}
use Rattle.hol_journal_log.proofs.MarkingLemmas.{same_value, mark_there, passed_marked, reached_as_noted, untold_passed, entry_passed, entry_marked, IsSame-same, more_told}
use Rattle.hol_journal_log.proofs.needed.name_stored.Goals as goal

pub returns-then-index-clause-ok : goal.returns-then-index-clause-ok
returns-then-index-clause-ok c = λ entry there.
    entry_passed c.args.place entry c.args.marks.now.items c.args.names.now (passed_marked c.args.place entry c.args.marks.now.items c.args.names.now
    (mark_there c.args.marks.now.items c.args.place c.index.result.now true c.requires c.index.ensures c.if-index.true))

pub returns-then-index-clause-same : goal.returns-then-index-clause-same
returns-then-index-clause-same c = IsSame-same c.args.is_more.now c.args.marks.now.items

pub returns-in-None-clause-ok : goal.returns-in-None-clause-ok
returns-in-None-clause-ok c = λ entry there.
    let told = subst (λ (stored : Option (Bor Entry)). IsStored c.args.recorder.now.entries c.args.place stored) c.in-None.is c.in_ok-stored.ensures.ok in
    untold_passed c.args.place entry c.args.marks.now.items c.args.names.now (told entry there)

pub returns-in-None-clause-same : goal.returns-in-None-clause-same
returns-in-None-clause-same c = IsSame-same c.args.is_more.now c.args.marks.now.items

pub returns-then-not-is_noted-clause-ok : goal.returns-then-not-is_noted-clause-ok
returns-then-not-is_noted-clause-ok c = λ entry there.
    let told = subst (λ (stored : Option (Bor Entry)). IsStored c.args.recorder.now.entries c.args.place stored) c.in-Some.is c.in_ok-stored.ensures.ok in
    let not_at = mark_there c.args.marks.now.items c.args.place c.index.result.now false c.requires c.index.ensures c.if-index.false in
    let is = reached_as_noted c.args.place (entry_of c.in-Some.entry.now) c.args.marks.now.items c.args.names.now c.is_noted.result not_at c.is_noted.ensures in
    subst (λ (e : JournalEntry). IsEntryMarked c.args.place e c.args.marks.now.items c.args.names.now c.args.marks.now.items c.args.names.now) (same_value (sym told ∙ there))
    (entry_passed c.args.place (entry_of c.in-Some.entry.now) c.args.marks.now.items c.args.names.now (is ∙ c.if-not-is_noted.true))

pub returns-then-not-is_noted-clause-same : goal.returns-then-not-is_noted-clause-same
returns-then-not-is_noted-clause-same c = IsSame-same c.args.is_more.now c.args.marks.now.items

pub returns-else-not-is_noted-clause-ok : goal.returns-else-not-is_noted-clause-ok
returns-else-not-is_noted-clause-ok c = λ entry there.
    let told = subst (λ (stored : Option (Bor Entry)). IsStored c.args.recorder.now.entries c.args.place stored) c.in-Some.is c.in_ok-stored.ensures.ok in
    let not_at = mark_there c.args.marks.now.items c.args.place c.index.result.now false c.requires c.index.ensures c.if-index.false in
    let is = reached_as_noted c.args.place (entry_of c.in-Some.entry.now) c.args.marks.now.items c.args.names.now c.is_noted.result not_at c.is_noted.ensures in
    subst (λ (e : JournalEntry). OnOk c.note_mentioned.result (IsEntryMarked c.args.place e c.args.marks.now.items c.args.names.now c.mark.new.marks.items c.note_mentioned.new.names))
    (same_value (sym told ∙ there))
    (entry_marked c.note_mentioned.result c.args.place (entry_of c.in-Some.entry.now) c.args.marks.now.items c.mark.new.marks.items c.args.names.now c.note_mentioned.new.names
    (is ∙ c.if-not-is_noted.false) c.mark.ensures c.note_mentioned.ensures.ok)

pub returns-else-not-is_noted-clause-same : goal.returns-else-not-is_noted-clause-same
returns-else-not-is_noted-clause-same c = more_told c.note_mentioned.result c.args.is_more.now c.args.marks.now.items c.mark.new.marks.items
