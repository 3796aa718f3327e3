use Rattle.std.proofs.Common.{Bor, Option, false, true, subst}
use Rattle.hol_journal.specs.Views.{entry_of}
use Rattle.hol_journal.specs.Stored.{IsStored}
use Rattle.hol_journal.specs.declared.entry.Entry.{Entry}
use Rattle.hol_journal_log.proofs.MarkingLemmas.{cites_within, cited_not_at, mark_there, told_cited}
use Rattle.hol_journal_log.proofs.needed.cite_stored.Goals as goal

pub cite-requires : goal.cite-requires
cite-requires c =
    let told = subst (λ (stored : Option (Bor Entry)). IsStored c.args.recorder.now.entries c.args.place stored) c.in-Some.is c.in_ok-entry.ensures.ok in
    cites_within c.args.recorder.now.entries c.args.place _ (entry_of c.in-Some.entry.now) c.requires.earlier told c.requires.place

pub returns-then-not-index-clause-ok : goal.returns-then-not-index-clause-ok
returns-then-not-index-clause-ok c = λ entry there.
    cited_not_at c.args.place entry c.args.marks.now.items (mark_there c.args.marks.now.items c.args.place c.index.result.now false c.requires.place c.index.ensures c.if-not-index.true)

pub returns-in-Some-clause-ok : goal.returns-in-Some-clause-ok
returns-in-Some-clause-ok c = λ entry there.
    let told = subst (λ (stored : Option (Bor Entry)). IsStored c.args.recorder.now.entries c.args.place stored) c.in-Some.is c.in_ok-entry.ensures.ok in
    told_cited c.args.recorder.now.entries c.args.place (entry_of c.in-Some.entry.now) entry c.args.marks.now.items c.cite.new.marks.items told there
    (mark_there c.args.marks.now.items c.args.place c.index.result.now true c.requires.place c.index.ensures c.if-not-index.false) c.cite.ensures
