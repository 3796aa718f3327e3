use Rattle.hol_check_written.proofs.MemoLemmas.{kept-apart}
use Rattle.hol_check_written.proofs.memo.keep.Goals as goal

pub returns-then-is_apart-clause-kept : goal.returns-then-is_apart-clause-kept
returns-then-is_apart-clause-kept c = kept-apart c.args.is_apart c.args.line c.args.number c.args.made.now.entries c.note.new.parts.entries c.args.known.now.entries c.if-is_apart.true
    c.note.ensures.added c.note.ensures.stays
