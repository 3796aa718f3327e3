use Rattle.hol_check_written.proofs.MakingLemmas.{noted-made}
use Rattle.hol_check_written.proofs.making.make.Goals as goal

pub returns-clause-made : goal.returns-clause-made
returns-clause-made c =
    noted-made c.args.terms.now c.number_of.new.terms c.args.written.now c.args.line c.in_ok-number.number c.number_of.new.made.entries c.note.new.parts.entries c.requires.written c.requires.line
    c.in_ok-number.ensures.grows c.in_ok-number.ensures.made_are
    c.in_ok-number.ensures.number c.note.ensures.added

pub returns-in_err-note-clause-made : goal.returns-in_err-note-clause-made
returns-in_err-note-clause-made c =
    noted-made c.args.terms.now c.number_of.new.terms c.args.written.now c.args.line c.in_ok-number.number c.number_of.new.made.entries c.note.new.parts.entries c.requires.written c.requires.line
    c.in_ok-number.ensures.grows c.in_ok-number.ensures.made_are
    c.in_ok-number.ensures.number c.note.ensures.added
