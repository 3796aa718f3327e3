use Rattle.std.proofs.Common.{map}
use Rattle.hol_logtext.specs.Lines.{line_of}
use Rattle.hol_journal_log.specs.Writer.{line_of_type, line_of_term}
use Rattle.hol_journal_log.proofs.WriterLemmas.{type_was_there, type_is_put, line_put}
use Rattle.hol_journal_log.proofs.writer.Writer.put_type.Goals as goal

pub returns-then-not-is_new-clause-ok : goal.returns-then-not-is_new-clause-ok
returns-then-not-is_new-clause-ok c =
    type_was_there c.args.line c.args.self.now.types.keys c.insert_full.new.self.keys
    (map line_of_term c.args.self.now.terms.keys) c.args.self.now.theorems c.args.self.now.log
    _ _ c.number.result c.in_ok-place.ensures.keys c.in_ok-place.ensures.added c.in_ok-place.ensures.index c.number.ensures.ok (search c)

pub returns-clause-ok : goal.returns-clause-ok
returns-clause-ok c =
    type_is_put c.args.line c.args.self.now.types.keys c.insert_full.new.self.keys (map line_of_term c.args.self.now.terms.keys) c.args.self.now.theorems c.args.self.now.log
    _ _ c.number-2.result c.in_ok-place.ensures.keys c.in_ok-place.ensures.added c.in_ok-place.ensures.index c.number-2.ensures.ok (search c) c.write.new.self
    (line_put c.args.self.now.log c.write.new.self (line_of c.line.result) (line_of_type c.args.line) c.in_ok-write.ensures.ok c.line.ensures)
