use Rattle.std.proofs.Common.{map}
use Rattle.hol_journal_log.specs.Writer.{line_of_type}
use Rattle.hol_journal_log.proofs.WriterLemmas.{term_at}
use Rattle.hol_journal_log.proofs.writer.Writer.term_line.Goals as goal

pub returns-in-Some : goal.returns-in-Some
returns-in-Some c =
    term_at c.args.self.now.terms.keys c.in-Some.line.now c.args.number (map line_of_type c.args.self.now.types.keys) c.args.self.now.theorems c.args.self.now.log
    c.len-distinct.ensures.unique c.in-Some.ensures.key
