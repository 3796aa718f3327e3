use Rattle.std.proofs.Common.{map}
use Rattle.hol_journal_log.specs.Writer.{line_of_term}
use Rattle.hol_journal_log.proofs.WriterLemmas.{type_at}
use Rattle.hol_journal_log.proofs.writer.Writer.type_line.Goals as goal

pub returns-in-Some : goal.returns-in-Some
returns-in-Some c =
    type_at c.args.self.now.types.keys c.in-Some.line.now c.args.number (map line_of_term c.args.self.now.terms.keys) c.args.self.now.theorems c.args.self.now.log
    c.len-distinct.ensures.unique c.in-Some.ensures.key
