use Rattle.hol_journal_log.specs.Writer.{written}
use Rattle.hol_journal_log.proofs.WriterLemmas.{variable_answers}
use Rattle.hol_journal_log.proofs.writer.Writer.variable_number.Goals as goal

pub returns-clause-ok : goal.returns-clause-ok
returns-clause-ok c =
    variable_answers c.put_term.result c.args.name.now c.args.ty.now
    (written c.args.self.now) (written c.type_number.new.self) (written c.put_term.new.self)
    _ c.in_ok-ty.ensures.ok c.put_term.ensures.ok
