use Rattle.std.proofs.Common.{sym, ◌∙◌}
use Rattle.hol_journal_log.specs.Writer.{written}
use Rattle.hol_journal_log.proofs.WriterLemmas.{variable_at}
use Rattle.hol_journal_log.proofs.writer.Writer.is_variable_at.Goals as goal

pub returns-then-eq : goal.returns-then-eq
returns-then-eq c = λ is.
    variable_at c.args.name.now c.in-Some-Variable.written.now c.args.ty.now (written c.args.self.now) c.in-Some-Variable.of c.args.number
    (sym c.eq.ensures ∙ c.if-eq.true) (rw c.in-Some-Variable.field-0-is at c.in-Some-Variable.ensures) (c.has_type.ensures is)
