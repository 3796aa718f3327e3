use Rattle.std.proofs.Common.{sym, ◌∙◌}
use Rattle.hol_journal_log.specs.Writer.{written}
use Rattle.hol_journal_log.proofs.WriterLemmas.{constant_at}
use Rattle.hol_journal_log.proofs.writer.Writer.is_constant_at.Goals as goal

pub returns-then-eq : goal.returns-then-eq
returns-then-eq c = λ is.
    constant_at c.args.name.now c.in-Some-Constant.written.now c.args.ty.now (written c.args.self.now) c.in-Some-Constant.of c.args.number
    (sym c.eq.ensures ∙ c.if-eq.true) (rw c.in-Some-Constant.field-0-is at c.in-Some-Constant.ensures) (c.has_constant_type.ensures is)
