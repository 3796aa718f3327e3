use Rattle.std.proofs.Common.{refl}
use Rattle.hol_model.specs.Terms.HolType.{bool_type}
use Rattle.hol_model.specs.Logic.Logic.{unary}
use Rattle.hol_journal_log.specs.Writer.{written}
use Rattle.hol_journal_log.proofs.WriterLemmas.{function_at}
use Rattle.hol_journal_log.proofs.writer.Writer.is_unary_at.Goals as goal

pub returns-then-is_bool_at : goal.returns-then-is_bool_at
returns-then-is_bool_at c = λ is.
    function_at unary bool_type bool_type (written c.args.self.now) c.in-Some-Function.first c.in-Some-Function.second c.args.number
    refl (rw c.in-Some-Function.field-0-is at c.in-Some-Function.ensures) (c.is_bool_at.ensures c.if-is_bool_at.true) (c.is_bool_at-then-is_bool_at.ensures is)
