use Rattle.std.proofs.Common.{sym, ◌∙◌}
use Rattle.hol_model.specs.Terms.HolType.{bool_type}
use Rattle.hol_journal_log.specs.Writer.{written}
use Rattle.hol_journal_log.proofs.WriterLemmas.{function_at, type-is}
use Rattle.hol_journal_log.proofs.writer.Writer.+has_type.Goals as goal

pub has_type-returns-then-is_bool : goal.has_type-returns-then-is_bool
has_type-returns-then-is_bool t c = λ is.
    type-is c.args.ty.now bool_type (written c.args.self.now) c.args.number (sym c.is_bool.ensures ∙ c.if-is_bool.true) (c.is_bool_at.ensures is)

pub is_type_at-returns-then-has_type : goal.is_type_at-returns-then-has_type
is_type_at-returns-then-has_type t c = λ is.
    function_at c.args.ty.now c.in-Function-Function.domain.now c.in-Function-Function.codomain.now (written c.args.self.now) c.in-Function-Function.first c.in-Function-Function.second c.args.number
    c.in-Function-Function.ensures.value (rw c.in-Function-Function.is-0 at c.in-Some.ensures) (c.has_type.ensures c.if-has_type.true) (c.has_type-then-has_type.ensures is)
