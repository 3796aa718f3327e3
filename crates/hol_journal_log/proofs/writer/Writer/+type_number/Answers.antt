use Rattle.hol_journal_log.specs.Writer.{written}
use Rattle.hol_journal_log.proofs.WriterLemmas.{function_answers}
use Rattle.hol_journal_log.proofs.writer.Writer.+type_number.Goals as goal

pub returns-in_ok-codomain-in-Function-clause-ok : goal.returns-in_ok-codomain-in-Function-clause-ok
returns-in_ok-codomain-in-Function-clause-ok t c =
    function_answers c.put_type-in-Function.result c.args.ty.now c.in-Function.domain.now c.in-Function.codomain.now
    (written c.args.self.now) (written c.type_number.new.self) (written c.type_number-in-Function.new.self) (written c.put_type-in-Function.new.self)
    _ _ c.in-Function.ensures.value c.in_ok-domain-in-Function.ensures.ok c.in_ok-codomain-in-Function.ensures.ok c.put_type-in-Function.ensures.ok
