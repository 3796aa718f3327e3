use Rattle.std.proofs.Common.{ap}
use Rattle.hol_journal_log.specs.Writer.{written}
use Rattle.hol_journal_log.proofs.StepLineLemmas.{inst_line, inst_type_line}
use Rattle.hol_journal.specs.Views.{step_of}
use Rattle.hol_journal_log.proofs.writer.Writer.step.Goals as goal

pub returns-in_ok-pairs-in-Inst-clause-ok : goal.returns-in_ok-pairs-in-Inst-clause-ok
returns-in_ok-pairs-in-Inst-clause-ok c =
    inst_line (written c.args.self.now) (written c.term_pairs.new.self)
    (step_of c.args.rule.now) c.in-Inst.theorem c.in_ok-theorem-in-Inst.theorem c.deref.result.now c.in-Inst.pairs.items
    c.in_ok-pairs-in-Inst.pairs.items
    (ap step_of c.in-Inst.is) c.deref.ensures.value c.in_ok-pairs-in-Inst.ensures.ok c.in_ok-theorem-in-Inst.ensures.ok

pub returns-in_ok-pairs-in-InstType-clause-ok : goal.returns-in_ok-pairs-in-InstType-clause-ok
returns-in_ok-pairs-in-InstType-clause-ok c =
    inst_type_line (written c.args.self.now) (written c.type_pairs.new.self)
    (step_of c.args.rule.now) c.in-InstType.theorem c.in_ok-theorem-in-InstType.theorem c.deref-in-InstType.result.now c.in-InstType.pairs.items
    c.in_ok-pairs-in-InstType.pairs.items
    (ap step_of c.in-InstType.is) c.deref-in-InstType.ensures.value c.in_ok-pairs-in-InstType.ensures.ok c.in_ok-theorem-in-InstType.ensures.ok
