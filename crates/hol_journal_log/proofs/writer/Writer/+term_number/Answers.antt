use Rattle.hol_journal_log.specs.Writer.{written}
use Rattle.hol_journal_log.proofs.WriterLemmas.{constant_answers, combination_answers, abstraction_answers}
use Rattle.hol_journal_log.proofs.writer.Writer.+term_number.Goals as goal

pub number_by_parts-returns-in_ok-ty-in-Constant-clause-ok : goal.number_by_parts-returns-in_ok-ty-in-Constant-clause-ok
number_by_parts-returns-in_ok-ty-in-Constant-clause-ok t c =
    constant_answers c.put_constant.result c.args.term.now c.in-Constant.name.now c.in-Constant.ty.now
    (written c.args.self.now) (written c.type_number.new.self) (written c.put_constant.new.self)
    _ c.in-Constant.ensures.value c.in_ok-ty-in-Constant.ensures.ok c.put_constant.ensures.ok

pub number_by_parts-returns-in_ok-argument-in-Combination-clause-ok : goal.number_by_parts-returns-in_ok-argument-in-Combination-clause-ok
number_by_parts-returns-in_ok-argument-in-Combination-clause-ok t c =
    combination_answers c.put_term.result c.args.term.now c.in-Combination.function.now c.in-Combination.argument.now
    (written c.args.self.now) (written c.term_number.new.self) (written c.term_number-in-Combination.new.self) (written c.put_term.new.self)
    _ _ c.in-Combination.ensures.value c.in_ok-function-in-Combination.ensures.ok c.in_ok-argument-in-Combination.ensures.ok c.put_term.ensures.ok

pub number_by_parts-returns-in_ok-body-in-Abstraction-clause-ok : goal.number_by_parts-returns-in_ok-body-in-Abstraction-clause-ok
number_by_parts-returns-in_ok-body-in-Abstraction-clause-ok t c =
    abstraction_answers c.put_term-in-Abstraction.result c.args.term.now c.in-Abstraction.name.now c.in-Abstraction.ty.now c.in-Abstraction.body.now
    (written c.args.self.now) (written c.variable_number-in-Abstraction.new.self) (written c.term_number-in-Abstraction.new.self) (written c.put_term-in-Abstraction.new.self)
    _ _ c.in-Abstraction.ensures.value c.in_ok-binder-in-Abstraction.ensures.ok c.in_ok-body-in-Abstraction.ensures.ok c.put_term-in-Abstraction.ensures.ok
