use Rattle.std.proofs.Common.{subst}
use Rattle.hol_model.specs.Terms.NamedTerm.{NamedTerm}
use Rattle.hol_journal_log.specs.Writer.{written}
use Rattle.hol_journal_log.specs.Writing.{IsTermWritten}
use Rattle.hol_journal_log.proofs.WriterLemmas.{combination_at, abstraction_at}
use Rattle.hol_journal_log.proofs.writer.Writer.+is_term_at.Goals as goal

pub returns-then-is_variable_at : goal.returns-then-is_variable_at
returns-then-is_variable_at t c = λ is.
    let w = written c.args.self.now in
    combination_at c.args.term.now c.in-Combination.function.now c.in-Combination.argument.now w c.in-Some-Combination.first c.in-Some-Combination.second c.args.number
    c.in-Combination.ensures.value (rw c.in-Some-Combination.field-0-is at c.in-Some-Combination.ensures) (c.is_term_at.ensures is)
    (subst (λ (s : NamedTerm). IsTermWritten w w s c.in-Some-Combination.second) c.in_default-Variable.ensures.value (c.is_variable_at-in_default-Variable.ensures c.if-is_variable_at.true))

pub returns-then-is_constant_at : goal.returns-then-is_constant_at
returns-then-is_constant_at t c = λ is.
    let w = written c.args.self.now in
    combination_at c.args.term.now c.in-Combination.function.now c.in-Combination.argument.now w c.in-Some-Combination.first c.in-Some-Combination.second c.args.number
    c.in-Combination.ensures.value (rw c.in-Some-Combination.field-0-is at c.in-Some-Combination.ensures)
    (subst (λ (s : NamedTerm). IsTermWritten w w s c.in-Some-Combination.first) c.in-Constant-default.ensures.value (c.is_constant_at-in-Constant-default.ensures c.if-is_constant_at.true))
    (c.is_term_at-then-is_constant_at.ensures is)

pub returns-then-is_term_at : goal.returns-then-is_term_at
returns-then-is_term_at t c = λ is.
    combination_at c.args.term.now c.in-Combination.function.now c.in-Combination.argument.now (written c.args.self.now) c.in-Some-Combination.first c.in-Some-Combination.second c.args.number
    c.in-Combination.ensures.value (rw c.in-Some-Combination.field-0-is at c.in-Some-Combination.ensures) (c.is_term_at-in_default-2.ensures c.if-is_term_at.true)
    (c.is_term_at-then-is_term_at.ensures is)

pub returns-then-is_variable_at-2 : goal.returns-then-is_variable_at-2
returns-then-is_variable_at-2 t c = λ is.
    abstraction_at c.args.term.now c.in-Abstraction.name.now c.in-Abstraction.ty.now c.in-Abstraction.body.now
    (written c.args.self.now) c.in-Some-Abstraction.first c.in-Some-Abstraction.second c.args.number
    c.in-Abstraction.ensures.value (rw c.in-Some-Abstraction.field-0-is at c.in-Some-Abstraction.ensures)
    (c.is_variable_at-in-Some-Abstraction.ensures c.if-is_variable_at-2.true) (c.is_term_at-then-is_variable_at-2.ensures is)
