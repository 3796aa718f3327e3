use Rattle.std.proofs.Common.{ap}
use Rattle.hol_journal.specs.Views.{entry_of}
use Rattle.hol_journal_log.specs.Writer.{written}
use Rattle.hol_journal_log.proofs.StepLineLemmas.{theorems_of_step, theorems_of_term, definition_answers, declaration_answers}
use Rattle.hol_journal_log.proofs.writer.Writer.write_entry.Goals as goal

pub put_theorem-requires : goal.put_theorem-requires
put_theorem-requires c =
    let same = theorems_of_step (written c.args.self.now) (written c.step.new.self) _ _ c.in_ok-line-in-Derived.ensures.ok in
    rw same c.requires

pub put_theorem-requires-in-Defined : goal.put_theorem-requires-in-Defined
put_theorem-requires-in-Defined c =
    let same = theorems_of_term (written c.args.self.now) (written c.term_number.new.self) _ _ c.in_ok-term-in-Defined.ensures.ok in
    rw same c.requires

pub returns-in_ok-term-in-Defined-clause-ok : goal.returns-in_ok-term-in-Defined-clause-ok
returns-in_ok-term-in-Defined-clause-ok c =
    definition_answers c.put_theorem-in-Defined.result (written c.args.self.now) (written c.term_number.new.self) (written c.put_theorem-in-Defined.new.self) c.args.number c.in_ok-term-in-Defined.term
    (entry_of c.args.entry.now) c.as_str.result.now _ _ _ (ap entry_of c.in-Defined.is) c.as_str.ensures.value c.in_ok-term-in-Defined.ensures.ok c.put_theorem-in-Defined.ensures.ok

pub returns-in_ok-ty-in-DeclaredConstant-clause-ok : goal.returns-in_ok-ty-in-DeclaredConstant-clause-ok
returns-in_ok-ty-in-DeclaredConstant-clause-ok c =
    declaration_answers c.put_line-in-DeclaredConstant.result (written c.args.self.now) (written c.type_number.new.self)
    (written c.put_line-in-DeclaredConstant.new.self) c.args.number c.in_ok-ty-in-DeclaredConstant.ty
    (entry_of c.args.entry.now) c.as_str-in-DeclaredConstant.result.now _ _
    (ap entry_of c.in-DeclaredConstant.is) c.as_str-in-DeclaredConstant.ensures.value c.in_ok-ty-in-DeclaredConstant.ensures.ok
    c.put_line-in-DeclaredConstant.ensures.ok
