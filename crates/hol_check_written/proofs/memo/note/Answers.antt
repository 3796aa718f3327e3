use Rattle.std.proofs.Common.{subst, sym}
use Rattle.std.specs.Prelude.{nat_eq}
use Rattle.std.proofs.lemmas.Bool.{eqb-true}
use Rattle.hol_check_terms.specs.Entries.{HasOnlyAdded}
use Rattle.hol_check_terms.proofs.MemoLemmas.{insert-added}
use Rattle.hol_check_written.proofs.MemoLemmas.{noted-there, noted-stays}
use Rattle.hol_check_written.proofs.memo.note.Goals as goal

pub returns-clause-added : goal.returns-clause-added
returns-clause-added c = subst (λ l. HasOnlyAdded c.args.parts.now.entries l c.args.line c.args.number) (sym c.in_ok-insert.ensures.entries)
    (insert-added nat_eq eqb-true c.args.parts.now.entries c.args.line c.args.number)

pub returns-clause-stays : goal.returns-clause-stays
returns-clause-stays c = noted-stays c.args.parts.now.entries c.insert.new.self.entries c.args.line c.args.number c.in_ok-insert.ensures.entries

pub returns-clause-there : goal.returns-clause-there
returns-clause-there c = noted-there c.args.parts.now.entries c.insert.new.self.entries c.args.line c.args.number c.in_ok-insert.ensures.entries
