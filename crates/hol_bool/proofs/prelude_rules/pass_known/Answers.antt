use Rattle.std.proofs.Common.{inr, sym}
use Rattle.hol_bool.proofs.prelude_rules.pass_known.Goals as goal

pub returns-in-Some-clause-err : goal.returns-in-Some-clause-err
returns-in-Some-clause-err c = inr (sym (rw c.theory.ensures at c.in-Some.ensures))

pub returns-in-None-clause-ok : goal.returns-in-None-clause-ok
returns-in-None-clause-ok c = sym (rw c.theory.ensures at c.in-None.ensures)
