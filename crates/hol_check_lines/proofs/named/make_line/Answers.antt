use Rattle.std.proofs.Common.{refl, sym, subst}
use Rattle.hol_check_written.specs.Written.{AreWritten}
use Rattle.hol_check_written.specs.Making.{AreMade}
use Rattle.hol_check_lines.proofs.NamedLemmas.{made_line, there-made}
use Rattle.hol_check_lines.proofs.named.make_line.Goals as goal

pub make-requires-clause-written : goal.make-requires-clause-written
make-requires-clause-written c = subst (AreWritten c.args.terms.now) (sym c.deref.ensures.value) c.requires.terms

pub returns-clause-made : goal.returns-clause-made
returns-clause-made c = there-made c.make.result (record c.args.contents.now { made = c.make.new.made }) c.args.line c.make.ensures.there

pub returns-clause-makes : goal.returns-clause-makes
returns-clause-makes c =
    made_line c.args.terms.now c.make.new.terms c.args.contents.now (record c.args.contents.now { made = c.make.new.made }) c.requires c.make.ensures.grows refl
    (subst (λ l. AreMade c.make.new.terms l c.make.new.made.entries) c.deref.ensures.value c.make.ensures.made) c.make.ensures.stays
