use Rattle.std.proofs.Common.{subst, sym}
use Rattle.std.specs.Prelude.{nat_eq}
use Rattle.std.proofs.lemmas.Bool.{eqb-true}
use Rattle.hol_check_terms.specs.Entries.{HasOnlyAdded}
use Rattle.hol_check_terms.proofs.MemoLemmas.{insert-added}
use Rattle.hol_check_terms.proofs.memo.remember_type.Goals as goal

pub returns-clause-added : goal.returns-clause-added
returns-clause-added c = subst (λ l. HasOnlyAdded c.args.types.now.entries l c.args.ty c.args.new) (sym c.in_ok-insert.ensures.entries)
    (insert-added nat_eq eqb-true c.args.types.now.entries c.args.ty c.args.new)
