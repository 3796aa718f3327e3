use Rattle.std.proofs.Common.{sym}
use Rattle.hol_check_rules.proofs.OrderLemmas.{set_of-made, ordered-by_set}
use Rattle.hol_check_rules.proofs.hypotheses.«+set_of».Goals as goal

pub union-requires-clause-first_ordered : goal.union-requires-clause-first_ordered
union-requires-clause-first_ordered t c = rw c.deref.ensures.value (ordered-by_set c.args.terms.now.terms c.in_ok-left.left.items _ c.in_ok-left.ensures.all)

pub union-requires-clause-second_ordered : goal.union-requires-clause-second_ordered
union-requires-clause-second_ordered t c = rw c.deref-2.ensures.value (ordered-by_set c.args.terms.now.terms c.in_ok-right.right.items _ c.in_ok-right.ensures.all)

pub returns-clause-all : goal.returns-clause-all
returns-clause-all t c =
    let whole = rw (c.deref.ensures.value, c.deref-2.ensures.value) at c.union.ensures.all in
    set_of-made c.args.terms.now.terms _ _ c.in_ok-left.left.items c.in_ok-right.right.items c.args.list.now c.union.result c.in_ok-left.ensures.all c.in_ok-right.ensures.all whole
    (sym c.split_at.ensures.by_index.0)
