use Rattle.hol_subst.specs.Replacements.{entries_of, binders_of}
use Rattle.hol_subst.specs.VariableTypes.{known_table}
use Rattle.hol_subst.proofs.Standing.{IsBroughtFrom-pairs, IsBroughtFrom-putting}
use Rattle.hol_subst.proofs.capture.+brought_by_entries.Goals as goal

pub returns-in-Pairs : goal.returns-in-Pairs
returns-in-Pairs t c =
    rw c.in-Pairs.is
    (IsBroughtFrom-pairs (known_table c.args.known.now) c.brought_by_pairs.result.bits c.in-Pairs.pairs.now (binders_of c.args.passed.now)
    c.args.sought.name.now c.args.sought.ty.now c.brought_by_pairs.ensures)

pub returns-then-admits : goal.returns-then-admits
returns-then-admits t c =
    rw c.in-Putting.is
    (IsBroughtFrom-putting (known_table c.args.known.now) c.union.result.bits c.brought_by_entries-classes.result.bits c.of_name.result.bits (entries_of c.in-Putting.outer.now)
    (binders_of c.args.passed.now) c.args.sought.name.now c.args.sought.ty.now c.in-Putting.other.now c.in-Putting.s.now c.in-Putting.new.now
    c.union.ensures c.of_name.ensures c.brought_by_entries-classes.ensures)
