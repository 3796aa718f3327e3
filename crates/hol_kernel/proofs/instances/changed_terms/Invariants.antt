use Rattle.std.proofs.Common.{take}
use Rattle.hol_kernel.specs.Change.{change_of}
use Rattle.hol_kernel.proofs.InstanceLemmas.{AreChanged}
use Rattle.hol_kernel.proofs.instances.changed_terms.Given as goal

abbrev pub invariant-loop-term : goal.invariant-loop-term
invariant-loop-term l = AreChanged (change_of l.change) (take l.term-index l.terms) l.all.items
