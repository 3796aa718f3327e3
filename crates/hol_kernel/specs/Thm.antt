-- What the fields of a theorem stand for.
use Rattle.hol_model.specs.Kernel.Theorem.{Theorem}
use Rattle.hol_kernel.specs.declared.thm.Thm.TheInside.{Inside}

abbrev pub viewed_theorem : Inside → Theorem
viewed_theorem thm = record {
  theory = thm.node.value.entries;
  hypotheses = thm.node.value.hypotheses.items;
  conclusion = thm.node.value.conclusion;
}
