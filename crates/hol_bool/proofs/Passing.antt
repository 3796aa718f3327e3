-- What `?` returns before the first step.
use Rattle.std.proofs.Common.{[], Result, Ok, Err, refl, sym, append-nil}
use Rattle.std.specs.Result.{IsErr}
use Rattle.hol_model.specs.declared.fault.Fault.{Fault}
use Rattle.hol_model.proofs.Logic.Earlier.{earlier-same}
use Rattle.hol_journal.specs.Journal.{Journal, Recorded}
use Rattle.hol_journal.specs.Growth.{Continues}

pub unchanged : (journal : Journal) (result : Result Recorded Fault) → IsErr result → Continues journal journal result
unchanged journal (Ok made) is = cc
unchanged journal (Err fault) is = record {
  grown = record { added = []; entries = sym (append-nil journal.entries); earlier = earlier-same journal.theory journal.theory refl };
  theory = refl;
  held = tt;
}
