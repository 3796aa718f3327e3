use Rattle.std.proofs.Common.{[], refl}
use Rattle.hol_prelude.specs.Prelude.{first_theorems}
use Rattle.hol_prelude.proofs.PreludeLemmas.{table-makes}
use Rattle.hol_prelude.proofs.stages.first.Goals as goal

pub returns-clause-outcome : goal.returns-clause-outcome
returns-clause-outcome c = table-makes c.make_first.result c.args.recorder.now.theory c.make_first.new.recorder.theory [] [] [] first_theorems c.make_first.ensures.outcome c.requires.new refl refl
