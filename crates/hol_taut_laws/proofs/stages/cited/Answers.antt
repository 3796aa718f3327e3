use Rattle.std.proofs.Common.{◌++◌, take, drop}
use Rattle.hol_prelude.specs.Prelude.{first_theorems, prelude_theorems}
use Rattle.hol_prelude.specs.Laws.{laws}
use Rattle.hol_taut_laws.specs.declared.tables.TheConstants.{CITED_FIRST}
use Rattle.hol_taut_laws.proofs.Copies.{first-within, behind-are, behind-made, copies-make, copies-made}
use Rattle.hol_taut_laws.proofs.stages.cited.Goals as goal

pub behind_laws-behind-requires : goal.behind_laws-behind-requires
behind_laws-behind-requires c = rw c.theorems-stored.ensures (first-within c.args.logic.now.theorems.items c.requires.logic.theorems_are)

pub returns-clause-outcome : goal.returns-clause-outcome
returns-clause-outcome c =
    copies-make c.with_copies.result c.in_ok-earlier.earlier.items c.behind_laws-behind.result.now (first_theorems ++ take 4 laws) (drop CITED_FIRST prelude_theorems) c.with_truth.new.recorder.theory
    c.with_copies.ensures.ok c.with_copies.ensures.err c.in_ok-earlier.ensures.outcome.ok.defined c.in_ok-earlier.ensures.outcome.ok.theorems_are
    (behind-are c.args.logic.now.theorems.items c.behind_laws-behind.result.now c.requires.logic.theorems_are (rw c.theorems-stored.ensures at c.behind_laws-behind.ensures))

pub returns-clause-made : goal.returns-clause-made
returns-clause-made c =
    copies-made c.with_copies.result c.with_truth.new.recorder c.in_ok-earlier.earlier.items c.behind_laws-behind.result.now c.with_copies.ensures.ok c.in_ok-earlier.ensures.made
    (behind-made c.args.recorder.now c.with_truth.new.recorder c.args.logic.now.theorems.items c.behind_laws-behind.result.now c.with_truth.ensures.grown c.requires.logic.made
    (rw c.theorems-stored.ensures at c.behind_laws-behind.ensures))
