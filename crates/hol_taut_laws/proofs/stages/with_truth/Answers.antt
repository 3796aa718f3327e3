use Rattle.std.proofs.Common.{◌++◌, take, refl}
use Rattle.hol_model.specs.Logic.Logic.{logical_definitions}
use Rattle.hol_prelude_derivations.specs.Derivations.{theorems}
use Rattle.hol_prelude.specs.Prelude.{first_theorems}
use Rattle.hol_prelude.specs.Laws.{laws}
use Rattle.hol_prelude.proofs.PreludeLemmas.{table-makes}
use Rattle.hol_taut_laws.proofs.Copies.{first-within, before-are, before-made}
use Rattle.hol_taut_laws.proofs.stages.with_truth.Goals as goal

pub before_laws-before-requires : goal.before_laws-before-requires
before_laws-before-requires c = rw c.theorems-stored.ensures (first-within c.args.logic.now.theorems.items c.requires.logic.theorems_are)

pub make_table-requires : goal.make_table-requires
make_table-requires c =
    before-made c.args.recorder.now c.args.logic.now.theorems.items c.before_laws-before.result.now c.in_ok-earlier.earlier.items c.new.result.items c.requires.logic.made
    (rw c.theorems-stored.ensures at c.before_laws-before.ensures) c.new.ensures.items c.in_ok-earlier.ensures.ok

pub returns-clause-outcome : goal.returns-clause-outcome
returns-clause-outcome c =
    table-makes c.make_table.result c.args.recorder.now.theory c.make_table.new.recorder.theory logical_definitions (theorems c.in_ok-earlier.earlier.items) first_theorems (first_theorems ++ take 4 laws)
    c.make_table.ensures.outcome c.requires.theory
    (before-are c.args.logic.now.theorems.items c.before_laws-before.result.now c.in_ok-earlier.earlier.items c.new.result.items c.requires.logic.theorems_are
    (rw c.theorems-stored.ensures at c.before_laws-before.ensures) c.new.ensures.items c.in_ok-earlier.ensures.ok) refl
