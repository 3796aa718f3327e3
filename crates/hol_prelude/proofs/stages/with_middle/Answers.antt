use Rattle.std.proofs.Common.{◌++◌, refl}
use Rattle.hol_model.specs.Logic.Logic.{logical_definitions}
use Rattle.hol_prelude.specs.Prelude.{first_theorems, disjunction_theorems, case_theorems, existence_theorems, axiom_theorems, middle_theorems}
use Rattle.hol_prelude.specs.Laws.{laws, falsity_laws, decider_laws}
use Rattle.hol_journal.proofs.GrowthLemmas.{journals-grow}
use Rattle.hol_prelude_derivations.specs.Derivations.{theorems}
use Rattle.hol_prelude.proofs.PreludeLemmas.{table-makes}
use Rattle.hol_prelude.proofs.stages.with_middle.Goals as goal

pub returns-clause-outcome : goal.returns-clause-outcome
returns-clause-outcome c =
    table-makes c.make_table.result c.with_axioms.new.recorder.theory c.make_table.new.recorder.theory logical_definitions
    (theorems c.in_ok-earlier.earlier.items)
    (first_theorems ++ laws ++ falsity_laws ++ decider_laws ++ disjunction_theorems ++ case_theorems ++ existence_theorems ++ axiom_theorems)
    (first_theorems ++ laws ++ falsity_laws ++ decider_laws ++ disjunction_theorems ++ case_theorems ++ existence_theorems ++ axiom_theorems
    ++ middle_theorems)
    c.make_table.ensures.outcome c.in_ok-earlier.ensures.outcome.ok.defined c.in_ok-earlier.ensures.outcome.ok.theorems_are refl

pub returns-clause-grown : goal.returns-clause-grown
returns-clause-grown c = journals-grow.twice c.args.recorder.now c.with_axioms.new.recorder c.make_table.new.recorder c.with_axioms.ensures.grown c.make_table.ensures.grown
