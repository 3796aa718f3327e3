use Rattle.hol_bool.proofs.FormulaLemmas.{parts-of}
use Rattle.hol_bool.proofs.prelude_rules.sides_of.Goals as goal

pub returns-clause-parts : goal.returns-clause-parts
returns-clause-parts c =
    parts-of (λ sides. sides.left.now)
    (λ sides. sides.right.now) c.connected_sides.result c.args.recorder.now c.args._logic.now c.requires.logic c.theory_is_legal.ensures
    c.args.name.now c.requires.name
    c.args.premise.now.theorem.conclusion c.conclusion_of.ensures.formula (rw c.conclusion_of.ensures.value at c.connected_sides.ensures)
