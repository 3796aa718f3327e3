use Rattle.hol_bool.proofs.FormulaLemmas.{part-of}
use Rattle.hol_bool.proofs.prelude_rules.negated_of.Goals as goal

pub returns-clause-part : goal.returns-clause-part
returns-clause-part c =
    part-of (λ part. part.now) c.negated_part.result c.args.recorder.now c.args._logic.now c.requires.logic c.conclusion_of.ensures.legal
    c.args.premise.now.theorem.conclusion c.conclusion_of.ensures.formula (rw c.conclusion_of.ensures.value at c.negated_part.ensures)
