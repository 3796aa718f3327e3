use Rattle.hol_equal.proofs.steps.conclusion_of.Goals as goal
use Rattle.hol_equal.proofs.CutLemmas.{conclusion-formula}

pub returns-clause-formula : goal.returns-clause-formula
returns-clause-formula c = conclusion-formula c.args.recorder.now c.theory_is_legal.ensures c.args.premise.now c.requires c.thm.result.now c.thm.ensures c.concl.ensures.theorem
