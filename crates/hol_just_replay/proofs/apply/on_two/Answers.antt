use Rattle.hol_journal.specs.Journal.{theorem_in}
use Rattle.hol_just_replay.proofs.apply.on_two.Goals as goal

pub returns-in-Trans-clause-inferred : goal.returns-in-Trans-clause-inferred
returns-in-Trans-clause-inferred c =
    rw c.in-Trans.is ((c.primitive_rules_infer.ensures c.args.recorder.now.theory c.conclusion_of-first.ensures.legal).trans c.args.first.now.theorem
    c.args.second.now.theorem c.conclusion_of-first.ensures.formula c.conclusion_of-second.ensures.formula (theorem_in c.infer.result) c.infer.ensures.outcome)

pub returns-in-MkComb-clause-inferred : goal.returns-in-MkComb-clause-inferred
returns-in-MkComb-clause-inferred c =
    rw c.in-MkComb.is ((c.primitive_rules_infer.ensures c.args.recorder.now.theory c.conclusion_of-first.ensures.legal).mk_comb c.args.first.now.theorem
    c.args.second.now.theorem c.conclusion_of-first.ensures.formula c.conclusion_of-second.ensures.formula (theorem_in c.infer-in-MkComb.result) c.infer-in-MkComb.ensures.outcome)

pub returns-in-EqMp-clause-inferred : goal.returns-in-EqMp-clause-inferred
returns-in-EqMp-clause-inferred c =
    rw c.in-EqMp.is ((c.primitive_rules_infer.ensures c.args.recorder.now.theory c.conclusion_of-first.ensures.legal).eq_mp c.args.first.now.theorem
    c.args.second.now.theorem c.conclusion_of-first.ensures.formula c.conclusion_of-second.ensures.formula (theorem_in c.infer-in-EqMp.result) c.infer-in-EqMp.ensures.outcome)

pub returns-in-DeductAntisym-clause-inferred : goal.returns-in-DeductAntisym-clause-inferred
returns-in-DeductAntisym-clause-inferred c =
    rw c.in-DeductAntisym.is ((c.primitive_rules_infer.ensures c.args.recorder.now.theory c.conclusion_of-first.ensures.legal).deduct_antisym c.args.first.now.theorem
    c.args.second.now.theorem c.conclusion_of-first.ensures.formula (theorem_in c.infer-in-DeductAntisym.result) c.infer-in-DeductAntisym.ensures.outcome)
