use Rattle.std.proofs.Common.{sym, ap, ◌∙◌, eq-eqb, length}
use Rattle.hol_model.specs.Kernel.Theorem.{Theorem}
use Rattle.hol_journal.proofs.GrowthLemmas.{journals-grow}
use Rattle.hol_prelude_derivations.proofs.DerivationLemmas.{unchanged-err, inst-answers}
use Rattle.hol_prelude_derivations.proofs.derivation.by_inst.Goals as goal

pub returns-in_err-term_of-2-clause-goes_on : goal.returns-in_err-term_of-2-clause-goes_on
returns-in_err-term_of-2-clause-goes_on c =
    unchanged-err c.args.recorder.now c.from_residual-in_err-term_of-2.result c.from_residual-in_err-term_of-2.ensures.0

pub returns-in_err-conclusion-clause-goes_on : goal.returns-in_err-conclusion-clause-goes_on
returns-in_err-conclusion-clause-goes_on c =
    unchanged-err c.args.recorder.now c.from_residual-in_err-conclusion.result c.from_residual-in_err-conclusion.ensures.0

pub renamed-requires : goal.renamed-requires
renamed-requires c = journals-grow.made c.args.recorder.now c.infer.new.self _ c.in_ok-instance.instance c.in_ok-instance.ensures.recorded

pub returns-clause-outcome : goal.returns-clause-outcome
returns-clause-outcome c =
    let hypotheses = c.hyps.ensures.value ∙ ap (λ (t : Theorem). t.hypotheses) c.thm.ensures in
    let none = eq-eqb (length c.args.theorem.now.theorem.hypotheses) 0 (ap length (sym hypotheses) ∙ c.if-hyps-ne0.false) in
    let old = c.args.recorder.now in
    inst-answers _ old.theory c.infer.new.self.theory c.args.new.now c.args.old.now c.args.conclusion.now c.in_ok-term_of.field-0 c.in_ok-term_of-2.field-0 c.in_ok-conclusion.conclusion
    c.args.theorem.now.theorem c.in_ok-instance.instance.theorem c.in_ok-term_of.ensures.outcome c.in_ok-term_of-2.ensures.outcome c.in_ok-conclusion.ensures.outcome
    none c.in_ok-instance.ensures.outcome.0 c.in_ok-instance.ensures.outcome.1 c.infer.ensures.continues.theory c.renamed.ensures.outcome
