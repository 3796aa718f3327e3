use Rattle.std.proofs.Common.{◌≡◌, refl}
use Rattle.hol_model.specs.Kernel.Theorem.{without_hypothesis}
use Rattle.hol_kernel.proofs.RuleLemmas.{theorem-alike, deduct_antisym_known-theorem}
use Rattle.hol_kernel.proofs.theory.Theory.deduct_antisym_known.Goals as goal

pub equation_theorem-requires-clause-theorem : goal.equation_theorem-requires-clause-theorem
equation_theorem-requires-clause-theorem c = λ ty typed.
    let first = c.args.first.now in
    let second = c.args.second.now in
    let items : c.in_ok-hypotheses.hypotheses.items ≡ without_hypothesis second.conclusion first.hypotheses =
    cc (c.in_ok-hypotheses.ensures.ok, c.hyps.ensures.value, c.concl.ensures.value) in
    rw (c.concl-2.ensures.value, c.concl-3.ensures.value)
    (theorem-alike _ _ _ _ _ _ c.entries-entries.ensures.value items refl
    (deduct_antisym_known-theorem c.args.self.now c.entries-entries.ensures.legal first second c.requires.first c.requires.second c.concl-2.ensures.theorem c.concl-3.ensures.theorem c.requires.fits))
