use Rattle.std.proofs.Common.{◌≡◌, refl}
use Rattle.hol_model.specs.Kernel.Theorem.{with_hypotheses, without_hypothesis}
use Rattle.hol_kernel.proofs.RuleLemmas.{theorem-alike, deduct_antisym-types, deduct_antisym-theorem}
use Rattle.hol_kernel.proofs.theory.Theory.deduct_antisym.Goals as goal

pub equation_theorem-requires-clause-typed : goal.equation_theorem-requires-clause-typed
equation_theorem-requires-clause-typed c =
    cc (
      deduct_antisym-types c.args.self.now c.entries-entries.ensures.legal c.args.first.now c.args.second.now c.requires.first c.requires.second c.concl-3.ensures.theorem c.concl-4.ensures.theorem,
      c.concl-3.ensures.value,
      c.concl-4.ensures.value,
    )

pub equation_theorem-requires-clause-theorem : goal.equation_theorem-requires-clause-theorem
equation_theorem-requires-clause-theorem c = λ ty typed.
    let first = c.args.first.now in
    let second = c.args.second.now in
    let items : c.in_ok-hypotheses.hypotheses.items ≡ with_hypotheses (without_hypothesis second.conclusion first.hypotheses) (without_hypothesis first.conclusion second.hypotheses) =
    cc (
      c.in_ok-hypotheses.ensures.ok,
      c.deref.ensures.value,
      c.deref-2.ensures.value,
      c.in_ok-from_first.ensures.ok,
      c.in_ok-from_second.ensures.ok,
      c.hyps.ensures.value,
      c.hyps-2.ensures.value,
      c.concl.ensures.value,
      c.concl-2.ensures.value,
    ) in
    rw (c.concl-3.ensures.value, c.concl-4.ensures.value)
    (theorem-alike _ _ _ _ _ _ c.entries-entries.ensures.value items refl
    (deduct_antisym-theorem c.args.self.now c.entries-entries.ensures.legal first second c.requires.first c.requires.second c.concl-3.ensures.theorem c.concl-4.ensures.theorem))
