use Rattle.std.proofs.Common.{◌≡◌, sym, ap}
use Rattle.hol_model.specs.Kernel.Theorem.{Theorem}
use Rattle.hol_kernel.specs.Thm.{viewed_theorem}
use Rattle.hol_kernel.proofs.TheoremLemmas.{known_conclusion}
use Rattle.hol_kernel.proofs.thm.Thm.concl.Goals as goal

pub returns-clause-known : goal.returns-clause-known
returns-clause-known c =
    let theory : c.args.self.now.theory ≡ c.self.inside.node.value.entries = sym (ap (λ (t : Theorem). t.theory) c.self.view_is) in
    let conclusion : c.deref.result.now.conclusion ≡ c.self.inside.node.value.conclusion = cc (c.deref.ensures) in
    rw (theory, conclusion) (known_conclusion (viewed_theorem c.self.inside) c.self.invariant)
