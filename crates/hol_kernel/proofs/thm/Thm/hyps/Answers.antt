use Rattle.std.proofs.Common.{◌≡◌, List, sym, ap, subst}
use Rattle.std.specs.List.{All}
use Rattle.hol_model.specs.Terms.NamedTerm.{NamedTerm}
use Rattle.hol_model.specs.Kernel.Theorem.{Theorem}
use Rattle.hol_kernel.specs.Thm.{viewed_theorem}
use Rattle.hol_kernel.specs.KnownFormula.{IsKnownFormula}
use Rattle.hol_kernel.proofs.TheoremLemmas.{known_hypotheses}
use Rattle.hol_kernel.proofs.thm.Thm.hyps.Goals as goal

pub returns-clause-known : goal.returns-clause-known
returns-clause-known c =
    let theory : c.args.self.now.theory ≡ c.self.inside.node.value.entries = sym (ap (λ (t : Theorem). t.theory) c.self.view_is) in
    let items : c.self.inside.node.value.hypotheses.items ≡ c.deref-2.result.now = cc (c.deref.ensures, c.deref-2.ensures.value) in
    rw theory (subst (λ (terms : List NamedTerm). All (IsKnownFormula c.self.inside.node.value.entries) terms) items (known_hypotheses (viewed_theorem c.self.inside) c.self.invariant))
