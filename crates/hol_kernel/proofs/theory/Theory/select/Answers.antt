use Rattle.std.proofs.Common.{◌≡◌, ◌∷◌, [], ◌∙◌, ap}
use Rattle.hol_model.specs.Kernel.NamedAxioms.{select_hypothesis}
use Rattle.hol_kernel.proofs.RuleLemmas.{theorem-alike, select-theorem}
use Rattle.hol_kernel.proofs.theory.Theory.select.Goals as goal

pub new-requires : goal.new-requires
new-requires c =
    let items : c.in_ok-hypotheses.hypotheses.items ≡ select_hypothesis ∷ [] = c.in_ok-hypotheses.ensures.ok ∙ ap (λ h. h ∷ []) c.in_ok-select_hypothesis.ensures.ok in
    theorem-alike _ _ _ _ _ _ c.entries.ensures.value items c.in_ok-conclusion.ensures.ok (select-theorem c.args.self.now c.entries.ensures.legal)
