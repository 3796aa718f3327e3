use Rattle.std.proofs.Common.{◌≡◌, [], refl, map, ◌∙◌, ap}
use Rattle.hol_model.specs.Terms.Nameless.{image}
use Rattle.hol_model.specs.Kernel.Theorem.{with_hypotheses}
use Rattle.hol_kernel.specs.Change.{change_of}
use Rattle.hol_kernel.proofs.RuleLemmas.{theorem-alike}
use Rattle.hol_kernel.proofs.InstanceLemmas.{in_order}
use Rattle.hol_kernel.proofs.instances.changed.Goals as goal

pub new-requires : goal.new-requires
new-requires c =
    let change = change_of c.args.change.now in
    let items : c.in_ok-hypotheses.hypotheses.items ≡ with_hypotheses [] c.in_ok-instances.instances.items = c.in_ok-hypotheses.ensures.ok ∙ ap (with_hypotheses []) c.deref.ensures.value in
    let images : map image c.in_ok-instances.instances.items ≡ map change (map image c.args.theorem.now.hypotheses) =
    c.in_ok-instances.ensures.ok ∙ ap (λ h. map change (map image h)) c.hyps.ensures.value in
    let conclusion : image c.in_ok-conclusion.conclusion ≡ change (image c.args.theorem.now.conclusion) =
    c.in_ok-conclusion.ensures.ok ∙ ap (λ t. change (image t)) c.concl.ensures.value in
    theorem-alike _ _ _ _ _ _ refl items refl
    (in_order c.args.entries.now c.requires.legal c.in_ok-instances.instances.items c.in_ok-conclusion.conclusion _ _ images conclusion (c.requires.derivable c.hyps.ensures.theorem))
