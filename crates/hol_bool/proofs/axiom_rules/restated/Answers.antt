use Rattle.std.proofs.Common.{◌≡◌, ◌∙◌, [], IfOk, sym, subst, ap}
use Rattle.hol_model.specs.Terms.HolType.{bool_type}
use Rattle.hol_model.specs.Terms.NamedTerm.{NamedTerm}
use Rattle.hol_model.specs.Terms.Nameless.{image}
use Rattle.hol_model.specs.Kernel.Theorem.{Theorem}
use Rattle.hol_model.specs.Terms.Measures.{nameless_within_limits}
use Rattle.hol_model.specs.Logic.Derivable.{nameless_equation}
use Rattle.hol_equal.specs.Sequents.{Shows, DerivesIf}
use Rattle.hol_bool.proofs.AxiomLemmas.{axiom-is, axiom-shown, restated-ok, restated-err}
use Rattle.hol_bool.proofs.axiom_rules.restated.Goals as goal

pub returns-clause-ok : goal.returns-clause-ok
returns-clause-ok c conclusion is =
    let stored = c.theorem_of-stored.result.now.theorem in
    let there = c.theorem_of-stored.ensures.theorem in
    let conclusion_is : c.conclusion_of-conclusion.result.now ≡ conclusion = c.conclusion_of-conclusion.ensures.value
    ∙ sym (ap (λ (t : Theorem). t.conclusion) (axiom-is c.args.number conclusion stored is there)) in
    let fits = nameless_within_limits (nameless_equation bool_type (image conclusion) (image conclusion)) in
    restated-ok c.named.result c.args.recorder.now c.named.new.recorder fits conclusion c.named.ensures.continues
    (subst (λ (t : NamedTerm). IfOk c.named.result (λ made. made.theorem.conclusion ≡ t)) conclusion_is c.named.ensures.names)
    (subst (λ (t : NamedTerm). Shows stored [] (image t)
    → DerivesIf (nameless_within_limits (nameless_equation bool_type (image t) (image t))) c.named.result [] (image t)) conclusion_is
    (c.named.ensures.derives [])
    (axiom-shown c.args.number conclusion stored is there))

pub returns-clause-err : goal.returns-clause-err
returns-clause-err c conclusion is =
    let stored = c.theorem_of-stored.result.now.theorem in
    let there = c.theorem_of-stored.ensures.theorem in
    let conclusion_is : c.conclusion_of-conclusion.result.now ≡ conclusion = c.conclusion_of-conclusion.ensures.value
    ∙ sym (ap (λ (t : Theorem). t.conclusion) (axiom-is c.args.number conclusion stored is there)) in
    let fits = nameless_within_limits (nameless_equation bool_type (image conclusion) (image conclusion)) in
    restated-err c.named.result fits conclusion is.fits
    (subst (λ (t : NamedTerm). Shows stored [] (image t)
    → DerivesIf (nameless_within_limits (nameless_equation bool_type (image t) (image t))) c.named.result [] (image t)) conclusion_is
    (c.named.ensures.derives [])
    (axiom-shown c.args.number conclusion stored is there))
