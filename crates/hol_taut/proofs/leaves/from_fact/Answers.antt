use Rattle.std.proofs.Common.{◌≡◌, Bool, Some, sym, subst, ◌∙◌}
use Rattle.std.proofs.lemmas.Result.{IfOk-weaker}
use Rattle.hol_model.specs.Terms.Nameless.{image}
use Rattle.hol_journal.specs.Journal.{Recorded}
use Rattle.hol_model.specs.Propositional.Connectives.{fact}
use Rattle.hol_taut.specs.Proved.{Proves}
use Rattle.hol_taut.proofs.leaves.from_fact.Goals as goal

pub returns-clause-proves : goal.returns-clause-proves
returns-clause-proves c allowed proved =
    let term = image c.args.term.now in
    let known = c.in-Some.known in
    IfOk-weaker c.copy.result _ _
    (λ made same value is.
    let both : Some known.value ≡ Some value = c.in-Some.ensures.value ∙ is in
    let value_is : known.value ≡ value = cc in
    subst (λ (v : Bool). Proves made.theorem allowed (fact v term)) value_is
    (subst (λ (r : Recorded). Proves r.theorem allowed (fact known.value term)) (sym same) (c.in-Some.ensures.proved allowed proved)))
    c.copy.ensures.ok
