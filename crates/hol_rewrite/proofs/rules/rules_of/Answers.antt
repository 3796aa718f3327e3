use Rattle.std.proofs.Common.{◌≡◌, List, ◌∙◌, ap, subst, Ok}
use Rattle.hol_model.specs.Terms.NamedTerm.{NamedTerm}
use Rattle.hol_model.specs.Kernel.Theorem.{Theorem}
use Rattle.hol_model.specs.Rewrites.Rewriting.{AnswersRules}
use Rattle.hol_prelude_derivations.specs.Derivations.{theorems}
use Rattle.hol_rewrite.specs.Rules.{HasRules}
use Rattle.hol_rewrite.proofs.JoinedRules.{if-ok}
use Rattle.hol_rewrite.proofs.rules.rules_of.Goals as goal

pub returns-clause-ok : goal.returns-clause-ok
returns-clause-ok c =
    let theorem = c.args.theorem.now.theorem in
    let value : c.hyps-hypotheses.result.now ≡ theorem.hypotheses = c.hyps-hypotheses.ensures.value ∙ ap (λ (t : Theorem). t.hypotheses) c.thm.ensures in
    if-ok (λ rules. HasRules c.hyps-hypotheses.result.now theorem.conclusion (theorems rules.items)) (λ rules. AnswersRules theorem (Ok (theorems rules.items))) c.rules_under.result
    (λ rules has.
    let here = subst (λ (hypotheses : List NamedTerm). HasRules hypotheses theorem.conclusion (theorems rules.items)) value has in
    (here.equations, here.rules_of, here.are_rules))
    c.rules_under.ensures.ok
