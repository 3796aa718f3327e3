use Rattle.std.proofs.Common.{rules, ◌≡◌, [], ◌∷◌, ◌∙◌, List, ap, subst, sym, refl, None}
use Rattle.std.proofs.lemmas.Result.{err_from_is_err_and}
use Rattle.std.specs.Prelude.{codes}
use Rattle.std.specs.List.{list_all}
use Rattle.hol_model.specs.Terms.HolType.{bool_type}
use Rattle.hol_model.specs.Terms.NamedTerm.{NamedTerm, variable}
use Rattle.hol_model.specs.Terms.Nameless.{image}
use Rattle.hol_model.specs.Terms.Measures.{nameless_within_limits}
use Rattle.hol_model.specs.Logic.Derivable.{nameless_equation}
use Rattle.hol_model.specs.Kernel.Theorem.{Theorem}
use Rattle.hol_model.specs.Kernel.Instantiation.{instantiate_all, replacements_refusal}
use Rattle.hol_model.specs.Derived.DerivedRules.{images}
use Rattle.hol_journal.proofs.Showing.{formula_of}
use Rattle.hol_equal.specs.Sequents.{Shows, DerivesIf, instance_of}
use Rattle.hol_equal.proofs.CutLemmas.{conclusion-known, shows-itself, derives-where}
use Rattle.hol_quant.proofs.GenLemmas.{truth, proposition, formula-passes, truth-fits}
use Rattle.hol_quant.proofs.PreludeParts.{truth-shows}
use Rattle.hol_quant.proofs.generalization.equal_to_truth.Goals as goal

pub returns-clause-derives : goal.returns-clause-derives
returns-clause-derives c room fits =
    let premise = c.args.premise.now.theorem in
    let p = image premise.conclusion in
    let theory = c.args.recorder.now.theory in
    let is_theorem = rw c.thm.ensures at c.concl.ensures.theorem in
    let typed = formula_of premise is_theorem in
    let known = conclusion-known c.args.recorder.now c.theory_is_legal.ensures c.args.premise.now c.requires.premise is_theorem in
    let conclusion_is : c.concl.result.now ≡ premise.conclusion = c.concl.ensures.value ∙ ap (λ (t : Theorem). t.conclusion) c.thm.ensures in
    let theta : List (NamedTerm × NamedTerm) = c.in_ok-of_formula.of_formula ∷ [] in
    let wanted : List (NamedTerm × NamedTerm) = (premise.conclusion, variable (codes "p") bool_type) ∷ [] in
    let pair_is : c.in_ok-of_formula.of_formula ≡ (premise.conclusion, variable (codes "p") bool_type) = c.in_ok-of_formula.ensures.ok ∙ (λ i. (conclusion_is i, variable (codes "p") bool_type)) in
    let theta_is : theta ≡ wanted = λ i. pair_is i ∷ [] in
    let passes = subst (λ (l : List (NamedTerm × NamedTerm)). replacements_refusal theory l ≡ None) (sym theta_is) (formula-passes theory premise.conclusion typed known) in
    let shows = subst (λ (l : List (NamedTerm × NamedTerm)). Shows premise (images premise) (instance_of [] l proposition)) (sym theta_is) (shows-itself premise) in
    let d = nameless_equation bool_type proposition truth in
    derives-where
    (list_all nameless_within_limits (d ∷ proposition ∷ nameless_equation bool_type p truth ∷ p ∷ nameless_equation bool_type p (nameless_equation bool_type p truth) ∷ []))
    room c.by_fitting_lemma.result (images premise) (nameless_equation bool_type p truth) (truth-fits room p fits)
    (subst (λ (l : List (NamedTerm × NamedTerm)).
    DerivesIf (list_all nameless_within_limits
    (instantiate_all [] d ∷ instantiate_all [] proposition ∷ instance_of [] l d ∷ instance_of [] l proposition ∷ nameless_equation bool_type
    (instance_of [] l proposition) (instance_of [] l d) ∷ [])) c.by_fitting_lemma.result (images premise) (instance_of [] l d)) theta_is
    (c.by_fitting_lemma.ensures.derives refl passes (images premise) proposition d (truth-shows c.theorem_of-lemma.result.now.theorem c.theorem_of-lemma.ensures.theorem) shows))

pub by_fitting_lemma-requires-clause-known : goal.by_fitting_lemma-requires-clause-known
by_fitting_lemma-requires-clause-known c =
    let premise = c.args.premise.now.theorem in
    let theory = c.args.recorder.now.theory in
    let is_theorem = rw c.thm.ensures at c.concl.ensures.theorem in
    let typed = formula_of premise is_theorem in
    let known = conclusion-known c.args.recorder.now c.theory_is_legal.ensures c.args.premise.now c.requires.premise is_theorem in
    let conclusion_is : c.concl.result.now ≡ premise.conclusion = c.concl.ensures.value ∙ ap (λ (t : Theorem). t.conclusion) c.thm.ensures in
    let pair_is : c.in_ok-of_formula.of_formula ≡ (premise.conclusion, variable (codes "p") bool_type) = c.in_ok-of_formula.ensures.ok ∙ (λ i. (conclusion_is i, variable (codes "p") bool_type)) in
    subst (λ (l : List (NamedTerm × NamedTerm)). replacements_refusal theory l ≡ None) (sym (λ i. pair_is i ∷ [])) (formula-passes theory premise.conclusion typed known)

pub returns-in_err-of_formula-clause-continues : goal.returns-in_err-of_formula-clause-continues
returns-in_err-of_formula-clause-continues c = rw (err_from_is_err_and c.from_residual.result c.from_residual.ensures.1).1 (search rules)

pub by_fitting_lemma-requires-clause-types : goal.by_fitting_lemma-requires-clause-types
by_fitting_lemma-requires-clause-types c = refl

pub by_fitting_lemma-requires-clause-fits : goal.by_fitting_lemma-requires-clause-fits
by_fitting_lemma-requires-clause-fits c =
    let premise = c.args.premise.now.theorem in
    let conclusion_is : c.concl.result.now ≡ premise.conclusion = c.concl.ensures.value ∙ ap (λ (t : Theorem). t.conclusion) c.thm.ensures in
    let pair_is : c.in_ok-of_formula.of_formula ≡ (premise.conclusion, variable (codes "p") bool_type) = c.in_ok-of_formula.ensures.ok ∙ (λ i. (conclusion_is i, variable (codes "p") bool_type)) in
    let theta_is : c.in_ok-of_formula.of_formula ∷ [] ≡ (premise.conclusion, variable (codes "p") bool_type) ∷ [] = λ i. pair_is i ∷ [] in
    record {
      hypothesis = proposition;
      conclusion = nameless_equation bool_type proposition truth;
      lemma_shows = truth-shows c.theorem_of-lemma.result.now.theorem c.theorem_of-lemma.ensures.theorem;
      premise_is = ap (λ (l : List (NamedTerm × NamedTerm)). instance_of [] l proposition) (sym theta_is);
    }
