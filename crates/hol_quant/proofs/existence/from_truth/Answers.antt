use Rattle.std.proofs.Common.{rules, ◌≡◌, ◌∙◌, [], ◌∷◌, List, ap, subst, sym, refl, None}
use Rattle.std.proofs.lemmas.Result.{err_from_is_err_and}
use Rattle.std.specs.Prelude.{codes}
use Rattle.std.specs.List.{list_all}
use Rattle.hol_model.specs.Terms.HolType.{bool_type}
use Rattle.hol_model.specs.Terms.NamedTerm.{NamedTerm, variable}
use Rattle.hol_model.specs.Terms.Nameless.{image}
use Rattle.hol_model.specs.Terms.Measures.{nameless_within_limits}
use Rattle.hol_model.specs.Logic.Derivable.{nameless_equation}
use Rattle.hol_model.specs.Kernel.Instantiation.{instantiate_all, replacements_refusal}
use Rattle.hol_model.proofs.Terms.Images.{image-type}
use Rattle.hol_equal.specs.Sequents.{Shows, DerivesIf, instance_of}
use Rattle.hol_equal.proofs.CutLemmas.{derives-where}
use Rattle.hol_quant.proofs.GenLemmas.{truth, proposition, formula-passes}
use Rattle.hol_quant.proofs.ExistsLemmas.{back-fits}
use Rattle.hol_quant.proofs.PreludeParts.{back-shows}
use Rattle.hol_quant.proofs.existence.from_truth.Goals as goal

pub returns-clause-derives : goal.returns-clause-derives
returns-clause-derives c room h fits shown =
    let formula = c.args.formula.now in
    let p = image formula in
    let theory = c.args.recorder.now.theory in
    let known = c.requires.known in
    let typed = image-type formula bool_type known.typed in
    let equal = nameless_equation bool_type proposition truth in
    let theta : List (NamedTerm × NamedTerm) = c.in_ok-of_formula.of_formula ∷ [] in
    let wanted : List (NamedTerm × NamedTerm) = (formula, variable (codes "p") bool_type) ∷ [] in
    let theta_is : theta ≡ wanted = λ i. c.in_ok-of_formula.ensures.ok i ∷ [] in
    let passes = subst (λ (l : List (NamedTerm × NamedTerm)). replacements_refusal theory l ≡ None) (sym theta_is) (formula-passes theory formula typed known) in
    let shows = subst (λ (l : List (NamedTerm × NamedTerm)). Shows c.args.premise.now.theorem h (instance_of [] l equal)) (sym theta_is) shown in
    derives-where
    (list_all nameless_within_limits (proposition ∷ equal ∷ p ∷ nameless_equation bool_type p truth ∷ nameless_equation bool_type (nameless_equation bool_type p truth) p ∷ []))
    room c.by_fitting_lemma.result h p (back-fits room p fits)
    (subst (λ (l : List (NamedTerm × NamedTerm)).
    DerivesIf (list_all nameless_within_limits
    (instantiate_all [] proposition ∷ instantiate_all [] equal ∷ instance_of [] l proposition ∷ instance_of [] l equal ∷ nameless_equation
    bool_type (instance_of [] l equal) (instance_of [] l proposition) ∷ [])) c.by_fitting_lemma.result h (instance_of [] l proposition)) theta_is
    (c.by_fitting_lemma.ensures.derives refl passes h equal proposition (back-shows c.theorem_of-lemma.result.now.theorem c.theorem_of-lemma.ensures.theorem) shows))

pub returns-in_err-of_formula-clause-continues : goal.returns-in_err-of_formula-clause-continues
returns-in_err-of_formula-clause-continues c = rw (err_from_is_err_and c.from_residual.result c.from_residual.ensures.1).1 (search rules)

pub by_fitting_lemma-requires-clause-types : goal.by_fitting_lemma-requires-clause-types
by_fitting_lemma-requires-clause-types c = refl

pub by_fitting_lemma-requires-clause-known : goal.by_fitting_lemma-requires-clause-known
by_fitting_lemma-requires-clause-known c =
    let formula = c.args.formula.now in
    let theory = c.args.recorder.now.theory in
    let known = c.requires.known in
    subst (λ (l : List (NamedTerm × NamedTerm)). replacements_refusal theory l ≡ None) (sym (λ i. c.in_ok-of_formula.ensures.ok i ∷ []))
    (formula-passes theory formula (image-type formula bool_type known.typed) known)

pub by_fitting_lemma-requires-clause-fits : goal.by_fitting_lemma-requires-clause-fits
by_fitting_lemma-requires-clause-fits c =
    let formula = c.args.formula.now in
    let equal = nameless_equation bool_type proposition truth in
    let theta_is : c.in_ok-of_formula.of_formula ∷ [] ≡ (formula, variable (codes "p") bool_type) ∷ [] = λ i. c.in_ok-of_formula.ensures.ok i ∷ [] in
    record {
      hypothesis = equal;
      conclusion = proposition;
      lemma_shows = back-shows c.theorem_of-lemma.result.now.theorem c.theorem_of-lemma.ensures.theorem;
      premise_is = c.requires.fits ∙ ap (λ (l : List (NamedTerm × NamedTerm)). instance_of [] l equal) (sym theta_is);
    }
