use Rattle.std.proofs.Common.{rules, ◌≡◌, ◌∙◌, ◌∷◌, [], List, subst, sym, None}
use Rattle.std.proofs.lemmas.Result.{err_from_is_err_and}
use Rattle.std.specs.Prelude.{codes}
use Rattle.std.specs.List.{list_all}
use Rattle.hol_model.specs.Terms.HolType.{HolType, bool_type}
use Rattle.hol_model.specs.Logic.Logic.{predicate}
use Rattle.hol_model.specs.Terms.NamedTerm.{NamedTerm, variable}
use Rattle.hol_model.specs.Terms.Nameless.{image}
use Rattle.hol_model.specs.Terms.Measures.{nameless_within_limits}
use Rattle.hol_model.specs.Logic.Theory.{type_a}
use Rattle.hol_model.specs.Logic.Derivable.{nameless_equation}
use Rattle.hol_model.specs.Kernel.Instantiation.{instantiate_all, replacements_refusal, type_replacements_refusal}
use Rattle.hol_model.proofs.Terms.Images.{image-type}
use Rattle.hol_model.proofs.Logic.Known.{IsKnown-type}
use Rattle.hol_equal.specs.Sequents.{Shows, DerivesIf, instance_of}
use Rattle.hol_quant.proofs.InstanceLemmas.{type-passes, two-pass}
use Rattle.hol_quant.proofs.instances.by_formula_lemma.Goals as goal

pub returns-clause-derives : goal.returns-clause-derives
returns-clause-derives c ty function_known element_known is_formula h p q shown premise =
    let theory = c.args.recorder.now.theory in
    let function = c.args.function.now in
    let element = c.args.element.now in
    let function_typed = image-type function (predicate ty) function_known.typed in
    let element_typed = image-type element ty element_known.typed in
    let formula = c.args.formula.now in
    let types : List (HolType × HolType) = c.in_ok-of_type.of_type ∷ [] in
    let wanted_types : List (HolType × HolType) = (ty, type_a) ∷ [] in
    let type_is : c.in_ok-of_type.of_type ≡ (ty, type_a) = c.in_ok-of_type.ensures.ok ty element_typed in
    let types_are : types ≡ wanted_types = λ i. type_is i ∷ [] in
    let terms : List (NamedTerm × NamedTerm) = c.in_ok-of_predicate.of_predicate ∷ c.in_ok-of_formula.of_formula ∷ [] in
    let wanted_terms : List (NamedTerm × NamedTerm) = (function, variable (codes "P") (predicate ty)) ∷ (formula, variable (codes "q") bool_type) ∷ [] in
    let predicate_is : c.in_ok-of_predicate.of_predicate ≡ (function, variable (codes "P") (predicate ty)) = c.in_ok-of_predicate.ensures.ok (predicate ty) function_typed in
    let formula_is : c.in_ok-of_formula.of_formula ≡ (formula, variable (codes "q") bool_type) = c.in_ok-of_formula.ensures.ok in
    let terms_are : terms ≡ wanted_terms = λ i. predicate_is i ∷ formula_is i ∷ [] in
    let types_pass = subst (λ (l : List (HolType × HolType)). type_replacements_refusal theory l ≡ None) (sym types_are)
    (type-passes theory ty (IsKnown-type theory (image element) ty element_known)) in
    let terms_pass = subst (λ (l : List (NamedTerm × NamedTerm)). replacements_refusal theory l ≡ None) (sym terms_are)
    (two-pass theory function formula (codes "P") (codes "q") (predicate ty) bool_type function_typed is_formula.typed function_known is_formula.known) in
    let premise_there = subst (λ (l : List (HolType × HolType)). Shows c.args.premise.now.theorem h (instance_of l terms p)) (sym types_are)
    (subst (λ (l : List (NamedTerm × NamedTerm)). Shows c.args.premise.now.theorem h (instance_of wanted_types l p)) (sym terms_are) premise) in
    subst (λ (l : List (NamedTerm × NamedTerm)).
    DerivesIf (list_all nameless_within_limits
    (instantiate_all wanted_types q ∷ instantiate_all wanted_types p ∷ instance_of wanted_types l q ∷ instance_of wanted_types l p ∷
    nameless_equation bool_type (instance_of wanted_types l p) (instance_of wanted_types l q) ∷ [])) c.by_fitting_lemma.result h
    (instance_of wanted_types l q)) terms_are
    (subst (λ (l : List (HolType × HolType)).
    DerivesIf (list_all nameless_within_limits
    (instantiate_all l q ∷ instantiate_all l p ∷ instance_of l terms q ∷ instance_of l terms p ∷ nameless_equation bool_type
    (instance_of l terms p) (instance_of l terms q) ∷ [])) c.by_fitting_lemma.result h (instance_of l terms q)) types_are
    (c.by_fitting_lemma.ensures.derives types_pass terms_pass h p q shown premise_there))

pub returns-in_err-of_type-clause-continues : goal.returns-in_err-of_type-clause-continues
returns-in_err-of_type-clause-continues c = rw (err_from_is_err_and c.from_residual.result c.from_residual.ensures.1).1 (search rules)

pub returns-in_err-of_predicate-clause-continues : goal.returns-in_err-of_predicate-clause-continues
returns-in_err-of_predicate-clause-continues c = rw (err_from_is_err_and c.from_residual-in_err-of_predicate.result c.from_residual-in_err-of_predicate.ensures.1).1 (search rules)

pub returns-in_err-of_formula-clause-continues : goal.returns-in_err-of_formula-clause-continues
returns-in_err-of_formula-clause-continues c = rw (err_from_is_err_and c.from_residual-in_err-of_formula.result c.from_residual-in_err-of_formula.ensures.1).1 (search rules)

pub by_fitting_lemma-requires-clause-types : goal.by_fitting_lemma-requires-clause-types
by_fitting_lemma-requires-clause-types c =
    let theory = c.args.recorder.now.theory in
    let element = c.args.element.now in
    let at = c.requires.fits in
    let type_is : c.in_ok-of_type.of_type ≡ (at.ty, type_a) = c.in_ok-of_type.ensures.ok at.ty (image-type element at.ty at.element_known.typed) in
    subst (λ (l : List (HolType × HolType)). type_replacements_refusal theory l ≡ None) (sym (λ i. type_is i ∷ []))
    (type-passes theory at.ty (IsKnown-type theory (image element) at.ty at.element_known))

pub by_fitting_lemma-requires-clause-known : goal.by_fitting_lemma-requires-clause-known
by_fitting_lemma-requires-clause-known c =
    let theory = c.args.recorder.now.theory in
    let function = c.args.function.now in
    let formula = c.args.formula.now in
    let at = c.requires.fits in
    let function_typed = image-type function (predicate at.ty) at.function_known.typed in
    let predicate_is : c.in_ok-of_predicate.of_predicate ≡ (function, variable (codes "P") (predicate at.ty)) = c.in_ok-of_predicate.ensures.ok (predicate at.ty) function_typed in
    let formula_is : c.in_ok-of_formula.of_formula ≡ (formula, variable (codes "q") bool_type) = c.in_ok-of_formula.ensures.ok in
    let terms : List (NamedTerm × NamedTerm) = c.in_ok-of_predicate.of_predicate ∷ c.in_ok-of_formula.of_formula ∷ [] in
    let wanted : List (NamedTerm × NamedTerm) = (function, variable (codes "P") (predicate at.ty)) ∷ (formula, variable (codes "q") bool_type) ∷ [] in
    let terms_are : terms ≡ wanted = λ i. predicate_is i ∷ formula_is i ∷ [] in
    subst (λ (l : List (NamedTerm × NamedTerm)). replacements_refusal theory l ≡ None) (sym terms_are)
    (two-pass theory function formula (codes "P") (codes "q") (predicate at.ty) bool_type function_typed c.requires.formula.typed at.function_known c.requires.formula.known)

pub by_fitting_lemma-requires-clause-fits : goal.by_fitting_lemma-requires-clause-fits
by_fitting_lemma-requires-clause-fits c =
    let function = c.args.function.now in
    let element = c.args.element.now in
    let formula = c.args.formula.now in
    let at = c.requires.fits in
    let function_typed = image-type function (predicate at.ty) at.function_known.typed in
    let type_is : c.in_ok-of_type.of_type ≡ (at.ty, type_a) = c.in_ok-of_type.ensures.ok at.ty (image-type element at.ty at.element_known.typed) in
    let predicate_is : c.in_ok-of_predicate.of_predicate ≡ (function, variable (codes "P") (predicate at.ty)) = c.in_ok-of_predicate.ensures.ok (predicate at.ty) function_typed in
    let formula_is : c.in_ok-of_formula.of_formula ≡ (formula, variable (codes "q") bool_type) = c.in_ok-of_formula.ensures.ok in
    let terms : List (NamedTerm × NamedTerm) = c.in_ok-of_predicate.of_predicate ∷ c.in_ok-of_formula.of_formula ∷ [] in
    let wanted : List (NamedTerm × NamedTerm) = (function, variable (codes "P") (predicate at.ty)) ∷ (formula, variable (codes "q") bool_type) ∷ [] in
    let terms_are : terms ≡ wanted = λ i. predicate_is i ∷ formula_is i ∷ [] in
    record {
      hypothesis = at.hypothesis;
      conclusion = at.conclusion;
      lemma_shows = at.lemma_shows;
      premise_is = at.premise_is ∙ sym (λ i. instance_of (type_is i ∷ []) (terms_are i) at.hypothesis);
    }
