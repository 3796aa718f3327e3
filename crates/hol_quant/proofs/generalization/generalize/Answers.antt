use Rattle.std.proofs.Common.{◌≡◌, ◌∙◌, ap, subst, sym, Err, IfOk}
use Rattle.std.specs.List.{list_all}
use Rattle.hol_model.specs.Terms.HolType.{bool_type}
use Rattle.hol_model.specs.Logic.Logic.{forall_name, predicate, quantifier}
use Rattle.hol_model.specs.Terms.NamedTerm.{NamedTerm, constant, combination, type_of}
use Rattle.hol_model.specs.Terms.Nameless.{Nameless, const, app, image}
use Rattle.hol_model.specs.Terms.Measures.{nameless_within_limits}
use Rattle.hol_model.specs.Logic.KnownTerm.{is_known}
use Rattle.hol_model.specs.Logic.Theory.{Theory, IsKnown}
use Rattle.hol_model.specs.Kernel.Theorem.{Theorem}
use Rattle.hol_model.specs.Kernel.Outcome.{Answers}
use Rattle.hol_model.specs.Logic.Derivable.{nameless_equation}
use Rattle.hol_model.specs.Kernel.Rules.{is_free_in_hypotheses, abstraction_outcome}
use Rattle.hol_model.specs.Derived.DerivedRules.{images, is_roomy, terms_of_theorem}
use Rattle.hol_equal.specs.Sequents.{Shows, DerivesIf, IsPast}
use Rattle.hol_equal.proofs.CutLemmas.{derives-where}
use Rattle.hol_quant.proofs.ForAllLemmas.{variable-known, function-known}
use Rattle.hol_quant.proofs.GenAnswers.{gen-free, gen-start, function, formula, formula_image, small, function_typed, gen-answers, gen-past, gen-fits}
use Rattle.hol_quant.proofs.GenAnswers.{may-generalize, abstraction-past, abstraction-made, formula-within, names-within, formula-shown}
use Rattle.hol_equal.proofs.StepLemmas.{passed_on}
use Rattle.hol_bool.proofs.Passing.{unchanged}
use Rattle.hol_quant.proofs.InferredQuantifiers.{infers_gen}
use Rattle.hol_quant.proofs.generalization.generalize.Goals as goal

pub returns-then-is_free_in_some-clause-outcome : goal.returns-then-is_free_in_some-clause-outcome
returns-then-is_free_in_some-clause-outcome c =
    let journal = c.args.recorder.now in
    let theory = journal.theory in
    let premise = c.args.premise.now.theorem in
    let binder = c.args.binder.now in
    let name = c.in-Some.name.now in
    let ty = c.in-Some.ty.now in
    let dest = sym c.in-Some.ensures.parts in
    let hypotheses_are : c.hyps.result.now ≡ premise.hypotheses = c.hyps.ensures.value ∙ ap (λ (t : Theorem). t.hypotheses) c.thm-theorem.ensures in
    let tested = ap (is_free_in_hypotheses name ty) (sym hypotheses_are) ∙ sym c.is_free_in_some.ensures ∙ c.if-is_free_in_some.true in
    let known = ap (λ (th : Theory). is_known th binder) (sym c.theory.ensures) ∙ sym c.known.ensures ∙ c.if-not-known.false in
    gen-free theory premise binder name ty (terms_of_theorem premise) dest known tested

pub returns-in_err-function-clause-outcome : goal.returns-in_err-function-clause-outcome
returns-in_err-function-clause-outcome c =
    rw (passed_on c.from_residual.result c.in_err-function.field-0.0 c.from_residual.ensures.1) (
    let journal = c.args.recorder.now in
    let theory = journal.theory in
    let premise = c.args.premise.now.theorem in
    let binder = c.args.binder.now in
    let name = c.in-Some.name.now in
    let ty = c.in-Some.ty.now in
    let dest = sym c.in-Some.ensures.parts in
    let hypotheses_are : c.hyps.result.now ≡ premise.hypotheses = c.hyps.ensures.value ∙ ap (λ (t : Theorem). t.hypotheses) c.thm-theorem.ensures in
    let tested = ap (is_free_in_hypotheses name ty) (sym hypotheses_are) ∙ sym c.is_free_in_some.ensures ∙ c.if-is_free_in_some.false in
    let known = ap (λ (th : Theory). is_known th binder) (sym c.theory.ensures) ∙ sym c.known.ensures ∙ c.if-not-known.false in
    let is_theorem = rw c.thm-theorem.ensures at c.concl.ensures.theorem in
    let at = gen-start journal c.theory_is_legal.ensures c.args.premise.now c.requires.premise is_theorem binder name ty dest known tested in
    let conclusion_is : c.concl.result.now ≡ premise.conclusion = c.concl.ensures.value ∙ ap (λ (t : Theorem). t.conclusion) c.thm-theorem.ensures in
    abstraction-past theory premise binder name ty at c.in_err-function.field-0.0
    (subst (λ (t : NamedTerm). Answers {A = NamedTerm} (Err c.in_err-function.field-0.0) (abstraction_outcome binder t)) conclusion_is c.in_err-function.ensures.outcome))

pub returns-in_err-formula-clause-outcome : goal.returns-in_err-formula-clause-outcome
returns-in_err-formula-clause-outcome c =
    rw (passed_on c.from_residual-in_err-formula.result c.in_err-formula.field-0.0 c.from_residual-in_err-formula.ensures.1) (
    let journal = c.args.recorder.now in
    let theory = journal.theory in
    let premise = c.args.premise.now.theorem in
    let binder = c.args.binder.now in
    let name = c.in-Some.name.now in
    let ty = c.in-Some.ty.now in
    let dest = sym c.in-Some.ensures.parts in
    let hypotheses_are : c.hyps.result.now ≡ premise.hypotheses = c.hyps.ensures.value ∙ ap (λ (t : Theorem). t.hypotheses) c.thm-theorem.ensures in
    let tested = ap (is_free_in_hypotheses name ty) (sym hypotheses_are) ∙ sym c.is_free_in_some.ensures ∙ c.if-is_free_in_some.false in
    let known = ap (λ (th : Theory). is_known th binder) (sym c.theory.ensures) ∙ sym c.known.ensures ∙ c.if-not-known.false in
    let is_theorem = rw c.thm-theorem.ensures at c.concl.ensures.theorem in
    let at = gen-start journal c.theory_is_legal.ensures c.args.premise.now c.requires.premise is_theorem binder name ty dest known tested in
    let conclusion_is : c.concl.result.now ≡ premise.conclusion = c.concl.ensures.value ∙ ap (λ (t : Theorem). t.conclusion) c.thm-theorem.ensures in
    let made_is : c.in_ok-function.function ≡ function theory premise binder name ty at = abstraction-made theory premise binder name ty at c.in_ok-function.function
    (ap (abstraction_outcome binder) (sym conclusion_is) ∙ c.in_ok-function.ensures.outcome) in
    let made_typed = ap type_of made_is ∙ function_typed theory premise binder name ty at in
    gen-past theory premise binder name ty at c.in_err-formula.field-0.0 (nameless_within_limits (app (const forall_name (quantifier ty)) (image (function theory premise binder name ty at))))
    (subst (λ (f : NamedTerm). IsPast c.in_err-formula.field-0.0 (nameless_within_limits (app (const forall_name (quantifier ty)) (image f)))) made_is (c.in_err-formula.ensures.err ty made_typed))
    (formula-within theory premise binder name ty at))

pub over_all-requires-clause-function : goal.over_all-requires-clause-function
over_all-requires-clause-function c =
    let journal = c.args.recorder.now in
    let theory = journal.theory in
    let premise = c.args.premise.now.theorem in
    let binder = c.args.binder.now in
    let name = c.in-Some.name.now in
    let ty = c.in-Some.ty.now in
    let dest = sym c.in-Some.ensures.parts in
    let hypotheses_are : c.hyps.result.now ≡ premise.hypotheses = c.hyps.ensures.value ∙ ap (λ (t : Theorem). t.hypotheses) c.thm-theorem.ensures in
    let tested = ap (is_free_in_hypotheses name ty) (sym hypotheses_are) ∙ sym c.is_free_in_some.ensures ∙ c.if-is_free_in_some.false in
    let known = ap (λ (th : Theory). is_known th binder) (sym c.theory.ensures) ∙ sym c.known.ensures ∙ c.if-not-known.false in
    let is_theorem = rw c.thm-theorem.ensures at c.concl.ensures.theorem in
    let at = gen-start journal c.theory_is_legal.ensures c.args.premise.now c.requires.premise is_theorem binder name ty dest known tested in
    let conclusion_is : c.concl.result.now ≡ premise.conclusion = c.concl.ensures.value ∙ ap (λ (t : Theorem). t.conclusion) c.thm-theorem.ensures in
    let made_is : c.in_ok-function.function ≡ function theory premise binder name ty at = abstraction-made theory premise binder name ty at c.in_ok-function.function
    (ap (abstraction_outcome binder) (sym conclusion_is) ∙ c.in_ok-function.ensures.outcome) in
    record { name = name; ty = ty; binder_is = at.binder_is; type_known = at.knows; function_is = made_is }

pub returns-in_err-answer-clause-outcome : goal.returns-in_err-answer-clause-outcome
returns-in_err-answer-clause-outcome c =
    rw (passed_on c.from_residual-in_err-answer.result c.in_err-answer.field-0.0 c.from_residual-in_err-answer.ensures.1) (
    let journal = c.args.recorder.now in
    let theory = journal.theory in
    let premise = c.args.premise.now.theorem in
    let binder = c.args.binder.now in
    let name = c.in-Some.name.now in
    let ty = c.in-Some.ty.now in
    let dest = sym c.in-Some.ensures.parts in
    let hypotheses_are : c.hyps.result.now ≡ premise.hypotheses = c.hyps.ensures.value ∙ ap (λ (t : Theorem). t.hypotheses) c.thm-theorem.ensures in
    let tested = ap (is_free_in_hypotheses name ty) (sym hypotheses_are) ∙ sym c.is_free_in_some.ensures ∙ c.if-is_free_in_some.false in
    let known = ap (λ (th : Theory). is_known th binder) (sym c.theory.ensures) ∙ sym c.known.ensures ∙ c.if-not-known.false in
    let is_theorem = rw c.thm-theorem.ensures at c.concl.ensures.theorem in
    let at = gen-start journal c.theory_is_legal.ensures c.args.premise.now c.requires.premise is_theorem binder name ty dest known tested in
    let conclusion_is : c.concl.result.now ≡ premise.conclusion = c.concl.ensures.value ∙ ap (λ (t : Theorem). t.conclusion) c.thm-theorem.ensures in
    let made_is : c.in_ok-function.function ≡ function theory premise binder name ty at = abstraction-made theory premise binder name ty at c.in_ok-function.function
    (ap (abstraction_outcome binder) (sym conclusion_is) ∙ c.in_ok-function.ensures.outcome) in
    let room = list_all is_roomy (small theory premise binder name ty at) in
    gen-past theory premise binder name ty at c.in_err-answer.field-0.0 room
    (c.in_err-answer.ensures.derives name ty room (may-generalize theory premise binder name ty at) made_is (gen-fits theory premise binder name ty at)) (λ all. all))

pub returns-clause-outcome : goal.returns-clause-outcome
returns-clause-outcome c =
    let journal = c.args.recorder.now in
    let theory = journal.theory in
    let premise = c.args.premise.now.theorem in
    let binder = c.args.binder.now in
    let name = c.in-Some.name.now in
    let ty = c.in-Some.ty.now in
    let dest = sym c.in-Some.ensures.parts in
    let hypotheses_are : c.hyps.result.now ≡ premise.hypotheses = c.hyps.ensures.value ∙ ap (λ (t : Theorem). t.hypotheses) c.thm-theorem.ensures in
    let tested = ap (is_free_in_hypotheses name ty) (sym hypotheses_are) ∙ sym c.is_free_in_some.ensures ∙ c.if-is_free_in_some.false in
    let known = ap (λ (th : Theory). is_known th binder) (sym c.theory.ensures) ∙ sym c.known.ensures ∙ c.if-not-known.false in
    let is_theorem = rw c.thm-theorem.ensures at c.concl.ensures.theorem in
    let at = gen-start journal c.theory_is_legal.ensures c.args.premise.now c.requires.premise is_theorem binder name ty dest known tested in
    let conclusion_is : c.concl.result.now ≡ premise.conclusion = c.concl.ensures.value ∙ ap (λ (t : Theorem). t.conclusion) c.thm-theorem.ensures in
    let made_is : c.in_ok-function.function ≡ function theory premise binder name ty at = abstraction-made theory premise binder name ty at c.in_ok-function.function
    (ap (abstraction_outcome binder) (sym conclusion_is) ∙ c.in_ok-function.ensures.outcome) in
    let room = list_all is_roomy (small theory premise binder name ty at) in
    let made_typed = ap type_of made_is ∙ function_typed theory premise binder name ty at in
    let whole = formula theory premise binder name ty at in
    let formula_is : c.in_ok-formula.formula ≡ whole = c.in_ok-formula.ensures.ok ty made_typed ∙ ap (combination (constant forall_name (quantifier ty))) made_is in
    let stated = c.in_ok-answer.ensures.derives name ty room (may-generalize theory premise binder name ty at) made_is (gen-fits theory premise binder name ty at) in
    let shown = subst (λ (t : Nameless). Shows c.in_ok-answer.answer.theorem (images premise) t) (sym (formula_image theory premise binder name ty at) ∙ ap image (sym formula_is)) stated in
    let derives = subst (λ (t : NamedTerm).
    DerivesIf (nameless_within_limits (nameless_equation bool_type (image t) (image t))) c.named_same.result (images premise) (image t)) formula_is
    (c.named_same.ensures.derives (images premise) shown) in
    gen-answers theory premise binder name ty at c.named_same.result
    (derives-where (nameless_within_limits (nameless_equation bool_type (image whole) (image whole))) room c.named_same.result (images premise)
    (image whole) (names-within theory premise binder name ty at) derives)
    (subst (λ (t : NamedTerm). IfOk c.named_same.result (λ made. made.theorem.conclusion ≡ t)) formula_is c.named_same.ensures.names)

pub named_same-requires-clause-formula : goal.named_same-requires-clause-formula
named_same-requires-clause-formula c =
    let journal = c.args.recorder.now in
    let theory = journal.theory in
    let premise = c.args.premise.now.theorem in
    let binder = c.args.binder.now in
    let name = c.in-Some.name.now in
    let ty = c.in-Some.ty.now in
    let dest = sym c.in-Some.ensures.parts in
    let hypotheses_are : c.hyps.result.now ≡ premise.hypotheses = c.hyps.ensures.value ∙ ap (λ (t : Theorem). t.hypotheses) c.thm-theorem.ensures in
    let tested = ap (is_free_in_hypotheses name ty) (sym hypotheses_are) ∙ sym c.is_free_in_some.ensures ∙ c.if-is_free_in_some.false in
    let known = ap (λ (th : Theory). is_known th binder) (sym c.theory.ensures) ∙ sym c.known.ensures ∙ c.if-not-known.false in
    let is_theorem = rw c.thm-theorem.ensures at c.concl.ensures.theorem in
    let at = gen-start journal c.theory_is_legal.ensures c.args.premise.now c.requires.premise is_theorem binder name ty dest known tested in
    let conclusion_is : c.concl.result.now ≡ premise.conclusion = c.concl.ensures.value ∙ ap (λ (t : Theorem). t.conclusion) c.thm-theorem.ensures in
    let made_is : c.in_ok-function.function ≡ function theory premise binder name ty at = abstraction-made theory premise binder name ty at c.in_ok-function.function
    (ap (abstraction_outcome binder) (sym conclusion_is) ∙ c.in_ok-function.ensures.outcome) in
    let room = list_all is_roomy (small theory premise binder name ty at) in
    let made_typed = ap type_of made_is ∙ function_typed theory premise binder name ty at in
    let whole = formula theory premise binder name ty at in
    let formula_is : c.in_ok-formula.formula ≡ whole = c.in_ok-formula.ensures.ok ty made_typed ∙ ap (combination (constant forall_name (quantifier ty))) made_is in
    let stated = c.in_ok-answer.ensures.derives name ty room (may-generalize theory premise binder name ty at) made_is (gen-fits theory premise binder name ty at) in
    let shown = subst (λ (t : Nameless). Shows c.in_ok-answer.answer.theorem (images premise) t) (sym (formula_image theory premise binder name ty at) ∙ ap image (sym formula_is)) stated in
    formula-shown c.over_all.new.recorder.theory c.in_ok-answer.answer.theorem (images premise) c.in_ok-formula.formula shown c.conclusion_of-answer.ensures.formula

pub named_same-requires-clause-same : goal.named_same-requires-clause-same
named_same-requires-clause-same c =
    let journal = c.args.recorder.now in
    let theory = journal.theory in
    let premise = c.args.premise.now.theorem in
    let binder = c.args.binder.now in
    let name = c.in-Some.name.now in
    let ty = c.in-Some.ty.now in
    let dest = sym c.in-Some.ensures.parts in
    let hypotheses_are : c.hyps.result.now ≡ premise.hypotheses = c.hyps.ensures.value ∙ ap (λ (t : Theorem). t.hypotheses) c.thm-theorem.ensures in
    let tested = ap (is_free_in_hypotheses name ty) (sym hypotheses_are) ∙ sym c.is_free_in_some.ensures ∙ c.if-is_free_in_some.false in
    let known = ap (λ (th : Theory). is_known th binder) (sym c.theory.ensures) ∙ sym c.known.ensures ∙ c.if-not-known.false in
    let is_theorem = rw c.thm-theorem.ensures at c.concl.ensures.theorem in
    let at = gen-start journal c.theory_is_legal.ensures c.args.premise.now c.requires.premise is_theorem binder name ty dest known tested in
    let conclusion_is : c.concl.result.now ≡ premise.conclusion = c.concl.ensures.value ∙ ap (λ (t : Theorem). t.conclusion) c.thm-theorem.ensures in
    let made_is : c.in_ok-function.function ≡ function theory premise binder name ty at = abstraction-made theory premise binder name ty at c.in_ok-function.function
    (ap (abstraction_outcome binder) (sym conclusion_is) ∙ c.in_ok-function.ensures.outcome) in
    let room = list_all is_roomy (small theory premise binder name ty at) in
    let made_typed = ap type_of made_is ∙ function_typed theory premise binder name ty at in
    let whole = formula theory premise binder name ty at in
    let formula_is : c.in_ok-formula.formula ≡ whole = c.in_ok-formula.ensures.ok ty made_typed ∙ ap (combination (constant forall_name (quantifier ty))) made_is in
    let stated = c.in_ok-answer.ensures.derives name ty room (may-generalize theory premise binder name ty at) made_is (gen-fits theory premise binder name ty at) in
    let shown = subst (λ (t : Nameless). Shows c.in_ok-answer.answer.theorem (images premise) t) (sym (formula_image theory premise binder name ty at) ∙ ap image (sym formula_is)) stated in
    shown.concludes

pub returns-in_err-function-clause-continues : goal.returns-in_err-function-clause-continues
returns-in_err-function-clause-continues c = unchanged c.args.recorder.now c.from_residual.result c.from_residual.ensures.0

pub returns-in_err-formula-clause-continues : goal.returns-in_err-formula-clause-continues
returns-in_err-formula-clause-continues c = unchanged c.args.recorder.now c.from_residual-in_err-formula.result c.from_residual-in_err-formula.ensures.0

pub returns-then-is_free_in_some-clause-inferred : goal.returns-then-is_free_in_some-clause-inferred
returns-then-is_free_in_some-clause-inferred c = infers_gen (returns-then-is_free_in_some-clause-outcome c)

pub returns-in_err-function-clause-inferred : goal.returns-in_err-function-clause-inferred
returns-in_err-function-clause-inferred c = infers_gen (returns-in_err-function-clause-outcome c)

pub returns-in_err-formula-clause-inferred : goal.returns-in_err-formula-clause-inferred
returns-in_err-formula-clause-inferred c = infers_gen (returns-in_err-formula-clause-outcome c)

pub returns-in_err-answer-clause-inferred : goal.returns-in_err-answer-clause-inferred
returns-in_err-answer-clause-inferred c = infers_gen (returns-in_err-answer-clause-outcome c)

pub returns-clause-inferred : goal.returns-clause-inferred
returns-clause-inferred c = infers_gen (returns-clause-outcome c)
