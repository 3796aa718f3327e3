use Rattle.std.proofs.Common.{◌≡◌, ◌∙◌, ◌∷◌, ◌++◌, ◌&&◌, true, false, not, refl, sym, ap}
use Rattle.std.specs.List.{list_any}
use Rattle.hol_model.specs.Terms.HolType.{type_eq}
use Rattle.hol_model.specs.Logic.Logic.{exists_name, quantifier}
use Rattle.hol_model.specs.Terms.NamedTerm.{is_free}
use Rattle.hol_model.specs.Terms.Nameless.{image, same_term}
use Rattle.hol_model.specs.Logic.Theory.{type_a}
use Rattle.hol_model.specs.Kernel.Theorem.{Theorem}
use Rattle.hol_model.specs.Derived.DerivedRules.{is_free_in_some, terms_of_theorem, choose_outcome}
use Rattle.hol_bool.proofs.LogicLemmas.{logical-type}
use Rattle.hol_bool.proofs.RuleAnswers.{memory-stated}
use Rattle.hol_quant.specs.Witnesses.{MayChoose}
use Rattle.hol_quant.proofs.ChooseLemmas.{others-free}
use Rattle.hol_quant.proofs.ChooseAnswers.{choose-parts, quantified-type, choose-mismatch, choose-start, body-typed, others, others-are, tested-are, choose-free, choose-fresh, choose-answers}
use Rattle.hol_quant.proofs.InferredQuantifiers.{infers_choose}
use Rattle.hol_equal.proofs.StepLemmas.{passed_on}
use Rattle.hol_bool.proofs.Passing.{unchanged}
use Rattle.hol_quant.proofs.elimination.choose.Goals as goal

pub returns-then-not-eq-clause-outcome : goal.returns-then-not-eq-clause-outcome
returns-then-not-eq-clause-outcome c =
    let journal = c.args.recorder.now in
    let theory = journal.theory in
    let term = c.args.variable.now in
    let first = c.args.first.now.theorem in
    let second = c.args.second.now.theorem in
    let name = c.in-Some.name.now in
    let ty = c.in-Some.ty.now in
    let parts = c.in-Some-quantified_parts.ensures in
    let function = c.in-Some-quantified_parts.parts.predicate.now in
    let binder = c.in-Some-quantified_parts.parts.binder.now in
    let body = c.in-Some-quantified_parts.parts.body.now in
    let dest = sym c.in-Some.ensures.parts in
    let generic = logical-type journal c.args.logic.now c.requires.logic c.conclusion_of-formula.ensures.legal exists_name (quantifier type_a) refl in
    let quantified = choose-parts theory generic first c.conclusion_of-formula.ensures.formula c.conclusion_of-formula.result.now
    c.in-Some-quantified_parts.parts.quantifier.now function binder body c.conclusion_of-formula.ensures.value parts.whole parts.named
    parts.abstraction in
    let type_is = quantified-type theory first.conclusion function binder body quantified c.ty.result.now c.ty.ensures in
    choose-mismatch theory term first second function binder body name ty (image term ∷ terms_of_theorem first ++ terms_of_theorem second) dest quantified
    (ap (λ t. type_eq t ty) type_is ∙ sym c.eq.ensures.value ∙ c.if-not-eq.true)

pub returns-then-not-eq-clause-inferred : goal.returns-then-not-eq-clause-inferred
returns-then-not-eq-clause-inferred c = infers_choose c.requires.logic c.conclusion_of-formula.ensures.legal c.conclusion_of-formula.ensures.formula (returns-then-not-eq-clause-outcome c)

pub returns-in_err-witness-clause-outcome : goal.returns-in_err-witness-clause-outcome
returns-in_err-witness-clause-outcome c =
    rw (passed_on c.from_residual.result c.in_err-witness.field-0.0 c.from_residual.ensures.1) (
    let journal = c.args.recorder.now in
    let theory = journal.theory in
    let term = c.args.variable.now in
    let first = c.args.first.now.theorem in
    let second = c.args.second.now.theorem in
    let name = c.in-Some.name.now in
    let ty = c.in-Some.ty.now in
    let parts = c.in-Some-quantified_parts.ensures in
    let function = c.in-Some-quantified_parts.parts.predicate.now in
    let binder = c.in-Some-quantified_parts.parts.binder.now in
    let body = c.in-Some-quantified_parts.parts.body.now in
    let dest = sym c.in-Some.ensures.parts in
    let generic = logical-type journal c.args.logic.now c.requires.logic c.conclusion_of-formula.ensures.legal exists_name (quantifier type_a) refl in
    let quantified = choose-parts theory generic first c.conclusion_of-formula.ensures.formula c.conclusion_of-formula.result.now
    c.in-Some-quantified_parts.parts.quantifier.now function binder body c.conclusion_of-formula.ensures.value parts.whole parts.named
    parts.abstraction in
    let type_is = quantified-type theory first.conclusion function binder body quantified c.ty.result.now c.ty.ensures in
    let chosen = choose-start theory term first second function binder body name ty dest quantified (type_is ∙ c.eq.ensures.same.0 c.if-not-eq.false) in
    let at = chosen.at in
    let typed = body-typed theory term first second function binder body name ty chosen in
    memory-stated c.in_err-witness.field-0.0 (image term ∷ terms_of_theorem first ++ terms_of_theorem second) (choose_outcome theory term first second)
    (c.in_err-witness.ensures.err at.name at.other at.ty typed at.binder_is at.argument_is))

pub returns-in_err-witness-clause-inferred : goal.returns-in_err-witness-clause-inferred
returns-in_err-witness-clause-inferred c =
    infers_choose c.requires.logic c.conclusion_of-formula.ensures.legal c.conclusion_of-formula.ensures.formula (returns-in_err-witness-clause-outcome c)

pub returns-then-is_free-clause-outcome : goal.returns-then-is_free-clause-outcome
returns-then-is_free-clause-outcome c =
    let journal = c.args.recorder.now in
    let theory = journal.theory in
    let term = c.args.variable.now in
    let first = c.args.first.now.theorem in
    let second = c.args.second.now.theorem in
    let name = c.in-Some.name.now in
    let ty = c.in-Some.ty.now in
    let parts = c.in-Some-quantified_parts.ensures in
    let function = c.in-Some-quantified_parts.parts.predicate.now in
    let binder = c.in-Some-quantified_parts.parts.binder.now in
    let body = c.in-Some-quantified_parts.parts.body.now in
    let dest = sym c.in-Some.ensures.parts in
    let generic = logical-type journal c.args.logic.now c.requires.logic c.conclusion_of-formula.ensures.legal exists_name (quantifier type_a) refl in
    let quantified = choose-parts theory generic first c.conclusion_of-formula.ensures.formula c.conclusion_of-formula.result.now
    c.in-Some-quantified_parts.parts.quantifier.now function binder body c.conclusion_of-formula.ensures.value parts.whole parts.named
    parts.abstraction in
    let type_is = quantified-type theory first.conclusion function binder body quantified c.ty.result.now c.ty.ensures in
    let chosen = choose-start theory term first second function binder body name ty dest quantified (type_is ∙ c.eq.ensures.same.0 c.if-not-eq.false) in
    let at = chosen.at in
    let typed = body-typed theory term first second function binder body name ty chosen in
    let witness = c.in_ok-witness.witness in
    let witness_is = c.in_ok-witness.ensures.ok at.name at.other at.ty typed at.binder_is at.argument_is in
    let first_is = ap (is_free name ty) (sym c.conclusion_of-formula.ensures.value) ∙ sym c.is_free.ensures in
    choose-free theory term first second function binder body name ty chosen
    (tested-are theory term first second function binder body name ty chosen true (is_free name ty second.conclusion)
    (is_free_in_some name ty (others theory term first second function binder body name ty chosen)) (first_is ∙ c.if-is_free.true) refl refl)

pub returns-then-is_free-clause-inferred : goal.returns-then-is_free-clause-inferred
returns-then-is_free-clause-inferred c = infers_choose c.requires.logic c.conclusion_of-formula.ensures.legal c.conclusion_of-formula.ensures.formula (returns-then-is_free-clause-outcome c)

pub returns-then-is_free-2-clause-outcome : goal.returns-then-is_free-2-clause-outcome
returns-then-is_free-2-clause-outcome c =
    let journal = c.args.recorder.now in
    let theory = journal.theory in
    let term = c.args.variable.now in
    let first = c.args.first.now.theorem in
    let second = c.args.second.now.theorem in
    let name = c.in-Some.name.now in
    let ty = c.in-Some.ty.now in
    let parts = c.in-Some-quantified_parts.ensures in
    let function = c.in-Some-quantified_parts.parts.predicate.now in
    let binder = c.in-Some-quantified_parts.parts.binder.now in
    let body = c.in-Some-quantified_parts.parts.body.now in
    let dest = sym c.in-Some.ensures.parts in
    let generic = logical-type journal c.args.logic.now c.requires.logic c.conclusion_of-formula.ensures.legal exists_name (quantifier type_a) refl in
    let quantified = choose-parts theory generic first c.conclusion_of-formula.ensures.formula c.conclusion_of-formula.result.now
    c.in-Some-quantified_parts.parts.quantifier.now function binder body c.conclusion_of-formula.ensures.value parts.whole parts.named
    parts.abstraction in
    let type_is = quantified-type theory first.conclusion function binder body quantified c.ty.result.now c.ty.ensures in
    let chosen = choose-start theory term first second function binder body name ty dest quantified (type_is ∙ c.eq.ensures.same.0 c.if-not-eq.false) in
    let at = chosen.at in
    let typed = body-typed theory term first second function binder body name ty chosen in
    let witness = c.in_ok-witness.witness in
    let witness_is = c.in_ok-witness.ensures.ok at.name at.other at.ty typed at.binder_is at.argument_is in
    let first_is = ap (is_free name ty) (sym c.conclusion_of-formula.ensures.value) ∙ sym c.is_free.ensures in
    let second_is = ap (is_free name ty) (sym (c.concl.ensures.value ∙ ap (λ (t : Theorem). t.conclusion) c.thm-theorem.ensures)) ∙ sym c.is_free-2.ensures in
    choose-free theory term first second function binder body name ty chosen
    (tested-are theory term first second function binder body name ty chosen false true
    (is_free_in_some name ty (others theory term first second function binder body name ty chosen)) (first_is ∙ c.if-is_free.false)
    (second_is ∙ c.if-is_free-2.true) refl)

pub returns-then-is_free-2-clause-inferred : goal.returns-then-is_free-2-clause-inferred
returns-then-is_free-2-clause-inferred c = infers_choose c.requires.logic c.conclusion_of-formula.ensures.legal c.conclusion_of-formula.ensures.formula (returns-then-is_free-2-clause-outcome c)

pub returns-then-is_free_in_others-clause-outcome : goal.returns-then-is_free_in_others-clause-outcome
returns-then-is_free_in_others-clause-outcome c =
    let journal = c.args.recorder.now in
    let theory = journal.theory in
    let term = c.args.variable.now in
    let first = c.args.first.now.theorem in
    let second = c.args.second.now.theorem in
    let name = c.in-Some.name.now in
    let ty = c.in-Some.ty.now in
    let parts = c.in-Some-quantified_parts.ensures in
    let function = c.in-Some-quantified_parts.parts.predicate.now in
    let binder = c.in-Some-quantified_parts.parts.binder.now in
    let body = c.in-Some-quantified_parts.parts.body.now in
    let dest = sym c.in-Some.ensures.parts in
    let generic = logical-type journal c.args.logic.now c.requires.logic c.conclusion_of-formula.ensures.legal exists_name (quantifier type_a) refl in
    let quantified = choose-parts theory generic first c.conclusion_of-formula.ensures.formula c.conclusion_of-formula.result.now
    c.in-Some-quantified_parts.parts.quantifier.now function binder body c.conclusion_of-formula.ensures.value parts.whole parts.named
    parts.abstraction in
    let type_is = quantified-type theory first.conclusion function binder body quantified c.ty.result.now c.ty.ensures in
    let chosen = choose-start theory term first second function binder body name ty dest quantified (type_is ∙ c.eq.ensures.same.0 c.if-not-eq.false) in
    let at = chosen.at in
    let typed = body-typed theory term first second function binder body name ty chosen in
    let witness = c.in_ok-witness.witness in
    let witness_is = c.in_ok-witness.ensures.ok at.name at.other at.ty typed at.binder_is at.argument_is in
    let first_is = ap (is_free name ty) (sym c.conclusion_of-formula.ensures.value) ∙ sym c.is_free.ensures in
    let second_is = ap (is_free name ty) (sym (c.concl.ensures.value ∙ ap (λ (t : Theorem). t.conclusion) c.thm-theorem.ensures)) ∙ sym c.is_free-2.ensures in
    let hypotheses_are : c.hyps.result.now ≡ second.hypotheses = c.hyps.ensures.value ∙ ap (λ (t : Theorem). t.hypotheses) c.thm-theorem.ensures in
    let others_are = others-are theory term first second function binder body name ty chosen witness witness_is in
    let third_is = ap (is_free_in_some name ty) (sym others_are) ∙ sym (others-free name ty (image witness) second.hypotheses)
    ∙ ap (list_any (λ h. not (same_term (image h) (image witness)) && is_free name ty h)) (sym hypotheses_are) ∙ sym c.is_free_in_others.ensures in
    choose-free theory term first second function binder body name ty chosen
    (tested-are theory term first second function binder body name ty chosen false false true (first_is ∙ c.if-is_free.false)
    (second_is ∙ c.if-is_free-2.false) (third_is ∙ c.if-is_free_in_others.true))

pub returns-then-is_free_in_others-clause-inferred : goal.returns-then-is_free_in_others-clause-inferred
returns-then-is_free_in_others-clause-inferred c =
    infers_choose c.requires.logic c.conclusion_of-formula.ensures.legal c.conclusion_of-formula.ensures.formula
    (returns-then-is_free_in_others-clause-outcome c)

pub choose_in_room-requires-clause-choice : goal.choose_in_room-requires-clause-choice
choose_in_room-requires-clause-choice c =
    let journal = c.args.recorder.now in
    let theory = journal.theory in
    let term = c.args.variable.now in
    let first = c.args.first.now.theorem in
    let second = c.args.second.now.theorem in
    let name = c.in-Some.name.now in
    let ty = c.in-Some.ty.now in
    let parts = c.in-Some-quantified_parts.ensures in
    let function = c.in-Some-quantified_parts.parts.predicate.now in
    let binder = c.in-Some-quantified_parts.parts.binder.now in
    let body = c.in-Some-quantified_parts.parts.body.now in
    let dest = sym c.in-Some.ensures.parts in
    let generic = logical-type journal c.args.logic.now c.requires.logic c.conclusion_of-formula.ensures.legal exists_name (quantifier type_a) refl in
    let quantified = choose-parts theory generic first c.conclusion_of-formula.ensures.formula c.conclusion_of-formula.result.now
    c.in-Some-quantified_parts.parts.quantifier.now function binder body c.conclusion_of-formula.ensures.value parts.whole parts.named
    parts.abstraction in
    let type_is = quantified-type theory first.conclusion function binder body quantified c.ty.result.now c.ty.ensures in
    let chosen = choose-start theory term first second function binder body name ty dest quantified (type_is ∙ c.eq.ensures.same.0 c.if-not-eq.false) in
    let at = chosen.at in
    let typed = body-typed theory term first second function binder body name ty chosen in
    let witness = c.in_ok-witness.witness in
    let witness_is = c.in_ok-witness.ensures.ok at.name at.other at.ty typed at.binder_is at.argument_is in
    let first_is = ap (is_free name ty) (sym c.conclusion_of-formula.ensures.value) ∙ sym c.is_free.ensures in
    let second_is = ap (is_free name ty) (sym (c.concl.ensures.value ∙ ap (λ (t : Theorem). t.conclusion) c.thm-theorem.ensures)) ∙ sym c.is_free-2.ensures in
    let hypotheses_are : c.hyps.result.now ≡ second.hypotheses = c.hyps.ensures.value ∙ ap (λ (t : Theorem). t.hypotheses) c.thm-theorem.ensures in
    let others_are = others-are theory term first second function binder body name ty chosen witness witness_is in
    let third_is = ap (is_free_in_some name ty) (sym others_are) ∙ sym (others-free name ty (image witness) second.hypotheses)
    ∙ ap (list_any (λ h. not (same_term (image h) (image witness)) && is_free name ty h)) (sym hypotheses_are) ∙ sym c.is_free_in_others.ensures in
    let fresh = tested-are theory term first second function binder body name ty chosen false false false (first_is ∙ c.if-is_free.false)
    (second_is ∙ c.if-is_free-2.false) (third_is ∙ c.if-is_free_in_others.false) in
    record { at = at; first_is = chosen.formula_image; fresh = choose-fresh theory term first second function binder body name ty chosen fresh }

pub returns-clause-outcome : goal.returns-clause-outcome
returns-clause-outcome c =
    let journal = c.args.recorder.now in
    let theory = journal.theory in
    let term = c.args.variable.now in
    let first = c.args.first.now.theorem in
    let second = c.args.second.now.theorem in
    let name = c.in-Some.name.now in
    let ty = c.in-Some.ty.now in
    let parts = c.in-Some-quantified_parts.ensures in
    let function = c.in-Some-quantified_parts.parts.predicate.now in
    let binder = c.in-Some-quantified_parts.parts.binder.now in
    let body = c.in-Some-quantified_parts.parts.body.now in
    let dest = sym c.in-Some.ensures.parts in
    let generic = logical-type journal c.args.logic.now c.requires.logic c.conclusion_of-formula.ensures.legal exists_name (quantifier type_a) refl in
    let quantified = choose-parts theory generic first c.conclusion_of-formula.ensures.formula c.conclusion_of-formula.result.now
    c.in-Some-quantified_parts.parts.quantifier.now function binder body c.conclusion_of-formula.ensures.value parts.whole parts.named
    parts.abstraction in
    let type_is = quantified-type theory first.conclusion function binder body quantified c.ty.result.now c.ty.ensures in
    let chosen = choose-start theory term first second function binder body name ty dest quantified (type_is ∙ c.eq.ensures.same.0 c.if-not-eq.false) in
    let at = chosen.at in
    let typed = body-typed theory term first second function binder body name ty chosen in
    let witness = c.in_ok-witness.witness in
    let witness_is = c.in_ok-witness.ensures.ok at.name at.other at.ty typed at.binder_is at.argument_is in
    let first_is = ap (is_free name ty) (sym c.conclusion_of-formula.ensures.value) ∙ sym c.is_free.ensures in
    let second_is = ap (is_free name ty) (sym (c.concl.ensures.value ∙ ap (λ (t : Theorem). t.conclusion) c.thm-theorem.ensures)) ∙ sym c.is_free-2.ensures in
    let hypotheses_are : c.hyps.result.now ≡ second.hypotheses = c.hyps.ensures.value ∙ ap (λ (t : Theorem). t.hypotheses) c.thm-theorem.ensures in
    let others_are = others-are theory term first second function binder body name ty chosen witness witness_is in
    let third_is = ap (is_free_in_some name ty) (sym others_are) ∙ sym (others-free name ty (image witness) second.hypotheses)
    ∙ ap (list_any (λ h. not (same_term (image h) (image witness)) && is_free name ty h)) (sym hypotheses_are) ∙ sym c.is_free_in_others.ensures in
    let fresh = tested-are theory term first second function binder body name ty chosen false false false (first_is ∙ c.if-is_free.false)
    (second_is ∙ c.if-is_free-2.false) (third_is ∙ c.if-is_free_in_others.false) in
    let choice : MayChoose theory function binder term first second =
    record { at = at; first_is = chosen.formula_image; fresh = choose-fresh theory term first second function binder body name ty chosen fresh } in
    choose-answers theory term first second function binder body name ty chosen c.choose_in_room.result fresh
    (c.choose_in_room.ensures.derives choice) c.choose_in_room.ensures.names

pub returns-clause-inferred : goal.returns-clause-inferred
returns-clause-inferred c = infers_choose c.requires.logic c.conclusion_of-formula.ensures.legal c.conclusion_of-formula.ensures.formula (returns-clause-outcome c)

pub returns-in_err-witness-clause-continues : goal.returns-in_err-witness-clause-continues
returns-in_err-witness-clause-continues c = unchanged c.args.recorder.now c.from_residual.result c.from_residual.ensures.0
