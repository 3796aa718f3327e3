use Rattle.std.proofs.Common.{◌≡◌, ◌∷◌, ◌∙◌, refl, ap, sym}
use Rattle.hol_model.specs.Logic.Logic.{exists_name, quantifier}
use Rattle.hol_model.specs.Terms.NamedTerm.{NamedTerm}
use Rattle.hol_model.specs.Terms.Nameless.{image, same_term}
use Rattle.hol_model.specs.Terms.Substitution.{close, fill}
use Rattle.hol_model.specs.Logic.Theory.{type_a}
use Rattle.hol_model.specs.Kernel.Theorem.{Theorem}
use Rattle.hol_model.specs.Derived.DerivedRules.{terms_of_theorem, exists_outcome}
use Rattle.hol_bool.proofs.LogicLemmas.{logical-type}
use Rattle.hol_quant.proofs.SpecLemmas.{memory-answers}
use Rattle.hol_quant.proofs.ExistsLemmas.{candidate, formula-refused, witness-refused, not_alpha-refused, exists-answers, witnessed-at}
use Rattle.hol_quant.proofs.InferredQuantifiers.{infers_exists}
use Rattle.hol_equal.proofs.StepLemmas.{passed_on}
use Rattle.hol_bool.proofs.Passing.{unchanged}
use Rattle.hol_quant.proofs.existence.exists.Goals as goal

pub returns-in_err-pass_known-clause-outcome : goal.returns-in_err-pass_known-clause-outcome
returns-in_err-pass_known-clause-outcome c =
    rw (passed_on c.from_residual.result c.in_err-pass_known.field-0.0 c.from_residual.ensures.1) (
    let theory = c.args.recorder.now.theory in
    let formula = c.args.formula.now in
    let witness = c.args.witness.now in
    let premise = c.args.premise.now.theorem in
    let parts = c.in-Some.parts in
    let function = parts.predicate.now in
    let binder = parts.binder.now in
    let body = parts.body.now in
    let start = candidate formula witness parts.quantifier.now function binder body c.in-Some.ensures.whole c.in-Some.ensures.named c.in-Some.ensures.abstraction
    c.ty.result.now c.ty-2.result.now c.ty.ensures c.ty-2.ensures (c.eq.ensures.same.0 c.if-not-eq.false) in
    let at = start.parts in
    formula-refused theory formula witness premise at.name at.ty body at.dest start.typed c.in_err-pass_known.field-0.0 c.in_err-pass_known.ensures.err)

pub returns-in_err-pass_known-clause-inferred : goal.returns-in_err-pass_known-clause-inferred
returns-in_err-pass_known-clause-inferred c =
    infers_exists c.requires.logic c.theory_is_legal.ensures c.ty-formula_type.ensures c.ty-witness_type.ensures (returns-in_err-pass_known-clause-outcome c)

pub returns-in_err-pass_known-2-clause-outcome : goal.returns-in_err-pass_known-2-clause-outcome
returns-in_err-pass_known-2-clause-outcome c =
    rw (passed_on c.from_residual-in_err-pass_known-2.result c.in_err-pass_known-2.field-0.0 c.from_residual-in_err-pass_known-2.ensures.1) (
    let theory = c.args.recorder.now.theory in
    let formula = c.args.formula.now in
    let witness = c.args.witness.now in
    let premise = c.args.premise.now.theorem in
    let parts = c.in-Some.parts in
    let function = parts.predicate.now in
    let binder = parts.binder.now in
    let body = parts.body.now in
    let start = candidate formula witness parts.quantifier.now function binder body c.in-Some.ensures.whole c.in-Some.ensures.named c.in-Some.ensures.abstraction
    c.ty.result.now c.ty-2.result.now c.ty.ensures c.ty-2.ensures (c.eq.ensures.same.0 c.if-not-eq.false) in
    let at = start.parts in
    witness-refused theory formula witness premise at.name at.ty body at.dest start.typed c.in_ok-pass_known.ensures.ok c.in_err-pass_known-2.field-0.0 c.in_err-pass_known-2.ensures.err)

pub returns-in_err-pass_known-2-clause-inferred : goal.returns-in_err-pass_known-2-clause-inferred
returns-in_err-pass_known-2-clause-inferred c =
    infers_exists c.requires.logic c.theory_is_legal.ensures c.ty-formula_type.ensures c.ty-witness_type.ensures (returns-in_err-pass_known-2-clause-outcome c)

pub returns-in_err-is_instance-clause-outcome : goal.returns-in_err-is_instance-clause-outcome
returns-in_err-is_instance-clause-outcome c =
    rw (passed_on c.from_residual-in_err-is_instance.result c.in_err-is_instance.field-0.0 c.from_residual-in_err-is_instance.ensures.1) (
    let theory = c.args.recorder.now.theory in
    let formula = c.args.formula.now in
    let witness = c.args.witness.now in
    let premise = c.args.premise.now.theorem in
    let parts = c.in-Some.parts in
    let function = parts.predicate.now in
    let binder = parts.binder.now in
    let body = parts.body.now in
    let start = candidate formula witness parts.quantifier.now function binder body c.in-Some.ensures.whole c.in-Some.ensures.named c.in-Some.ensures.abstraction
    c.ty.result.now c.ty-2.result.now c.ty.ensures c.ty-2.ensures (c.eq.ensures.same.0 c.if-not-eq.false) in
    let at = start.parts in
    memory-answers c.in_err-is_instance.field-0.0 (image formula ∷ image witness ∷ terms_of_theorem premise) (exists_outcome theory formula witness premise) c.in_err-is_instance.ensures.err)

pub returns-in_err-is_instance-clause-inferred : goal.returns-in_err-is_instance-clause-inferred
returns-in_err-is_instance-clause-inferred c =
    infers_exists c.requires.logic c.theory_is_legal.ensures c.ty-formula_type.ensures c.ty-witness_type.ensures
    (returns-in_err-is_instance-clause-outcome c)

pub returns-then-not-is_instance-clause-outcome : goal.returns-then-not-is_instance-clause-outcome
returns-then-not-is_instance-clause-outcome c =
    let theory = c.args.recorder.now.theory in
    let formula = c.args.formula.now in
    let witness = c.args.witness.now in
    let premise = c.args.premise.now.theorem in
    let parts = c.in-Some.parts in
    let function = parts.predicate.now in
    let binder = parts.binder.now in
    let body = parts.body.now in
    let start = candidate formula witness parts.quantifier.now function binder body c.in-Some.ensures.whole c.in-Some.ensures.named c.in-Some.ensures.abstraction
    c.ty.result.now c.ty-2.result.now c.ty.ensures c.ty-2.ensures (c.eq.ensures.same.0 c.if-not-eq.false) in
    let at = start.parts in
    let conclusion_is : c.concl-conclusion.result.now ≡ premise.conclusion = c.concl-conclusion.ensures.value ∙ ap (λ (t : Theorem). t.conclusion) c.thm.ensures in
    let tested = ap (λ (t : NamedTerm). same_term (fill (image witness) (close at.name at.ty (image body))) (image t)) (sym conclusion_is)
    ∙ sym (c.in_ok-is_instance.ensures.ok at.name at.ty at.binder_is start.typed) ∙ c.if-not-is_instance.true in
    not_alpha-refused theory formula witness premise at.name at.ty body at.dest start.typed c.in_ok-pass_known.ensures.ok c.in_ok-pass_known-2.ensures.ok tested

pub returns-then-not-is_instance-clause-inferred : goal.returns-then-not-is_instance-clause-inferred
returns-then-not-is_instance-clause-inferred c =
    infers_exists c.requires.logic c.theory_is_legal.ensures c.ty-formula_type.ensures c.ty-witness_type.ensures
    (returns-then-not-is_instance-clause-outcome c)

pub exists_in_room-requires-clause-witnessed : goal.exists_in_room-requires-clause-witnessed
exists_in_room-requires-clause-witnessed c =
    let theory = c.args.recorder.now.theory in
    let formula = c.args.formula.now in
    let witness = c.args.witness.now in
    let premise = c.args.premise.now.theorem in
    let parts = c.in-Some.parts in
    let function = parts.predicate.now in
    let binder = parts.binder.now in
    let body = parts.body.now in
    let start = candidate formula witness parts.quantifier.now function binder body c.in-Some.ensures.whole c.in-Some.ensures.named c.in-Some.ensures.abstraction
    c.ty.result.now c.ty-2.result.now c.ty.ensures c.ty-2.ensures (c.eq.ensures.same.0 c.if-not-eq.false) in
    let at = start.parts in
    let conclusion_is : c.concl-conclusion.result.now ≡ premise.conclusion = c.concl-conclusion.ensures.value ∙ ap (λ (t : Theorem). t.conclusion) c.thm.ensures in
    let tested = ap (λ (t : NamedTerm). same_term (fill (image witness) (close at.name at.ty (image body))) (image t)) (sym conclusion_is)
    ∙ sym (c.in_ok-is_instance.ensures.ok at.name at.ty at.binder_is start.typed) ∙ c.if-not-is_instance.false in
    let generic = logical-type c.args.recorder.now c.args.logic.now c.requires.logic c.theory_is_legal.ensures exists_name (quantifier type_a) refl in
    witnessed-at theory generic formula witness c.ty-formula_type.result.now c.ty-formula_type.ensures c.in_ok-pass_known.ensures.ok
    c.in_ok-pass_known-2.ensures.ok parts.quantifier.now function binder body
    c.in-Some.ensures.whole c.in-Some.ensures.named c.in-Some.ensures.abstraction at start.typed (image premise.conclusion) tested

pub returns-clause-outcome : goal.returns-clause-outcome
returns-clause-outcome c =
    let theory = c.args.recorder.now.theory in
    let formula = c.args.formula.now in
    let witness = c.args.witness.now in
    let premise = c.args.premise.now.theorem in
    let parts = c.in-Some.parts in
    let function = parts.predicate.now in
    let binder = parts.binder.now in
    let body = parts.body.now in
    let start = candidate formula witness parts.quantifier.now function binder body c.in-Some.ensures.whole c.in-Some.ensures.named c.in-Some.ensures.abstraction
    c.ty.result.now c.ty-2.result.now c.ty.ensures c.ty-2.ensures (c.eq.ensures.same.0 c.if-not-eq.false) in
    let at = start.parts in
    let conclusion_is : c.concl-conclusion.result.now ≡ premise.conclusion = c.concl-conclusion.ensures.value ∙ ap (λ (t : Theorem). t.conclusion) c.thm.ensures in
    let tested = ap (λ (t : NamedTerm). same_term (fill (image witness) (close at.name at.ty (image body))) (image t)) (sym conclusion_is)
    ∙ sym (c.in_ok-is_instance.ensures.ok at.name at.ty at.binder_is start.typed) ∙ c.if-not-is_instance.false in
    let generic = logical-type c.args.recorder.now c.args.logic.now c.requires.logic c.theory_is_legal.ensures exists_name (quantifier type_a) refl in
    let witnessed = witnessed-at theory generic formula witness c.ty-formula_type.result.now c.ty-formula_type.ensures c.in_ok-pass_known.ensures.ok
    c.in_ok-pass_known-2.ensures.ok parts.quantifier.now function binder body
    c.in-Some.ensures.whole c.in-Some.ensures.named c.in-Some.ensures.abstraction at start.typed (image premise.conclusion) tested in
    exists-answers theory formula witness premise at.name at.ty body at.dest start.typed c.in_ok-pass_known.ensures.ok c.in_ok-pass_known-2.ensures.ok tested
    c.exists_in_room.result (c.exists_in_room.ensures.derives witnessed) c.exists_in_room.ensures.names

pub returns-clause-inferred : goal.returns-clause-inferred
returns-clause-inferred c = infers_exists c.requires.logic c.theory_is_legal.ensures c.ty-formula_type.ensures c.ty-witness_type.ensures (returns-clause-outcome c)

pub returns-in_err-pass_known-clause-continues : goal.returns-in_err-pass_known-clause-continues
returns-in_err-pass_known-clause-continues c = unchanged c.args.recorder.now c.from_residual.result c.from_residual.ensures.0

pub returns-in_err-pass_known-2-clause-continues : goal.returns-in_err-pass_known-2-clause-continues
returns-in_err-pass_known-2-clause-continues c = unchanged c.args.recorder.now c.from_residual-in_err-pass_known-2.result c.from_residual-in_err-pass_known-2.ensures.0

pub returns-in_err-is_instance-clause-continues : goal.returns-in_err-is_instance-clause-continues
returns-in_err-is_instance-clause-continues c = unchanged c.args.recorder.now c.from_residual-in_err-is_instance.result c.from_residual-in_err-is_instance.ensures.0
