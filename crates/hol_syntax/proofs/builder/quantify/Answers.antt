use Rattle.std.proofs.Common.{◌≡◌, Err, true, sym, ap, ◌∙◌, subst}
use Rattle.std.proofs.lemmas.Result.{err_from_is_err_and}
use Rattle.hol_model.specs.Terms.HolType.{HolType, bool_type, type_eq}
use Rattle.hol_model.specs.Texts.Reading.{quantifier_type}
use Rattle.hol_model.specs.Kernel.Outcome.{Answers}
use Rattle.hol_syntax.specs.Scope.{scope_of}
use Rattle.hol_syntax.specs.Building.{limited_constant}
use Rattle.hol_syntax.proofs.Making.{quantifier_known, binder_typed, operator_refused, predicate_refused, choice_made, truth-is}
use Rattle.hol_syntax.proofs.builder.quantify.Goals as goal

pub returns-in_err-operator : goal.returns-in_err-operator
returns-in_err-operator c = λ x ty is.
    let body : type_eq bool_type c.ty-body_type.result.now ≡ true = ap (λ t. type_eq t c.ty-body_type.result.now) (truth-is c.in_ok-truth.truth c.in_ok-truth.ensures.outcome) ∙ sym
    c.if-not-eq.ensures.value in
    let same : c.ty-binder_type.result.now ≡ ty = binder_typed c.args.binder.now x ty _ is c.ty-binder_type.ensures in
    let Q : HolType → Type 0 = λ t. Answers (Err c.in_err-operator.field-0.0) (limited_constant c.args.name.now (quantifier_type t)) in
    let known = quantifier_known (scope_of c.args.scope.now) c.args.name.now c.in_ok-generic.generic.now _ c.args.binder.now c.args.body.now x ty c.in_ok-generic.ensures.ok c.ty-binder_type.ensures
    (sym c.if-not-is_quantifier_instance.ensures) is in
    let p = err_from_is_err_and c.from_residual-in_err-operator.result c.from_residual-in_err-operator.ensures.1 in
    rw (p.1, p.2)
    (subst (λ w. Answers (Err c.in_err-operator.field-0.0) w) (sym known)
    (operator_refused c.args.name.now bool_type ty c.ty-body_type.result.now x c.args.body.now c.in_err-operator.field-0.0 c.ty-body_type.ensures body (subst Q same c.in_err-operator.ensures)))

pub returns-in_err-predicate : goal.returns-in_err-predicate
returns-in_err-predicate c = λ x ty is.
    let body : type_eq bool_type c.ty-body_type.result.now ≡ true = ap (λ t. type_eq t c.ty-body_type.result.now) (truth-is c.in_ok-truth.truth c.in_ok-truth.ensures.outcome) ∙ sym
    c.if-not-eq.ensures.value in
    let known = quantifier_known (scope_of c.args.scope.now) c.args.name.now c.in_ok-generic.generic.now _ c.args.binder.now c.args.body.now x ty c.in_ok-generic.ensures.ok c.ty-binder_type.ensures
    (sym c.if-not-is_quantifier_instance.ensures) is in
    let p = err_from_is_err_and c.from_residual-in_err-predicate.result c.from_residual-in_err-predicate.ensures.1 in
    rw (p.1, p.2)
    (subst (λ w. Answers (Err c.in_err-predicate.field-0.0) w) (sym known)
    (predicate_refused c.args.name.now bool_type ty c.ty-body_type.result.now x c.args.body.now c.in_err-predicate.field-0.0 c.ty-body_type.ensures body (c.in_err-predicate.ensures x ty is)))

pub returns : goal.returns
returns c = λ x ty is.
    let known = quantifier_known (scope_of c.args.scope.now) c.args.name.now c.in_ok-generic.generic.now _ c.args.binder.now c.args.body.now x ty c.in_ok-generic.ensures.ok c.ty-binder_type.ensures
    (sym c.if-not-is_quantifier_instance.ensures) is in
    subst (λ w. Answers c.apply.result w) (sym known)
    (choice_made c.args.binder.now c.args.body.now c.in_ok-operator.operator c.in_ok-predicate.predicate x ty c.ty-binder_type.result.now c.args.name.now (λ t. bool_type) c.apply.result is
    c.ty-binder_type.ensures c.in_ok-operator.ensures (c.in_ok-predicate.ensures x ty is) c.apply.ensures)
