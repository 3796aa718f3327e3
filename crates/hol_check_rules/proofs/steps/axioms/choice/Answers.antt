use Rattle.std.proofs.Common.{◌∙◌, ap, Some, arith}
use Rattle.std.proofs.lemmas.Result.{err_from_is_err_and}
use Rattle.hol_model.specs.Logic.Theory.{choice_type, type_a}
use Rattle.hol_check_terms.proofs.GrowthLemmas.{type-there, IsGrown-trans}
use Rattle.hol_check_rules.proofs.AxiomLemmas.{function-is, small-function, grown-twice}
use Rattle.hol_check_rules.proofs.steps.axioms.choice.Goals as goal

pub returns-clause-named : goal.returns-clause-named
returns-clause-named c =
    let same = function-is c.predicate_type.new.terms c.type_variable.new.self c.in_ok-predicates.predicates c.in_ok-argument.argument _ _ c.in_ok-predicates.ensures.named.number
    c.type_variable.ensures.grows c.in_ok-argument.ensures.number in
    let made = c.in_ok-ty.ensures.number ∙ ap Some same in
    let is = type-there c.function_type.new.self.types c.in_ok-ty.ty (choice_type type_a) made in
    let number = rw is at c.constant.ensures.number in
    record { number = number; refused = c.constant.ensures.refused }

pub returns-in_err-ty-clause-named : goal.returns-in_err-ty-clause-named
returns-in_err-ty-clause-named c =
    let same = function-is c.predicate_type.new.terms c.type_variable.new.self c.in_ok-predicates.predicates c.in_ok-argument.argument _ _ c.in_ok-predicates.ensures.named.number
    c.type_variable.ensures.grows c.in_ok-argument.ensures.number in
    let p = err_from_is_err_and c.from_residual-in_err-ty.result c.from_residual-in_err-ty.ensures.1 in
    rw (p.1, p.2) (record { number = tt; refused = small-function c.in_err-ty.field-0.0 _ (choice_type type_a) same (omega arith) c.in_err-ty.ensures.refused })

pub returns-clause-grows : goal.returns-clause-grows
returns-clause-grows c =
    let earlier = grown-twice c.args.terms.now c.predicate_type.new.terms c.type_variable.new.self c.function_type.new.self c.predicate_type.ensures.grows c.type_variable.ensures.grows
    c.function_type.ensures.grows in
    IsGrown-trans c.args.terms.now c.function_type.new.self c.constant.new.terms earlier c.constant.ensures.grows
