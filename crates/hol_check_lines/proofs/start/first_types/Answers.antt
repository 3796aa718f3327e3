use Rattle.std.proofs.Common.{◌∙◌, ap, Some, arith}
use Rattle.std.proofs.lemmas.Result.{err_from_is_err_and}
use Rattle.hol_check_terms.proofs.TableLemmas.{is_within}
use Rattle.hol_check_terms.proofs.GrowthLemmas.{type-place}
use Rattle.hol_check_rules.proofs.AxiomLemmas.{small-function}
use Rattle.hol_check_lines.proofs.StartLemmas.{predicates-made, predicates-kept, equality-typed, choice-typed}
use Rattle.hol_check_lines.proofs.start.first_types.Goals as goal

pub returns-in_err-equality-clause-refused : goal.returns-in_err-equality-clause-refused
returns-in_err-equality-clause-refused c =
    let made =
    predicates-made c.type_variable.new.self.types c.boolean.new.self.types c.function_type.new.self.types c.in_ok-a.a c.in_ok-formula.formula c.in_ok-predicate.predicate
    c.in_ok-a.ensures.number c.in_ok-formula.ensures.grows.types c.in_ok-formula.ensures.number c.in_ok-predicate.ensures.grows.types c.in_ok-predicate.ensures.number in
    let p = err_from_is_err_and c.from_residual-in_err-equality.result c.from_residual-in_err-equality.ensures.1 in
    rw (p.1, p.2) (small-function c.in_err-equality.field-0.0 _ _ (equality-typed c.function_type.new.self.types c.in_ok-a.a c.in_ok-predicate.predicate made) (omega arith) c.in_err-equality.ensures.refused)

pub function_type-requires-3-clause-domain : goal.function_type-requires-3-clause-domain
function_type-requires-3-clause-domain c =
    let made =
    predicates-made c.type_variable.new.self.types c.boolean.new.self.types c.function_type.new.self.types c.in_ok-a.a c.in_ok-formula.formula c.in_ok-predicate.predicate
    c.in_ok-a.ensures.number c.in_ok-formula.ensures.grows.types c.in_ok-formula.ensures.number c.in_ok-predicate.ensures.grows.types c.in_ok-predicate.ensures.number in
    let kept = predicates-kept c.function_type.new.self.types c.function_type-2.new.self.types c.in_ok-a.a c.in_ok-predicate.predicate c.in_ok-equality.ensures.grows.types made in
    is_within c.function_type-2.new.self.types c.in_ok-predicate.predicate _ kept.is_predicate

pub function_type-requires-3-clause-codomain : goal.function_type-requires-3-clause-codomain
function_type-requires-3-clause-codomain c =
    let made =
    predicates-made c.type_variable.new.self.types c.boolean.new.self.types c.function_type.new.self.types c.in_ok-a.a c.in_ok-formula.formula c.in_ok-predicate.predicate
    c.in_ok-a.ensures.number c.in_ok-formula.ensures.grows.types c.in_ok-formula.ensures.number c.in_ok-predicate.ensures.grows.types c.in_ok-predicate.ensures.number in
    let kept = predicates-kept c.function_type.new.self.types c.function_type-2.new.self.types c.in_ok-a.a c.in_ok-predicate.predicate c.in_ok-equality.ensures.grows.types made in
    is_within c.function_type-2.new.self.types c.in_ok-a.a _ kept.is_variable

pub returns-in_err-choice-clause-refused : goal.returns-in_err-choice-clause-refused
returns-in_err-choice-clause-refused c =
    let made =
    predicates-made c.type_variable.new.self.types c.boolean.new.self.types c.function_type.new.self.types c.in_ok-a.a c.in_ok-formula.formula c.in_ok-predicate.predicate
    c.in_ok-a.ensures.number c.in_ok-formula.ensures.grows.types c.in_ok-formula.ensures.number c.in_ok-predicate.ensures.grows.types c.in_ok-predicate.ensures.number in
    let kept = predicates-kept c.function_type.new.self.types c.function_type-2.new.self.types c.in_ok-a.a c.in_ok-predicate.predicate c.in_ok-equality.ensures.grows.types made in
    let p = err_from_is_err_and c.from_residual-in_err-choice.result c.from_residual-in_err-choice.ensures.1 in
    rw (p.1, p.2) (small-function c.in_err-choice.field-0.0 _ _ (choice-typed c.function_type-2.new.self.types c.in_ok-a.a c.in_ok-predicate.predicate kept) (omega arith) c.in_err-choice.ensures.refused)

pub returns-clause-equality : goal.returns-clause-equality
returns-clause-equality c =
    let made =
    predicates-made c.type_variable.new.self.types c.boolean.new.self.types c.function_type.new.self.types c.in_ok-a.a c.in_ok-formula.formula c.in_ok-predicate.predicate
    c.in_ok-a.ensures.number c.in_ok-formula.ensures.grows.types c.in_ok-formula.ensures.number c.in_ok-predicate.ensures.grows.types c.in_ok-predicate.ensures.number in
    type-place c.function_type-2.new.self.types c.function_type-3.new.self.types c.in_ok-equality.equality _ c.in_ok-choice.ensures.grows.types
    (c.in_ok-equality.ensures.number ∙ ap Some (equality-typed c.function_type.new.self.types c.in_ok-a.a c.in_ok-predicate.predicate made))

pub returns-clause-choice : goal.returns-clause-choice
returns-clause-choice c =
    let made =
    predicates-made c.type_variable.new.self.types c.boolean.new.self.types c.function_type.new.self.types c.in_ok-a.a c.in_ok-formula.formula c.in_ok-predicate.predicate
    c.in_ok-a.ensures.number c.in_ok-formula.ensures.grows.types c.in_ok-formula.ensures.number c.in_ok-predicate.ensures.grows.types c.in_ok-predicate.ensures.number in
    let kept = predicates-kept c.function_type.new.self.types c.function_type-2.new.self.types c.in_ok-a.a c.in_ok-predicate.predicate c.in_ok-equality.ensures.grows.types made in
    c.in_ok-choice.ensures.number ∙ ap Some (choice-typed c.function_type-2.new.self.types c.in_ok-a.a c.in_ok-predicate.predicate kept)
