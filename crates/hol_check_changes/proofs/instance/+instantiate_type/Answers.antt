use Rattle.std.proofs.Common.{◌<◌, length, sym, ◌∙◌, ap, Some, arith}
use Rattle.std.proofs.lemmas.Result.{err_from_is_err_and}
use Rattle.hol_model.specs.Terms.HolType.{function_type}
use Rattle.hol_check_terms.specs.Terms.{type_at}
use Rattle.hol_check_changes.specs.TypeChange.{type_change}
use Rattle.hol_check_terms.proofs.TableLemmas.{is_within, IsLonger-trans}
use Rattle.hol_check_changes.proofs.PairLemmas.{pairs-grown}
use Rattle.hol_check_changes.proofs.TypeChangeLemmas.{answers-variable, answers-kept, refused-type, domain-smaller, codomain-smaller, work-after, function-parts, answers-refused, answers-made}
use Rattle.hol_check_terms.proofs.GrowthLemmas.{type-within, type-grown}
use Rattle.hol_check_changes.proofs.instance.«+instantiate_type».Goals as goal

pub returns-in-Variable-clause-changed : goal.returns-in-Variable-clause-changed
returns-in-Variable-clause-changed t c = λ theta are memo.
    answers-variable c.args.terms.now.types c.have_one_number.ensures.types c.args.pairs.now theta are c.args.ty c.replaced.result c.requires.ty _ c.in-Variable.ensures.shape
    c.replaced.ensures c.args.types.now.entries memo

pub returns-in-Boolean-clause-changed : goal.returns-in-Boolean-clause-changed
returns-in-Boolean-clause-changed t c = λ theta are memo.
    answers-kept c.args.terms.now.types (type_change theta) c.args.ty c.requires.ty (ap (type_change theta) c.in-Boolean.ensures.shape ∙ sym c.in-Boolean.ensures.shape) c.args.types.now.entries memo

pub returns-in-Declared-clause-changed : goal.returns-in-Declared-clause-changed
returns-in-Declared-clause-changed t c = λ theta are memo.
    answers-kept c.args.terms.now.types (type_change theta) c.args.ty c.requires.ty (ap (type_change theta) c.in-Declared.ensures.shape ∙ sym c.in-Declared.ensures.shape)
    c.args.types.now.entries memo

pub returns-in_err-new_domain-in-Function-clause-changed : goal.returns-in_err-new_domain-in-Function-clause-changed
returns-in_err-new_domain-in-Function-clause-changed t c = λ theta are memo.
    let p = err_from_is_err_and c.from_residual.result c.from_residual.ensures.1 in
    let types = c.args.terms.now.types in
    rw (p.1, p.2)
    (refused-type (type_change theta (type_at types c.in-Function.domain)) (type_change theta (type_at types c.args.ty)) c.in_err-new_domain-in-Function.field-0.0
    c.instantiate_type.new.terms.types (type_change theta)
    c.instantiate_type.new.types.entries
    (domain-smaller theta (type_at types c.args.ty) (type_at types c.in-Function.domain) (type_at types c.in-Function.codomain) c.in-Function.ensures.shape)
    (c.in_err-new_domain-in-Function.ensures.changed theta are memo))

pub instantiate_type-requires-in-Function : goal.instantiate_type-requires-in-Function
instantiate_type-requires-in-Function t c =
    let before : c.in-Function.codomain < c.args.ty = c.in-Function.ensures.parts.1 in
    let known : c.args.ty < length c.args.terms.now.types = c.requires.ty in
    let within : c.in-Function.codomain < length c.args.terms.now.types = omega arith in
    let work = c.requires.work in (
      omega arith,
      (
        type-within c.args.terms.now.types c.instantiate_type.new.terms.types c.in-Function.codomain c.instantiate_type.ensures.grows.types within,
        work-after c.args.terms.now.types c.instantiate_type.new.terms.types c.args.pairs.now c.args.types.now.entries c.instantiate_type.new.types.entries c.instantiate_type.ensures.grows.types work
            (c.instantiate_type.ensures.changed work.theta work.are_pairs work.memo).memo,
      ),
    )

pub returns-in_err-new_codomain-in-Function-clause-changed : goal.returns-in_err-new_codomain-in-Function-clause-changed
returns-in_err-new_codomain-in-Function-clause-changed t c = λ theta are memo.
    let p = err_from_is_err_and c.from_residual-in_err-new_codomain-in-Function.result c.from_residual-in_err-new_codomain-in-Function.ensures.1 in
    let types = c.args.terms.now.types in
    let now = c.instantiate_type.new.terms.types in
    let longer = c.instantiate_type.ensures.grows.types in
    let before : c.in-Function.codomain < c.args.ty = c.in-Function.ensures.parts.1 in
    let known : c.args.ty < length types = c.requires.ty in
    let within : c.in-Function.codomain < length types = omega arith in
    let first = c.in_ok-new_domain-in-Function.ensures.changed theta are memo in
    let second = c.in_err-new_codomain-in-Function.ensures.changed theta (pairs-grown types now longer c.args.pairs.now theta are) first.memo in
    rw (p.1, p.2)
    (refused-type (type_change theta (type_at now c.in-Function.codomain)) (type_change theta (type_at types c.args.ty)) c.in_err-new_codomain-in-Function.field-0.0
    c.instantiate_type-in-Function.new.terms.types (type_change theta) c.instantiate_type-in-Function.new.types.entries
    (codomain-smaller theta (type_at types c.args.ty) (type_at types c.in-Function.domain) (type_at now c.in-Function.codomain)
    (c.in-Function.ensures.shape ∙ ap (function_type (type_at types c.in-Function.domain)) (sym (type-grown types now c.in-Function.codomain longer within)))) second)

pub function_type-requires-clause-domain : goal.function_type-requires-clause-domain
function_type-requires-clause-domain t c =
    let work = c.requires.work in
    type-within c.instantiate_type.new.terms.types c.instantiate_type-in-Function.new.terms.types c.in_ok-new_domain-in-Function.new_domain c.instantiate_type-in-Function.ensures.grows.types
    (is_within _ c.in_ok-new_domain-in-Function.new_domain _ (c.in_ok-new_domain-in-Function.ensures.changed work.theta work.are_pairs work.memo).number)

pub function_type-requires-clause-codomain : goal.function_type-requires-clause-codomain
function_type-requires-clause-codomain t c =
    let work = c.requires.work in
    let first = c.in_ok-new_domain-in-Function.ensures.changed work.theta work.are_pairs work.memo in
    let pairs = pairs-grown c.args.terms.now.types c.instantiate_type.new.terms.types c.instantiate_type.ensures.grows.types c.args.pairs.now work.theta work.are_pairs in
    is_within _ c.in_ok-new_codomain-in-Function.new_codomain _ (c.in_ok-new_codomain-in-Function.ensures.changed work.theta pairs first.memo).number

pub returns-in_ok-new-in-Function-clause-changed : goal.returns-in_ok-new-in-Function-clause-changed
returns-in_ok-new-in-Function-clause-changed t c = λ theta are memo.
    let t0 = c.args.terms.now.types in
    let t1 = c.instantiate_type.new.terms.types in
    let t2 = c.instantiate_type-in-Function.new.terms.types in
    let t3 = c.function_type.new.self.types in
    let longer = c.instantiate_type.ensures.grows.types in
    let later = c.instantiate_type-in-Function.ensures.grows.types in
    let last = c.function_type.ensures.grows.types in
    let before : c.in-Function.codomain < c.args.ty = c.in-Function.ensures.parts.1 in
    let known : c.args.ty < length t0 = c.requires.ty in
    let within : c.in-Function.codomain < length t0 = omega arith in
    let first = c.in_ok-new_domain-in-Function.ensures.changed theta are memo in
    let second = c.in_ok-new_codomain-in-Function.ensures.changed theta (pairs-grown t0 t1 longer c.args.pairs.now theta are) first.memo in
    let codomain_same = type-grown t0 t1 c.in-Function.codomain longer within in
    let parts = function-parts t1 t2 theta (type_at t0 c.args.ty) (type_at t0 c.in-Function.domain) (type_at t0 c.in-Function.codomain) c.in_ok-new_domain-in-Function.new_domain
    c.in_ok-new_codomain-in-Function.new_codomain later c.in-Function.ensures.shape first.number
    (second.number ∙ ap (λ ty. Some (type_change theta ty)) codomain_same) in
    answers-made t0 t2 t3 theta c.args.ty _ c.in_ok-new-in-Function.new c.remember_type.result c.instantiate_type-in-Function.new.types.entries c.remember_type.new.types.entries
    (IsLonger-trans t0 t1 t3 longer (IsLonger-trans t1 t2 t3 later last)) last known parts c.in_ok-new-in-Function.ensures.number second.memo c.remember_type.ensures.new
    c.remember_type.ensures.refused c.remember_type.ensures.added

pub returns-in_err-new-in-Function-clause-changed : goal.returns-in_err-new-in-Function-clause-changed
returns-in_err-new-in-Function-clause-changed t c = λ theta are memo.
    let p = err_from_is_err_and c.from_residual-in_err-new-in-Function.result c.from_residual-in_err-new-in-Function.ensures.1 in
    let t0 = c.args.terms.now.types in
    let t1 = c.instantiate_type.new.terms.types in
    let t2 = c.instantiate_type-in-Function.new.terms.types in
    let t3 = c.function_type.new.self.types in
    let longer = c.instantiate_type.ensures.grows.types in
    let later = c.instantiate_type-in-Function.ensures.grows.types in
    let last = c.function_type.ensures.grows.types in
    let before : c.in-Function.codomain < c.args.ty = c.in-Function.ensures.parts.1 in
    let known : c.args.ty < length t0 = c.requires.ty in
    let within : c.in-Function.codomain < length t0 = omega arith in
    let first = c.in_ok-new_domain-in-Function.ensures.changed theta are memo in
    let second = c.in_ok-new_codomain-in-Function.ensures.changed theta (pairs-grown t0 t1 longer c.args.pairs.now theta are) first.memo in
    let codomain_same = type-grown t0 t1 c.in-Function.codomain longer within in
    let parts = function-parts t1 t2 theta (type_at t0 c.args.ty) (type_at t0 c.in-Function.domain) (type_at t0 c.in-Function.codomain) c.in_ok-new_domain-in-Function.new_domain
    c.in_ok-new_codomain-in-Function.new_codomain later c.in-Function.ensures.shape first.number
    (second.number ∙ ap (λ ty. Some (type_change theta ty)) codomain_same) in
    rw (p.1, p.2)
    (answers-refused t2 t3 theta (type_at t0 c.args.ty) _ c.in_err-new-in-Function.field-0.0 c.instantiate_type-in-Function.new.types.entries last parts
    c.in_err-new-in-Function.ensures.refused second.memo)
