use Rattle.std.proofs.Common.{subst}
use Rattle.std.proofs.lemmas.Result.{err_from_is_err_and}
use Rattle.hol_check_changes.specs.Change.{IsMeant}
use Rattle.hol_check_changes.proofs.LeafLemmas.{leaf-closed, leaf-not_closed, leaf-not_filled, leaf-put, leaf-instance, leaf-instance-refused}
use Rattle.hol_check_changes.proofs.leaves.change_free.Goals as goal

pub returns-then-number-variable-clause-changed : goal.returns-then-number-variable-clause-changed
returns-then-number-variable-clause-changed c = λ meaning held.
    leaf-closed c.args.terms.now c.bound.new.self c.args.change.now c.args.types.now.entries meaning c.args.passed c.args.number c.in-Close.variable c.bound.result c.bound.ensures.grows held
    (subst (λ x. IsMeant c.args.terms.now x meaning) c.in-Close.is held.meant) c.if-number-variable.true c.bound.ensures.number c.bound.ensures.refused

pub returns-else-number-variable-clause-changed : goal.returns-else-number-variable-clause-changed
returns-else-number-variable-clause-changed c = λ meaning held.
    leaf-not_closed c.args.terms.now c.have_one_number.ensures.terms c.args.change.now c.args.types.now.entries meaning c.args.passed c.args.number c.in-Close.variable _ _ c.requires.number held
    (subst (λ x. IsMeant c.args.terms.now x meaning) c.in-Close.is held.meant) c.if-number-variable.false c.requires.is_free

pub returns-in-Fill-clause-changed : goal.returns-in-Fill-clause-changed
returns-in-Fill-clause-changed c = λ meaning held.
    leaf-not_filled c.args.terms.now c.args.change.now c.args.types.now.entries meaning c.args.passed c.args.number c.in-Fill._new _ _ c.requires.number held
    (subst (λ x. IsMeant c.args.terms.now x meaning) c.in-Fill.is held.meant) c.requires.is_free

pub returns-in-Put-clause-changed : goal.returns-in-Put-clause-changed
returns-in-Put-clause-changed c = λ meaning held.
    leaf-put c.args.terms.now c.have_one_number.ensures.terms c.args.change.now c.args.types.now.entries c.in-Put.pairs.now meaning c.args.passed c.args.number c.replaced.result _ _
    c.requires.number held
    (subst (λ x. IsMeant c.args.terms.now x meaning) c.in-Put.is held.meant) c.replaced.ensures c.requires.is_free

pub returns-in_ok-new-in-Instantiate-clause-changed : goal.returns-in_ok-new-in-Instantiate-clause-changed
returns-in_ok-new-in-Instantiate-clause-changed c = λ meaning held.
    leaf-instance c.args.terms.now c.change_type.new.terms c.free.new.self c.args.change.now c.change_type.new.types.entries c.in-Instantiate._pairs.now meaning c.args.passed c.args.number
    c.args.name c.args.ty c.in_ok-new-in-Instantiate.new c.free.result
    c.change_type.ensures.grows c.free.ensures.grows c.requires.name (subst (λ x. IsMeant c.args.terms.now x meaning) c.in-Instantiate.is held.meant) c.requires.is_free
    (c.in_ok-new-in-Instantiate.ensures.changed meaning held) c.free.ensures.number c.free.ensures.refused

pub returns-in_err-new-in-Instantiate-clause-changed : goal.returns-in_err-new-in-Instantiate-clause-changed
returns-in_err-new-in-Instantiate-clause-changed c = λ meaning held.
    let p = err_from_is_err_and c.from_residual.result c.from_residual.ensures.1 in
    rw (p.1, p.2)
    (leaf-instance-refused c.args.terms.now c.change_type.new.terms c.args.change.now c.change_type.new.types.entries c.in-Instantiate._pairs.now meaning c.args.passed c.args.number
    c.args.name c.args.ty c.in_err-new-in-Instantiate.field-0.0
    (subst (λ x. IsMeant c.args.terms.now x meaning) c.in-Instantiate.is held.meant) c.requires.is_free (c.in_err-new-in-Instantiate.ensures.changed meaning held))
