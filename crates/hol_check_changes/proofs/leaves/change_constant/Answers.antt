use Rattle.std.proofs.lemmas.Result.{err_from_is_err_and}
use Rattle.hol_check_changes.proofs.LeafLemmas.{leaf-constant, leaf-constant-refused}
use Rattle.hol_check_changes.proofs.leaves.change_constant.Goals as goal

pub returns-clause-changed : goal.returns-clause-changed
returns-clause-changed c = λ meaning held.
    leaf-constant c.args.terms.now c.change_type.new.terms c.constant.new.self c.args.change.now c.change_type.new.types.entries meaning c.args.name c.args.ty
    c.in_ok-new.new c.constant.result
    c.change_type.ensures.grows c.constant.ensures.grows c.requires.name (c.in_ok-new.ensures.changed meaning held) c.constant.ensures.number c.constant.ensures.refused

pub returns-in_err-new-clause-changed : goal.returns-in_err-new-clause-changed
returns-in_err-new-clause-changed c = λ meaning held.
    let p = err_from_is_err_and c.from_residual.result c.from_residual.ensures.1 in
    rw (p.1, p.2)
    (leaf-constant-refused c.args.terms.now c.change_type.new.terms c.args.change.now c.change_type.new.types.entries meaning c.args.name c.args.ty
    c.in_err-new.field-0.0 (c.in_err-new.ensures.changed meaning held))
