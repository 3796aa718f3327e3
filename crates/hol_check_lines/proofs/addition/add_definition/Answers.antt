use Rattle.hol_check_lines.proofs.AdditionLemmas.{defined-kept}
use Rattle.std.proofs.lemmas.Result.{err_from_is_err_and}
use Rattle.hol_check_lines.proofs.addition.add_definition.Goals as goal

pub returns-clause-kept : goal.returns-clause-kept
returns-clause-kept c = defined-kept c.add_theorem.result c.args.contents.now c.declare_constant.new.contents c.add_theorem.new.contents c.args.name c.args.ty c.args.body
    c.args.theorem c.requires c.in_ok-declare_constant.ensures.added c.add_theorem.ensures.kept

pub returns-in_err-declare_constant-clause-kept : goal.returns-in_err-declare_constant-clause-kept
returns-in_err-declare_constant-clause-kept c =
    let p = err_from_is_err_and c.from_residual.result c.from_residual.ensures.1 in
    rw p.1 (λ table is stands. c.in_err-declare_constant.ensures.kept table is)
