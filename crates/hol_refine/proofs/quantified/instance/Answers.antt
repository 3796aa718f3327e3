use Rattle.std.proofs.Common.{◌∙◌}
use Rattle.std.proofs.lemmas.Result.{err_from_is_err_and}
use Rattle.hol_refine.proofs.Instances.{instance-made, instance-refused}
use Rattle.hol_refine.proofs.quantified.instance.Goals as goal

pub returns : goal.returns
returns c =
    instance-made c.args.argument.now c.args.parts.body.now c.in_ok-new.new c.in_ok-old.old c.args.parts.name.now c.args.parts.ty.now c.ty-body_type.result.now c.requires.typed c.ty-body_type.ensures
    c.in_ok-new.ensures.ok c.in_ok-old.ensures.ok c.in_ok-made.made c.ty-body_type.result.now (c.in_ok-made.ensures.typed ∙ c.ty-body_type.ensures)
    c.well_formed-2.ensures.within_limits c.in_ok-made.ensures.outcome.1

pub returns-in_err-made : goal.returns-in_err-made
returns-in_err-made c =
    let p = err_from_is_err_and c.from_residual-in_err-made.result c.from_residual-in_err-made.ensures.1 in
    rw (p.1, p.2)
    (instance-refused c.args.argument.now c.args.parts.body.now c.in_ok-new.new c.in_ok-old.old c.args.parts.name.now c.args.parts.ty.now c.ty-body_type.result.now
    c.requires.typed c.ty-body_type.ensures
    c.in_ok-new.ensures.ok c.in_ok-old.ensures.ok c.in_err-made.field-0.0 c.in_err-made.ensures.outcome)
