use Rattle.std.proofs.Common.{[], ◌∷◌, List, ◌∙◌}
use Rattle.hol_model.specs.Terms.NamedTerm.{NamedTerm, variable}
use Rattle.hol_quant.proofs.ExistsLemmas.{pair-is, instance-same, past-differs}
use Rattle.hol_quant.proofs.existence.is_body_with.Goals as goal

pub returns-in-Ok-clause-ok : goal.returns-in-Ok-clause-ok
returns-in-Ok-clause-ok c name ty binder_is argument_typed =
    let argument = c.args.argument.now in
    let theta : List (NamedTerm × NamedTerm) = (c.in_ok-new.new, c.in_ok-old.old) ∷ [] in
    let theta_is = pair-is c.in_ok-new.new argument c.in_ok-old.old c.args.binder.now (variable name ty) c.in_ok-new.ensures.ok c.in_ok-old.ensures.ok binder_is in
    c.aconv.ensures.value ∙ instance-same argument c.args.body.now c.args.other.now name ty c.ty-body_type.result.now argument_typed
    c.ty-body_type.ensures theta theta_is c.in-Ok.instance c.in-Ok.ensures.outcome.1

pub returns-in-Err-TooLarge-clause-ok : goal.returns-in-Err-TooLarge-clause-ok
returns-in-Err-TooLarge-clause-ok c name ty binder_is argument_typed =
    let argument = c.args.argument.now in
    let theta : List (NamedTerm × NamedTerm) = (c.in_ok-new.new, c.in_ok-old.old) ∷ [] in
    let theta_is = pair-is c.in_ok-new.new argument c.in_ok-old.old c.args.binder.now (variable name ty) c.in_ok-new.ensures.ok c.in_ok-old.ensures.ok binder_is in
    past-differs argument c.args.body.now c.args.other.now name ty c.ty-body_type.result.now argument_typed c.ty-body_type.ensures theta theta_is
    (rw c.in-Err-TooLarge.field-0-is at c.in-Err-TooLarge.ensures.outcome) c.ty-other_type.result.now c.ty-other_type.ensures
    c.well_formed-2.ensures.within_limits
