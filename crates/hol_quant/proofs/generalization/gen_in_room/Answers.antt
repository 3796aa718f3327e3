use Rattle.std.proofs.Common.{rules, ◌∙◌, ap, sym}
use Rattle.std.proofs.lemmas.Result.{err_from_is_err_and}
use Rattle.hol_model.specs.Kernel.Rules.{abstraction_outcome}
use Rattle.hol_quant.proofs.ForAllLemmas.{abstraction-past, abstraction-is}
use Rattle.hol_quant.proofs.generalization.gen_in_room.Goals as goal

pub over_all-requires-clause-function : goal.over_all-requires-clause-function
over_all-requires-clause-function c =
    let binder = c.args.binder.now in
    let at = c.requires.variable in
    record {
      name = at.name;
      ty = at.ty;
      binder_is = at.is;
      type_known = at.known;
      function_is = abstraction-is at.name at.ty c.args.premise.now.theorem.conclusion binder at.is c.in_ok-function.function
          (ap (abstraction_outcome binder) (sym c.conclusion_of-formula.ensures.value) ∙ c.in_ok-function.ensures.outcome);
    }

pub returns-in_err-function-clause-derives : goal.returns-in_err-function-clause-derives
returns-in_err-function-clause-derives c name ty room may fits =
    let p = err_from_is_err_and c.from_residual.result c.from_residual.ensures.1 in
    rw (p.1, p.2) (
    let p = c.args.premise.now.theorem.conclusion in
    abstraction-past name ty p room fits c.args.binder.now may.binder_is c.conclusion_of-formula.ensures.formula.typed _
    (rw c.conclusion_of-formula.ensures.value at c.in_err-function.ensures.outcome)
    )

pub returns-clause-derives : goal.returns-clause-derives
returns-clause-derives c name ty room may fits =
    let p = c.args.premise.now.theorem.conclusion in
    let function_is = abstraction-is name ty p c.args.binder.now may.binder_is c.in_ok-function.function
    (ap (abstraction_outcome c.args.binder.now) (sym c.conclusion_of-formula.ensures.value) ∙ c.in_ok-function.ensures.outcome) in
    c.over_all.ensures.derives name ty room may function_is fits

pub returns-in_err-function-clause-continues : goal.returns-in_err-function-clause-continues
returns-in_err-function-clause-continues c = rw (err_from_is_err_and c.from_residual.result c.from_residual.ensures.1).1 (search rules)
