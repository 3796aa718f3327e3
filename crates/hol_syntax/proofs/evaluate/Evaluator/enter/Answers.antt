use Rattle.std.proofs.lemmas.Result.{err_from_is_err_and}
use Rattle.hol_model.specs.Texts.Reading.{type_meaning}
use Rattle.hol_syntax.specs.Scope.{scope_of}
use Rattle.hol_syntax.proofs.TermEvaluation.{entered, unentered}
use Rattle.hol_syntax.proofs.evaluate.Evaluator.enter.Goals as goal

pub returns-in_err-binder : goal.returns-in_err-binder
returns-in_err-binder c =
    let p = err_from_is_err_and c.from_residual-in_err-binder.result c.from_residual-in_err-binder.ensures.1 in
    rw (p.1, p.2) (λ tree work e held.
    unentered (type_meaning (scope_of c.args.scope.now) tree) c.args.name.now c.in_ok-ty.ty c.in_err-binder.field-0.0 c.args.self.now work
    (c.in_ok-ty.ensures tree e) c.in_err-binder.ensures)

pub returns : goal.returns
returns c = λ tree work e held.
    entered (type_meaning (scope_of c.args.scope.now) tree) c.args.name.now c.in_ok-ty.ty c.in_ok-binder.binder c.enter.result _ work
    (c.in_ok-ty.ensures tree e) c.in_ok-binder.ensures held.terms (λ is. c.enter.ensures c.args.name.now c.in_ok-ty.ty work.0 is held.binders)
