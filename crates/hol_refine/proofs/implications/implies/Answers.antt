use Rattle.std.proofs.lemmas.Result.{err_from_is_err_and}
use Rattle.hol_refine.proofs.Fitting.{half_refused, whole_answered}
use Rattle.hol_refine.proofs.implications.implies.Goals as goal

pub returns-in_err-half : goal.returns-in_err-half
returns-in_err-half c p_typed q_typed =
    let p = err_from_is_err_and c.from_residual-in_err-half.result c.from_residual-in_err-half.ensures.1 in
    rw (p.1, p.2)
    (half_refused c.in_err-half.field-0.0 c.in_ok-connective.connective c.args.p.now c.args.q.now c.in_ok-connective.ensures.ok p_typed c.in_err-half.ensures.outcome)

pub returns : goal.returns
returns c p_typed q_typed =
    whole_answered c.mk_comb-2.result c.in_ok-connective.connective c.in_ok-half.half c.args.p.now c.args.q.now c.in_ok-connective.ensures.ok p_typed q_typed
    c.in_ok-half.ensures.outcome c.mk_comb-2.ensures.outcome
