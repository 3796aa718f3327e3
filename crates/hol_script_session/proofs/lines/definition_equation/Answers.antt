use Rattle.hol_script_session.proofs.GrowthLemmas.{unnamed_equation, large_equation, equation_answered}
use Rattle.hol_script_session.proofs.lines.definition_equation.Goals as goal

pub returns-in-Err : goal.returns-in-Err
returns-in-Err c = unnamed_equation c.no_equation.result c.in-Err.fault c.args.name.now c.ty.result.now c.args.term.now c.no_equation.ensures c.in-Err.ensures.outcome

pub returns-in-Ok-mk_eq : goal.returns-in-Ok-mk_eq
returns-in-Ok-mk_eq c =
    equation_answered c.args.name.now c.ty.result.now c.args.term.now c.in-Ok.constant c.in-Ok-mk_eq.equation c.ty.ensures c.in-Ok.ensures.outcome c.in-Ok-mk_eq.ensures.outcome

pub returns : goal.returns
returns c = large_equation c.no_equation-in-Err-mk_eq.result c.in-Err-mk_eq.fault c.args.name.now c.ty.result.now c.args.term.now c.in-Ok.constant
    c.ty.ensures c.in-Ok.ensures.outcome c.no_equation-in-Err-mk_eq.ensures c.in-Err-mk_eq.ensures.outcome
