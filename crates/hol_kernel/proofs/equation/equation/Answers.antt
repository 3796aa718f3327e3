use Rattle.hol_kernel.proofs.LimitLemmas.{equation-limited}
use Rattle.hol_kernel.proofs.equation.equation.Goals as goal

pub returns : goal.returns
returns c = equation-limited c.mk_eq.result c.args.left.now c.args.right.now c.ty-typed.result.now c.ty-typed.ensures c.requires c.mk_eq.ensures.outcome
