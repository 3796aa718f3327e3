use Rattle.std.proofs.Common.{sym, ◌∙◌}
use Rattle.hol_quant.proofs.GenLemmas.{quantifier-is, formula-past}
use Rattle.hol_quant.proofs.generalization.universal.Goals as goal

pub returns-clause-err : goal.returns-clause-err
returns-clause-err c =
    formula-past c.mk_comb.result c.in_ok-quantifier.quantifier c.args.function.now
    (λ ty typed. quantifier-is c.in_ok-quantifier.quantifier c.in_ok-ty.ty c.in_ok-boolean.boolean c.ty.result.now c.in_ok-boolean.ensures.outcome
    c.in_ok-ty.ensures.outcome c.in_ok-quantifier.ensures.outcome ty (sym c.ty.ensures ∙ typed))
    c.mk_comb.ensures.outcome
