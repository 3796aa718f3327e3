use Rattle.std.proofs.Common.{◌∙◌}
use Rattle.hol_tactic_exprs.specs.Expressions.{conversion_of}
use Rattle.hol_tactic_grammar.proofs.ConversionLemmas.{in_order-several}
use Rattle.hol_tactic_grammar.proofs.conversions.in_order.Goals as goal

pub returns-in-Ok : goal.returns-in-Ok
returns-in-Ok c = c.in-Ok.ensures.ok ∙ in_order-several (conversion_of c.args.first) c.args.others.items c.args.others.len c.args.others.ok.0 c.if-is_empty.ensures
