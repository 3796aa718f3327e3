use Rattle.std.proofs.Common.{◌∙◌}
use Rattle.hol_tactic_exprs.specs.Expressions.{conversion_of}
use Rattle.hol_tactic_grammar.proofs.ConversionLemmas.{either-several}
use Rattle.hol_tactic_grammar.proofs.conversions.either.Goals as goal

pub returns-in-Ok : goal.returns-in-Ok
returns-in-Ok c = c.in-Ok.ensures.ok ∙ either-several (conversion_of c.args.first) c.args.others.items c.args.others.len c.args.others.ok.0 c.if-is_empty.ensures
