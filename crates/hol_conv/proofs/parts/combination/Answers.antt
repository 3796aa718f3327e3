use Rattle.std.proofs.Common.{rules}
use Rattle.hol_conv.specs.Parts.{is_no_combination}
use Rattle.hol_conv.proofs.Parting.{deep-combination}
use Rattle.hol_conv.proofs.parts.combination.Goals as goal

pub returns-in_default-clause-err : goal.returns-in_default-clause-err
returns-in_default-clause-err c = is_no_combination (search rules)

pub returns-then-depth-ge-DESCENTS_LIMIT-clause-err : goal.returns-then-depth-ge-DESCENTS_LIMIT-clause-err
returns-then-depth-ge-DESCENTS_LIMIT-clause-err c = deep-combination c.args.t.now (c.in-Some.function.now, c.in-Some.argument.now) (search rules) (search rules)
