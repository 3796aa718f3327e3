use Rattle.hol_laws_refusals.proofs.Expressions.{expressions-have-known-rules}
use Rattle.hol_laws_refusals.proofs.expressions_have_known_rules.Goals as goal

pub returns : goal.returns
returns c = expressions-have-known-rules
