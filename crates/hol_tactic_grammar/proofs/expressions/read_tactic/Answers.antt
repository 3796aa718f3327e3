use Rattle.hol_syntax.specs.Scope.{scope_of}
use Rattle.hol_tactic_grammar.proofs.Trees.{tree-answered}
use Rattle.hol_tactic_grammar.proofs.expressions.read_tactic.Goals as goal

pub returns : goal.returns
returns c = tree-answered (scope_of c.args.scope.now) c.args.tac.now c.read_expression.result c.read_expression.ensures
