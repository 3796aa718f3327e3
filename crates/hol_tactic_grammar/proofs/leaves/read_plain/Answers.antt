use Rattle.hol_tactic_grammar.specs.Expressions.{expression_here}
use Rattle.hol_tactic_grammar.proofs.LeafLemmas.{plain-at}
use Rattle.hol_tactic_grammar.proofs.leaves.read_plain.Goals as goal

pub returns : goal.returns
returns c = λ room. plain-at c.args.tactic c.args.at room c.args.tokens.now (expression_here c.plain_tactic.result) c.requires c.plain_tactic.ensures
