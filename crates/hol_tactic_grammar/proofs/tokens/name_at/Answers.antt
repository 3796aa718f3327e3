use Rattle.hol_tactic_grammar.proofs.TokenLemmas.{name-at}
use Rattle.hol_tactic_grammar.proofs.tokens.name_at.Goals as goal

pub returns-in-Name : goal.returns-in-Name
returns-in-Name c = name-at c.identifier.result c.args.tokens.now c.args.at _ c.in-Name.bytes c.requires c.if-at-tokens.false c.in-Name.is c.identifier.ensures
