use Rattle.std.proofs.Common.{◌≡◌, ◌∙◌, rules}
use Rattle.hol_tactic_grammar.specs.Expressions.{expression_here}
use Rattle.hol_tactic_grammar.proofs.Rows.{chain_means}
use Rattle.hol_tactic_grammar.proofs.TacticLemmas.{then_on-several}
use Rattle.hol_tactic_grammar.proofs.tactics.then_on.Goals as goal

pub returns : goal.returns
returns c =
    let value : c.in_ok-new.field-0.value ≡ c.args.first = search rules in
    let same = then_on-several (expression_here c.args.first) c.args.links.items c.args.links.len c.args.links.ok.0 c.if-is_empty.ensures in
    chain_means c.in_ok-new.field-0 c.args.links ∙ rw value same
