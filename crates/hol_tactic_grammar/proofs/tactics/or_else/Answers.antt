use Rattle.std.proofs.Common.{◌≡◌, ◌∙◌, rules}
use Rattle.hol_tactic_grammar.specs.Expressions.{expression_here}
use Rattle.hol_tactic_grammar.proofs.Rows.{orelse_means}
use Rattle.hol_tactic_grammar.proofs.TacticLemmas.{or_else-several}
use Rattle.hol_tactic_grammar.proofs.tactics.or_else.Goals as goal

pub returns : goal.returns
returns c =
    let value : c.in_ok-new.field-0.value ≡ c.args.first = search rules in
    let same = or_else-several (expression_here c.args.first) c.args.others.items c.args.others.len c.args.others.ok.0 c.if-is_empty.ensures in
    orelse_means c.in_ok-new.field-0 c.args.others ∙ rw value same
