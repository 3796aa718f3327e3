use Rattle.std.specs.String.{string_bytes}
use Rattle.std.proofs.lemmas.Result.{err_from_is_err_and}
use Rattle.hol_tactic_grammar.specs.Expressions.{expression_here}
use Rattle.hol_tactic_grammar.proofs.LeafLemmas.{named-at, unnamed-at}
use Rattle.hol_tactic_grammar.proofs.leaves.read_by_name.Goals as goal

pub returns : goal.returns
returns c = λ room. named-at c.args.tactic (string_bytes c.in_ok-name.name) c.args.at room c.args.tokens.now (expression_here c.named_tactic.result) c.requires.front c.in_ok-name.ensures
    c.named_tactic.ensures

pub returns-in_err-name : goal.returns-in_err-name
returns-in_err-name c =
    let p = err_from_is_err_and c.from_residual.result c.from_residual.ensures.1 in
    rw (p.1, p.2) (λ room.
    unnamed-at c.args.tactic c.in_err-name.field-0.0 c.args.at room c.args.tokens.now c.requires.front c.in_err-name.ensures)
