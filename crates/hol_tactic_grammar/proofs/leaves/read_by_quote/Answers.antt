use Rattle.std.proofs.lemmas.Result.{err_from_is_err_and}
use Rattle.hol_syntax_grammar.specs.Steps.{flat_steps_of}
use Rattle.hol_tactic_grammar.specs.Expressions.{expression_here}
use Rattle.hol_tactic_grammar.proofs.LeafLemmas.{quoted-at, unquoted-at}
use Rattle.hol_tactic_grammar.proofs.leaves.read_by_quote.Goals as goal

pub returns : goal.returns
returns c = λ room. quoted-at c.args.tactic (flat_steps_of c.in_ok-steps.steps.items) c.args.at c.in_ok-steps.next room c.args.tokens.now (expression_here c.quoted_tactic.result) c.requires
    c.in_ok-steps.ensures.0 c.in_ok-steps.ensures.1 c.quoted_tactic.ensures

pub returns-in_err-steps : goal.returns-in_err-steps
returns-in_err-steps c =
    let p = err_from_is_err_and c.from_residual.result c.from_residual.ensures.1 in
    rw (p.1, p.2) (λ room.
    unquoted-at c.args.tactic c.in_err-steps.field-0.0 c.args.at room c.args.tokens.now c.requires c.in_err-steps.ensures)
