use Rattle.std.proofs.Common.{Some, ap, ◌∙◌}
use Rattle.hol_syntax_grammar.proofs.TermRuns.{counted_here}
use Rattle.hol_syntax_grammar.proofs.term_reader.TermReader.take.Goals as goal

pub overflow_sub-result : goal.overflow_sub-result
overflow_sub-result c = (counted_here c.args.tokens.now c.in_ok-piece.rest.now c.in_ok-piece.ensures.0 c.in_ok-piece.ensures.1).0

pub returns : goal.returns
returns c = λ opens current h.
    let taken = c.in_ok-piece.ensures in
    let went = c.in_ok-turn.ensures opens current taken.0 h taken.2 in
    let n = (counted_here c.args.tokens.now c.in_ok-piece.rest.now taken.0 taken.1).1 in
    (taken.0, went.0, went.1, taken.1 ∙ ap (λ l. Some (taken.0, l)) n.left, went.2, went.3, n.some, n.within)
