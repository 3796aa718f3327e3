use Rattle.std.proofs.Common.{◌+◌, Some, drop, ◌∙◌, ap, sym, add-one, arith}
use Rattle.hol_syntax_grammar.specs.Views.{tokens_of}
use Rattle.hol_syntax_grammar.specs.PieceStates.{ending_here}
use Rattle.hol_syntax_grammar.proofs.PieceReading.{type_taken, rest_whole}
use Rattle.hol_syntax_grammar.proofs.piece_reader.take_type.Goals as goal

pub returns-then-not-ends : goal.returns-then-not-ends
returns-then-not-ends c =
    let found = c.in_ok-steps.ensures in
    type_taken (ending_here c.args.wanted) c.args.tokens.now c.in_ok-steps.count _ found.0 _ found.1 (omega arith) c.if-not-ends.ensures

pub returns : goal.returns
returns c =
    let found = c.in_ok-steps.ensures in (
      found.0,
      type_taken (ending_here c.args.wanted) c.args.tokens.now c.in_ok-steps.count _ found.0 _ found.1 (omega arith) c.if-not-ends.ensures
          ∙ ap (λ r. Some (found.0, tokens_of r)) (sym (rest_whole (c.in_ok-steps.count + 1) c.args.tokens.now ∙ ap (λ i. drop i c.args.tokens.now) (add-one c.in_ok-steps.count))),
      found.2,
    )
