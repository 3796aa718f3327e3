use Rattle.std.proofs.Common.{ap, ◌∙◌}
use Rattle.hol_model.specs.Texts.Token.{token_text}
use Rattle.hol_model.specs.Texts.TermGrammar.{AtomPiece, Constant}
use Rattle.hol_syntax_grammar.specs.Pieces.{made, bracket_piece, when, typed, EndsConstant}
use Rattle.hol_syntax_grammar.specs.TermSteps.{FlatConstant}
use Rattle.hol_syntax_grammar.specs.Views.{token_of, tokens_of, steps_of}
use Rattle.hol_syntax_grammar.proofs.piece_reader.take_bracket.Goals as goal

pub returns : goal.returns
returns c =
    let found = c.in_ok-steps.ensures in
    let token = token_of c.in-Some.token in (
      AtomPiece (Constant token found.0),
      ap bracket_piece c.in-Some.ensures
          ∙ ap (λ b. when b (made (λ tree. AtomPiece (Constant token tree)) (typed EndsConstant (tokens_of c.in-Some.rest.now)))) c.in-Some-constant_name.ensures.1
          ∙ ap (made (λ tree. AtomPiece (Constant token tree))) found.1,
      ap (λ n. FlatConstant n (steps_of c.in_ok-steps.steps.items)) c.in-Some-constant_name.ensures.0 ∙ ap (FlatConstant (token_text token)) found.2,
    )
