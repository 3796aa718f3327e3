use Rattle.std.proofs.Common.{◌∷◌, ap, refl, ◌∙◌}
use Rattle.hol_model.specs.Texts.TermGrammar.{BinderPiece}
use Rattle.hol_syntax_grammar.specs.Grammar.{binder_here}
use Rattle.hol_syntax_grammar.specs.Pieces.{made, binder_piece}
use Rattle.hol_syntax_grammar.specs.TermSteps.{FlatEnter}
use Rattle.hol_syntax_grammar.specs.Views.{token_of, tokens_of}
use Rattle.hol_syntax_grammar.proofs.piece_reader.take_binder.Goals as goal

pub returns : goal.returns
returns c =
    let found = c.in_ok-steps.ensures in
    let q = binder_here c.args.binder in (
      BinderPiece q c.in-Name.name.now found.0,
      ap (binder_piece q) (c.in-Some.ensures ∙ ap (λ t. token_of t ∷ tokens_of c.in-Some.rest.now) c.in-Name.is) ∙ ap (made (BinderPiece q c.in-Name.name.now)) found.1,
      (refl, ap (FlatEnter c.in-Name.name.now) found.2),
    )
