use Rattle.std.proofs.Common.{◌∷◌, ap, refl, ◌∙◌}
use Rattle.hol_model.specs.Texts.TermGrammar.{AtomPiece, Bare}
use Rattle.hol_syntax_grammar.specs.Pieces.{piece_at}
use Rattle.hol_syntax_grammar.specs.Views.{token_of, tokens_of}
use Rattle.hol_syntax_grammar.proofs.piece_reader.take_piece.Goals as goal

pub returns-in-Name : goal.returns-in-Name
returns-in-Name c =
    (AtomPiece (Bare c.in-Name.name.now), ap piece_at (c.in-Some.ensures ∙ ap (λ t. token_of t ∷ tokens_of c.in-Some.rest.now) c.in-Name.is), refl)
