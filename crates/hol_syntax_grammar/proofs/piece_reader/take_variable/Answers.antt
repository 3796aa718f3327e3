use Rattle.std.proofs.Common.{ap}
use Rattle.hol_model.specs.Texts.TermGrammar.{AtomPiece, Variable}
use Rattle.hol_syntax_grammar.specs.Pieces.{made}
use Rattle.hol_syntax_grammar.specs.TermSteps.{FlatVariable}
use Rattle.hol_syntax_grammar.proofs.piece_reader.take_variable.Goals as goal

pub returns : goal.returns
returns c =
    let found = c.in_ok-steps.ensures in
    (AtomPiece (Variable c.args.name.now found.0), ap (made (λ tree. AtomPiece (Variable c.args.name.now tree))) found.1, ap (FlatVariable c.args.name.now) found.2)
