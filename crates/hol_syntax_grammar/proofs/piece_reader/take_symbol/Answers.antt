use Rattle.std.proofs.Common.{ap, refl}
use Rattle.hol_model.specs.Texts.TermGrammar.{InfixPiece, IffInfix, ImpliesInfix, OrInfix, AndInfix, EqualInfix}
use Rattle.hol_syntax_grammar.specs.Pieces.{started, symbol_start}
use Rattle.hol_syntax_grammar.specs.Views.{tokens_of}
use Rattle.hol_syntax_grammar.proofs.piece_reader.take_symbol.Goals as goal

pub returns-in-Iff : goal.returns-in-Iff
returns-in-Iff c = (InfixPiece IffInfix, ap (λ s. started (symbol_start s) (tokens_of c.args.rest.now)) c.in-Iff.is, refl)

pub returns-in-Implies : goal.returns-in-Implies
returns-in-Implies c = (InfixPiece ImpliesInfix, ap (λ s. started (symbol_start s) (tokens_of c.args.rest.now)) c.in-Implies.is, refl)

pub returns-in-Or : goal.returns-in-Or
returns-in-Or c = (InfixPiece OrInfix, ap (λ s. started (symbol_start s) (tokens_of c.args.rest.now)) c.in-Or.is, refl)

pub returns-in-And : goal.returns-in-And
returns-in-And c = (InfixPiece AndInfix, ap (λ s. started (symbol_start s) (tokens_of c.args.rest.now)) c.in-And.is, refl)

pub returns-in-Equal : goal.returns-in-Equal
returns-in-Equal c = (InfixPiece EqualInfix, ap (λ s. started (symbol_start s) (tokens_of c.args.rest.now)) c.in-Equal.is, refl)
