use Rattle.std.proofs.Common.{Some, refl, sym, subst}
use Rattle.hol_syntax_grammar.specs.declared.term_reader.Open.TheVariants.{Argument as ArgumentHere}
use Rattle.hol_syntax_grammar.specs.PieceStates.{IsPieceOf}
use Rattle.hol_syntax_grammar.specs.TermReader.{Parenthesis, turn}
use Rattle.hol_syntax_grammar.specs.TermStates.{Takes}
use Rattle.hol_syntax_grammar.proofs.TermReaderStates.{opens_place, open_piece}
use Rattle.hol_syntax_grammar.proofs.term_reader.TermReader.go_on.Goals as goal

pub returns-in-Open : goal.returns-in-Open
returns-in-Open c = λ opens t lexeme h p.
    subst (λ l. Takes c.open_place.result c.open_place.new.self (turn l opens (Some t))) (sym (open_piece lexeme (subst (λ x. IsPieceOf x lexeme) c.in-Open.is p)))
    (opens_place _ c.args.self.now _ opens ArgumentHere (Parenthesis (Some t)) c.open_place.ensures h.places_are refl h.steps_are)
