use Rattle.std.proofs.Common.{refl, None, sym, subst}
use Rattle.hol_syntax_grammar.specs.declared.term_reader.Waiting.TheVariants.{Not}
use Rattle.hol_syntax_grammar.specs.declared.term_reader.Open.TheVariants.{Parenthesis as ParenthesisHere, Waits as WaitsHere}
use Rattle.hol_syntax_grammar.specs.TermReader.{Parenthesis, Waits, NotOf, turn}
use Rattle.hol_syntax_grammar.specs.PieceStates.{IsPieceOf}
use Rattle.hol_syntax_grammar.specs.TermStates.{Takes}
use Rattle.hol_syntax_grammar.proofs.TermReaderStates.{opens_alone, open_piece, not_piece}
use Rattle.hol_syntax_grammar.proofs.term_reader.TermReader.begin.Goals as goal

pub returns-in-Open : goal.returns-in-Open
returns-in-Open c = λ opens lexeme h p.
    subst (λ l. Takes c.open_place.result c.open_place.new.self (turn l opens None)) (sym (open_piece lexeme (subst (λ x. IsPieceOf x lexeme) c.in-Open.is p)))
    (opens_alone _ c.args.self.now _ opens ParenthesisHere (Parenthesis None) c.open_place.ensures h refl refl)

pub returns-in-Not : goal.returns-in-Not
returns-in-Not c = λ opens lexeme h p.
    subst (λ l. Takes c.open_place-in-Not.result c.open_place-in-Not.new.self (turn l opens None)) (sym (not_piece lexeme (subst (λ x. IsPieceOf x lexeme) c.in-Not.is p)))
    (opens_alone _ c.args.self.now _ opens (WaitsHere Not) (Waits NotOf) c.open_place-in-Not.ensures h refl refl)
