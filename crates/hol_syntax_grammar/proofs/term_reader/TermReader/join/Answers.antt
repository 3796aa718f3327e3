use Rattle.std.proofs.Common.{◌+◌, Some, refl, subst}
use Rattle.hol_model.specs.Texts.TermGrammar.{infix_level}
use Rattle.hol_syntax_grammar.specs.declared.term_reader.Waiting.TheVariants.{Right}
use Rattle.hol_syntax_grammar.specs.declared.term_reader.Open.TheVariants.{Waits as WaitsHere}
use Rattle.hol_syntax_grammar.specs.Grammar.{infix_here}
use Rattle.hol_syntax_grammar.specs.TermReader.{Waits, RightOf, close}
use Rattle.hol_syntax_grammar.specs.TermStates.{IsState}
use Rattle.hol_syntax_grammar.proofs.TermReaderStates.{opens_place}
use Rattle.hol_syntax_grammar.proofs.term_reader.TermReader.join.Goals as goal

pub returns : goal.returns
returns c = λ opens t h.
    let state = subst (λ n. IsState c.close.new.self (close (n + 1) opens t).0 (Some (close (n + 1) opens t).1)) c.level.ensures.value (c.in_ok-close.ensures opens t h) in
    let i = infix_here c.args.operation in
    let x = close (infix_level i + 1) opens t in
    opens_place c.open_place.result c.close.new.self c.open_place.new.self x.0 (WaitsHere (Right c.args.operation)) (Waits (RightOf i x.1)) c.open_place.ensures
    state.places_are refl state.steps_are
