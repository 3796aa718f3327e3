use Rattle.std.proofs.Common.{[], sym, ap, ◌∙◌, subst}
use Rattle.std.proofs.lemmas.Bool.{eqb-true}
use Rattle.std.proofs.lemmas.List.{nil_from_length}
use Rattle.hol_syntax_grammar.specs.TermReader.{run, close}
use Rattle.hol_syntax_grammar.specs.TermStates.{IsState}
use Rattle.hol_syntax_grammar.proofs.TermReaderStates.{is_there, ends_whole}
use Rattle.hol_syntax_grammar.proofs.term_reader.TermReader.finish.Goals as goal

pub returns-then-is_empty : goal.returns-then-is_empty
returns-then-is_empty c = λ opens current h.
    let there = is_there current (sym h.complete_is ∙ c.if-not-self.false) in
    let end = ends_whole c.close.new.self (close 0 opens there.0) (c.in_ok-close.ensures opens there.0 (subst (λ x. IsState c.args.self.now opens x) there.1 h))
    (nil_from_length _ (sym c.close.new.self.opens.ok.0 ∙ eqb-true _ _ (sym c.if-is_empty.ensures))) in
    (end.0, ap (run [] opens) there.1 ∙ end.1, end.2)
