use Rattle.std.proofs.Common.{[], ◌∷◌, ◌++◌, refl, sym, ap, ◌∙◌}
use Rattle.std.proofs.lemmas.List.{nil_from_length}
use Rattle.hol_syntax_grammar.proofs.TypeReaderStates.{ends_closed, encloses}
use Rattle.hol_syntax_grammar.proofs.type_reader.TypeReader.enclose.Goals as goal

pub returns-in-None : goal.returns-in-None
returns-in-None c = λ opens t h. ends_closed c.close.new.self _ (c.in_ok-close.ensures opens t h) (nil_from_length _ (sym c.close.new.self.opens.ok.0 ∙ c.in-None.ensures.cases.0))

pub returns-in-Some-Parenthesis : goal.returns-in-Some-Parenthesis
returns-in-Some-Parenthesis c = λ opens t h. encloses c.close.new.self _ _ (c.in_ok-close.ensures opens t h)
    (c.in-Some-Parenthesis.ensures.items ∙ ap (λ x. c.pop.new.self.items ++ x ∷ []) c.in-Some-Parenthesis.field-0-is) refl refl
