use Rattle.std.proofs.Common.{[], ◌∷◌, ◌++◌, refl, ap, ◌∙◌}
use Rattle.hol_syntax_grammar.specs.declared.steps.TermStep.TheVariants.{Apply}
use Rattle.hol_syntax_grammar.proofs.TermReaderStates.{encloses, encloses_argument}
use Rattle.hol_syntax_grammar.proofs.term_reader.TermReader.enclose.Goals as goal

pub returns-in-Some-Parenthesis : goal.returns-in-Some-Parenthesis
returns-in-Some-Parenthesis c = λ opens t h. encloses c.close.new.self _ _ (c.in_ok-close.ensures opens t h)
    (c.in-Some-Parenthesis.ensures.items ∙ ap (λ x. c.pop.new.self.items ++ x ∷ []) c.in-Some-Parenthesis.field-0-is) refl refl

pub returns-in_ok-push-in-Some-Argument : goal.returns-in_ok-push-in-Some-Argument
returns-in_ok-push-in-Some-Argument c = λ opens t h. encloses_argument c.close.new.self _ _ Apply (c.in_ok-close.ensures opens t h)
    (c.in-Some-Argument.ensures.items ∙ ap (λ x. c.pop.new.self.items ++ x ∷ []) c.in-Some-Argument.field-0-is) refl c.in_ok-push-in-Some-Argument.ensures.items refl
