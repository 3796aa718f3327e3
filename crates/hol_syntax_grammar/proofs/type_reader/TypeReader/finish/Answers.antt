use Rattle.std.proofs.Common.{sym, ◌∙◌}
use Rattle.std.proofs.lemmas.Bool.{eqb-true}
use Rattle.std.proofs.lemmas.List.{nil_from_length}
use Rattle.hol_syntax_grammar.proofs.TypeReaderStates.{ends_finished}
use Rattle.hol_syntax_grammar.proofs.type_reader.TypeReader.finish.Goals as goal

pub returns-then-is_empty : goal.returns-then-is_empty
returns-then-is_empty c = λ opens t h. ends_finished c.close.new.self _ (c.in_ok-close.ensures opens t h)
    (nil_from_length _ (sym c.close.new.self.opens.ok.0 ∙ eqb-true _ _ (sym c.if-is_empty.ensures)))
