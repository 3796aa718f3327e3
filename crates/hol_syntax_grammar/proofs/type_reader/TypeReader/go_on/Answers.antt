use Rattle.std.proofs.Common.{Some, sym, subst}
use Rattle.hol_syntax_grammar.specs.TypeReader.{turn}
use Rattle.hol_syntax_grammar.specs.Views.{role_of}
use Rattle.hol_syntax_grammar.specs.TypeStates.{Takes}
use Rattle.hol_syntax_grammar.proofs.TypeReaderStates.{opens_arrow}
use Rattle.hol_syntax_grammar.proofs.type_reader.TypeReader.go_on.Goals as goal

pub returns-in-Continues : goal.returns-in-Continues
returns-in-Continues c = λ opens t h.
    subst (λ r. Takes c.open_place.result c.open_place.new.self (turn (role_of r) opens (Some t))) (sym c.in-Continues.is) (opens_arrow _ _ _ opens t c.open_place.ensures h)
