use Rattle.std.proofs.Common.{refl, None, true, ap, ◌∙◌, sym, subst}
use Rattle.hol_syntax_grammar.specs.TypeReader.{turn}
use Rattle.hol_syntax_grammar.specs.Views.{role_of}
use Rattle.hol_syntax_grammar.specs.TypeStates.{Takes}
use Rattle.hol_syntax_grammar.proofs.TypeReaderStates.{opens_parenthesis, takes_name}
use Rattle.hol_syntax_grammar.proofs.type_reader.TypeReader.begin.Goals as goal

pub returns-in_ok-push-in-Name : goal.returns-in_ok-push-in-Name
returns-in_ok-push-in-Name c = λ opens h.
    let taken = takes_name c.args.self.now (record { opens = c.args.self.now.opens; steps = c.push.new.self; complete = true }) opens c.in-Name.bytes h refl c.in_ok-push-in-Name.ensures.items refl in
    (taken.0, taken.1, ap (λ r. turn (role_of r) opens None) c.in-Name.is ∙ taken.2, taken.3)

pub returns-in-Opens : goal.returns-in-Opens
returns-in-Opens c = λ opens h.
    subst (λ r. Takes c.open_place.result c.open_place.new.self (turn (role_of r) opens None)) (sym c.in-Opens.is) (opens_parenthesis _ _ _ opens c.open_place.ensures h)
