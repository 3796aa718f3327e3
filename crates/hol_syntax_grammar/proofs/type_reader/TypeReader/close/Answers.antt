use Rattle.std.proofs.Common.{refl, ◌∙◌}
use Rattle.hol_syntax_grammar.proofs.TypeReaderStates.{closes_none, closes_one}
use Rattle.hol_syntax_grammar.proofs.type_reader.TypeReader.close.Goals as goal

pub loop-self-preserved : goal.loop-self-preserved
loop-self-preserved c = λ opens t h.
    let s = c.loop-self.invariant opens t h in
    let one = closes_one c.loop-self.self (record { opens = c.pop_arrow.new.opens; steps = c.push.new.self; complete = c.loop-self.self.complete })
    s.0 s.1 s.3 c.loop-self-test.ensures c.in_ok-push.ensures.items refl in
    (one.0, one.1, one.2 ∙ s.2, one.3)

pub returns : goal.returns
returns c = λ opens t h.
    let s = c.loop-self.invariant opens t h in
    closes_none c.loop-self.self _ opens s.0 t s.1 s.2 s.3 c.loop-self-test.ensures.1 c.loop-self-test.ensures.0 refl refl
