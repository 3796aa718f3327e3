use Rattle.std.proofs.Common.{refl, ◌∙◌}
use Rattle.hol_syntax_grammar.proofs.TermReaderStates.{closes_none, closes_one}
use Rattle.hol_syntax_grammar.proofs.term_reader.TermReader.close.Goals as goal

pub loop-waiting-preserved : goal.loop-waiting-preserved
loop-waiting-preserved c = λ opens t h.
    let s = c.loop-waiting.invariant opens t h in
    let one = closes_one c.args.level c.loop-waiting.self (record { opens = c.pop_waiting.new.opens; steps = c.push.new.self; complete = c.loop-waiting.self.complete })
    s.0 s.1 c.in-Some.waiting c.step_made.result s.3 c.in-Some.ensures.0 c.in-Some.ensures.1 c.step_made.ensures c.in_ok-push.ensures.items refl in
    (one.0, one.1, one.2 ∙ s.2, one.3)

pub returns : goal.returns
returns c = λ opens t h.
    let s = c.loop-waiting.invariant opens t h in
    closes_none c.args.level c.loop-waiting.self _ opens s.0 t s.1 s.2 s.3 c.in_default.ensures.1 c.in_default.ensures.0 refl refl
