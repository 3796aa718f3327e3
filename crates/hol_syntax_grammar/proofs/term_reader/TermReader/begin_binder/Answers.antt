use Rattle.std.proofs.Common.{◌≡◌, map, refl, sym, ap, ◌∙◌, subst, arith}
use Rattle.std.proofs.lemmas.Bool.{eq-eqb, ne_eqb}
use Rattle.hol_syntax_grammar.specs.declared.term_reader.Waiting.TheVariants.{Body}
use Rattle.hol_syntax_grammar.specs.declared.term_reader.Open.TheVariants.{Waits as WaitsHere}
use Rattle.hol_syntax_grammar.specs.Grammar.{binder_here}
use Rattle.hol_syntax_grammar.specs.Steps.{flat_steps_of}
use Rattle.hol_syntax_grammar.specs.TermSteps.{EnterBinder}
use Rattle.hol_syntax_grammar.specs.TermReader.{Waits, BodyOf, floor, if_so, open_one}
use Rattle.hol_syntax_grammar.specs.TermStates.{open_here, steps_before, Takes}
use Rattle.hol_syntax_grammar.proofs.TermReaderStates.{floor_known, opens_place, pushed}
use Rattle.hol_syntax_grammar.proofs.term_reader.TermReader.begin_binder.Goals as goal

pub returns-then-floor-gt0 : goal.returns-then-floor-gt0
returns-then-floor-gt0 c = λ opens name tree h is.
    let level : c.floor.result ≡ floor opens = floor_known c.floor.result c.deref.result.now opens c.floor.ensures (ap (map open_here) c.deref.ensures.value ∙ h.places_are) in
    ap (λ b. if_so b (open_one (Waits (BodyOf (binder_here c.args.quantifier) name tree)) opens)) (ne_eqb (floor opens) 0 (λ e. omega (arith, level, e, c.if-floor-gt0.true)))

pub returns : goal.returns
returns c = λ opens name tree h is.
    let level : c.floor.result ≡ floor opens = floor_known c.floor.result c.deref.result.now opens c.floor.ensures (ap (map open_here) c.deref.ensures.value ∙ h.places_are) in
    let o = Waits (BodyOf (binder_here c.args.quantifier) name tree) in
    let low : floor opens ≡ 0 = omega (arith, level, c.if-floor-gt0.false) in
    subst (λ w. Takes c.open_place.result c.open_place.new.self w) (sym (ap (λ b. if_so b (open_one o opens)) (eq-eqb (floor opens) 0 low)))
    (opens_place c.open_place.result (record { opens = c.args.self.now.opens; steps = c.push.new.self; complete = c.args.self.now.complete }) c.open_place.new.self opens
    (WaitsHere (Body c.args.quantifier)) o c.open_place.ensures h.places_are refl
    (ap flat_steps_of c.in_ok-push.ensures.items ∙ pushed c.args.self.now.steps.items (steps_before opens) c.args.step (EnterBinder name tree) h.steps_are is))
