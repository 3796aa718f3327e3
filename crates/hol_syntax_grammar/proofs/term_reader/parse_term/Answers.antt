use Rattle.std.proofs.Common.{[], None, refl, ap, map, arith}
use Rattle.std.proofs.lemmas.Result.{err_from_is_err_and}
use Rattle.hol_syntax_grammar.specs.Views.{tokens_of}
use Rattle.hol_syntax_grammar.specs.Steps.{flat_steps_of}
use Rattle.hol_syntax_grammar.specs.TermStates.{open_here}
use Rattle.hol_syntax_grammar.proofs.TermRuns.{reached_start, steps_on, stops_here, at_end, ends_read, ends_unread}
use Rattle.hol_syntax_grammar.proofs.term_reader.parse_term.Goals as goal

pub loop-at-init : goal.loop-at-init
loop-at-init c = (
  [],
  None,
  record { places_are = ap (map open_here) c.new.ensures.items; steps_are = ap flat_steps_of c.new-2.ensures.items; complete_is = refl },
  reached_start (tokens_of c.args.tokens.now),
  omega arith,
)

pub loop-at-preserved : goal.loop-at-preserved
loop-at-preserved c =
    let i = c.loop-at.invariant in
    (steps_on c.args.tokens.now c.loop-at.at c.in_ok-at.field-0 c.take.new.self i.0 i.1 i.4 i.3 (c.in_ok-at.ensures i.0 i.1 i.2)).0

pub loop-at-smaller : goal.loop-at-smaller
loop-at-smaller c =
    let i = c.loop-at.invariant in
    let on = steps_on c.args.tokens.now c.loop-at.at c.in_ok-at.field-0 c.take.new.self i.0 i.1 i.4 i.3 (c.in_ok-at.ensures i.0 i.1 i.2) in
    omega (arith, on.0.4, on.1)

pub overflow_add-at : goal.overflow_add-at
overflow_add-at c =
    let i = c.loop-at.invariant in
    let on = steps_on c.args.tokens.now c.loop-at.at c.in_ok-at.field-0 c.take.new.self i.0 i.1 i.4 i.3 (c.in_ok-at.ensures i.0 i.1 i.2) in
    omega (arith, on.0.4)

pub returns-in_err-at : goal.returns-in_err-at
returns-in_err-at c =
    let i = c.loop-at.invariant in
    let p = err_from_is_err_and c.from_residual.result c.from_residual.ensures.1 in
    rw (p.1, p.2)
    (stops_here c.args.tokens.now c.loop-at.at c.in_err-at.field-0.0 c.take.new.self i.0 i.1 (omega arith) i.3 (c.in_err-at.ensures i.0 i.1 i.2))

pub returns : goal.returns
returns c =
    let i = c.loop-at.invariant in
    let whole = c.in_ok-finish.ensures i.0 i.1 i.2 in
    (whole.0, ends_read (tokens_of c.args.tokens.now) i.0 i.1 whole.0 (at_end c.args.tokens.now c.loop-at.at i.0 i.1 (omega arith) i.3) whole.1, whole.2)

pub returns-in_err-finish : goal.returns-in_err-finish
returns-in_err-finish c =
    let i = c.loop-at.invariant in
    let p = err_from_is_err_and c.from_residual-in_err-finish.result c.from_residual-in_err-finish.ensures.1 in
    rw (p.1, p.2)
    (ends_unread c.in_err-finish.field-0.0 c.finish.new.self (tokens_of c.args.tokens.now) i.0 i.1 (at_end c.args.tokens.now c.loop-at.at i.0 i.1 (omega arith) i.3)
    (c.in_err-finish.ensures i.0 i.1 i.2))
