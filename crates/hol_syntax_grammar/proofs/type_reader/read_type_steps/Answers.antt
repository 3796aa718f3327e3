use Rattle.std.proofs.Common.{[], None, Some, refl, sym, ap, ◌∙◌, add-one, drop}
use Rattle.std.proofs.lemmas.Result.{err_from_is_err_and}
use Rattle.hol_syntax_grammar.specs.Views.{tokens_of, steps_of}
use Rattle.hol_syntax_grammar.specs.TypeReader.{run}
use Rattle.hol_syntax_grammar.proofs.TypeRuns.{rest_at, goes, ends, fails}
use Rattle.hol_syntax_grammar.proofs.type_reader.read_type_steps.Goals as goal

pub returns-then-not-branch : goal.returns-then-not-branch
returns-then-not-branch c =
    let i = c.loop-i.invariant in
    let here = rest_at c.args.tokens.now c.loop-i.i _ c.loop-i-test.true in
    let end = ends _ _ _ i.0 i.1 c.turn.new.self c.in_ok-turn.field-0 c.type_role.ensures (c.in_ok-turn.ensures i.0 i.1 i.2) c.if-not-branch.true in
    (end.0, sym i.3 ∙ ap (λ r. run r i.0 i.1) here ∙ end.1 ∙ ap (λ r. Some (end.0, r)) (sym here), end.2)

pub returns-in_err-turn : goal.returns-in_err-turn
returns-in_err-turn c =
    let i = c.loop-i.invariant in
    let here = rest_at c.args.tokens.now c.loop-i.i _ c.loop-i-test.true in
    let p = err_from_is_err_and c.from_residual.result c.from_residual.ensures.1 in
    rw (p.1, p.2)
    (fails _ _ _ _ i.0 i.1 c.turn.new.self c.in_err-turn.field-0.0 c.type_role.ensures (c.in_err-turn.ensures i.0 i.1 i.2) (sym (ap (λ r. run r i.0 i.1) here) ∙ i.3))

pub loop-i-preserved : goal.loop-i-preserved
loop-i-preserved c =
    let i = c.loop-i.invariant in
    let here = rest_at c.args.tokens.now c.loop-i.i _ c.loop-i-test.true in
    let next = goes _ _ _ i.0 i.1 c.turn.new.self c.in_ok-turn.field-0 c.type_role.ensures (c.in_ok-turn.ensures i.0 i.1 i.2) c.if-not-branch.false in (
      next.0,
      next.1,
      next.2,
      ap (λ k. run (drop k (tokens_of c.args.tokens.now)) next.0 next.1) (add-one c.loop-i.i) ∙ sym next.3 ∙ sym (ap (λ r. run r i.0 i.1) here) ∙ i.3,
    )

pub loop-i-init : goal.loop-i-init
loop-i-init c = ([], None, record { frames_are = c.new.ensures.items; steps_are = ap steps_of c.new-2.ensures.items; complete_is = refl }, refl)
