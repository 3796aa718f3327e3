use Rattle.std.proofs.Common.{rules, refl, sym, ap, arith, ◌∙◌, ◌<◌, ◌≡◌, List, Ok}
use Rattle.std.proofs.lemmas.List.{drop_all}
use Rattle.std.proofs.lemmas.Result.{err_from_is_err_and}
use Rattle.hol_model.specs.declared.fault.Fault.TheVariants.{Memory}
use Rattle.hol_model.specs.declared.limits.TheConstants.{DESCENTS_LIMIT}
use Rattle.hol_model.specs.Terms.NamedTerm.{combination}
use Rattle.hol_model.specs.Refining.Conversions.{first_is_refused, first_answers}
use Rattle.hol_laws_refiners.proofs.Chains.{thenc_start, thenc_end}
use Rattle.hol_laws_refiners.proofs.Repeating.{joined_defined, joined_tried}
use Rattle.hol_tactic_exprs.specs.declared.conv.Conv.{Conv}
use Rattle.hol_conv.proofs.Making.{makes_nothing}
use Rattle.hol_conv.specs.Leaves.{with_leaves, stands_for, thenc_of, orelsec_of}
use Rattle.hol_conv.specs.Chains.{proved_by}
use Rattle.hol_conv.proofs.Sizes.{size, size_of, sizes_of, size_in}
use Rattle.hol_conv.proofs.Expressions.{then_stands, or_else_stands, then_size, or_else_size, rest-drop}
use Rattle.hol_conv.proofs.Choosing.{chooses_next, chooses_answer, chooses_stop, chooses_end}
use Rattle.hol_conv.proofs.Chaining.{chain-later}
use Rattle.hol_conv.proofs.Asking.{of-argument, known-later, asks-now, asks-later, answers-after, still-answers, held-answer}
use Rattle.hol_conv.proofs.Asking.{side-later, equation-later, carried, carried-answer, carried-behind, continued-twice}
use Rattle.hol_conv.proofs.Answering.{is-equation, reflects-leaf, first-part-refused, parts-too-deep, rand-refused, rator-refused, abs-refused}
use Rattle.hol_conv.proofs.Arms.{argument-arm, function-arm, body-arm, parts-arm, try-arm, once-arm, once-answers, once-stops, depth-arm, depth-stops, thenc-on, thenc-off, thenc-equation}
use Rattle.hol_conv.proofs.Arms.{first-on, first-off, link-on, link-off, link-stop, link-costs, link-equations, changed-arm, changed-makes, as-conv, sub-as-abs, starved-behind}
use Rattle.hol_conv.proofs.Arms.{top-refused, top-tried, top-ends, top-on, top-below}
use Rattle.hol_conv.proofs.converting.Level.«+converted».Goals as goal

pub converted-thenc-requires : goal.converted-thenc-requires
converted-thenc-requires g t c =
    let sized = ap size_of c.in-Then.is ∙ then_size c.in-Then.first c.in-Then.others in
    let first = ap size_of c.deref.ensures in
    let others = ap sizes_of c.deref-in-Then.ensures.value in
    search rules

pub converted-orelsec-requires : goal.converted-orelsec-requires
converted-orelsec-requires g t c =
    let sized = ap size_of c.in-OrElse.is ∙ or_else_size c.in-OrElse.first c.in-OrElse.others in
    let first = ap size_of c.deref-in-OrElse.ensures in
    let others = ap sizes_of c.deref-in-OrElse-2.ensures.value in
    search rules

pub converted-returns-in-Then-clause-converts : goal.converted-returns-in-Then-clause-converts
converted-returns-in-Then-clause-converts g t c =
    let whole = ap (stands_for (g.L.Leaves.means c.args.self.now.leaves.now)) c.in-Then.is ∙ then_stands (g.L.Leaves.means c.args.self.now.leaves.now) c.in-Then.first c.in-Then.others in
    let first = ap (λ (first : Conv). thenc_of (g.L.Leaves.means c.args.self.now.leaves.now) first c.deref-in-Then.result.now) c.deref.ensures in
    let others = ap (λ (others : List Conv). thenc_of (g.L.Leaves.means c.args.self.now.leaves.now) c.in-Then.first.value others) c.deref-in-Then.ensures.value in
    as-conv (whole ∙ sym (first ∙ others)) c.thenc.ensures.converts

pub converted-returns-in-OrElse-clause-converts : goal.converted-returns-in-OrElse-clause-converts
converted-returns-in-OrElse-clause-converts g t c =
    let whole = ap (stands_for (g.L.Leaves.means c.args.self.now.leaves.now)) c.in-OrElse.is ∙ or_else_stands (g.L.Leaves.means c.args.self.now.leaves.now) c.in-OrElse.first c.in-OrElse.others in
    let first = ap (λ (first : Conv). orelsec_of (g.L.Leaves.means c.args.self.now.leaves.now) first c.deref-in-OrElse-2.result.now) c.deref-in-OrElse.ensures in
    let others = ap (λ (others : List Conv). orelsec_of (g.L.Leaves.means c.args.self.now.leaves.now) c.in-OrElse.first.value others) c.deref-in-OrElse-2.ensures.value in
    as-conv (whole ∙ sym (first ∙ others)) c.orelsec.ensures.converts

pub converted-returns-in-Try-clause-converts : goal.converted-returns-in-Try-clause-converts
converted-returns-in-Try-clause-converts g t c =
    let made = rw c.deref-in-Try.ensures at c.converted-made.ensures.converts in
    rw (c.in-Prefixed.is, c.in-Try.is) (try-arm c.or_same.result made c.converted-made.ensures.makes c.or_same.ensures.tries)

pub thenc-returns-in_err-made-clause-converts : goal.thenc-returns-in_err-made-clause-converts
thenc-returns-in_err-made-clause-converts g t c =
    let p = err_from_is_err_and c.from_residual.result c.from_residual.ensures.1 in
    rw (p.1, p.2)
    (first_is_refused c.in_err-made.ensures.converts)

pub thenc-loop-other-init : goal.thenc-loop-other-init
thenc-loop-other-init g t c =
    let makes = c.in_ok-made.ensures.makes in (
      thenc_start _ _ _ _ _ _ _ _ _ _ c.in_ok-made.ensures.converts,
      makes.continued,
      makes.library,
      makes.made,
      is-equation _ _ _ c.in_ok-made.ensures.converts,
    )

pub thenc-converted-next-requires : goal.thenc-converted-next-requires
thenc-converted-next-requires g t c =
    let asked = asks-now c.right_of-right.result.now (g.met.L.Leaves.stays_ready c.args.self.now.leaves.now) c.requires.asked c.loop-other.invariant.1 c.loop-other.invariant.2 c.right_of-right.ensures.known in
    let le = size_in c.args.convs.others.now c.loop-other.other-index c.other-item.result (omega arith) c.other-item.is in
    search rules

pub thenc-right_of-right-requires : goal.thenc-right_of-right-requires
thenc-right_of-right-requires g t c = record {
  known = known-later c.args.t.now c.loop-other.invariant.1 c.requires.asked.known;
  answer = c.loop-other.invariant.3;
  equation = equation-later c.args.t.now c.loop-other.made c.loop-other.invariant.1 c.loop-other.invariant.4;
}

pub thenc-then-requires : goal.thenc-then-requires
thenc-then-requires g t c =
    let next = c.converted-next.ensures.makes in
    record {
      library = next.library;
      known = known-later c.args.t.now (continued-twice c.loop-other.invariant.1 next.continued) c.requires.asked.known;
      right = known-later c.right_of-right.result.now next.continued c.right_of-right.ensures.known;
      side = side-later c.args.t.now c.loop-other.made next.continued c.right_of-right.ensures.right;
      first = still-answers c.args.t.now c.loop-other.made next.continued c.loop-other.invariant.3;
      next = next.made;
      equation = link-equations c.converted-next.result next.continued c.converted-next.ensures.converts;
    }

pub thenc-returns-in_err-made-2-clause-converts : goal.thenc-returns-in_err-made-2-clause-converts
thenc-returns-in_err-made-2-clause-converts g t c =
    let p = err_from_is_err_and c.from_residual-in_err-made-2.result c.from_residual-in_err-made-2.ensures.1 in
    let so_far = rw (rest-drop (g.L.Leaves.means c.args.self.now.leaves.now) c.args.convs.others.now c.loop-other.other-index c.other-item.result (omega arith) c.other-item.is)
    at c.loop-other.invariant.0 in
    rw (p.1, p.2)
    (thenc-off c.loop-other.made so_far c.loop-other.invariant.1 c.right_of-right.ensures.right c.converted-next.ensures.converts c.converted-next.ensures.makes c.in_err-made-2.ensures.joins)

pub thenc-loop-other-preserved : goal.thenc-loop-other-preserved
thenc-loop-other-preserved g t c =
    let so_far = rw (rest-drop (g.L.Leaves.means c.args.self.now.leaves.now) c.args.convs.others.now c.loop-other.other-index c.other-item.result (omega arith) c.other-item.is)
    at c.loop-other.invariant.0 in
    let next = c.converted-next.ensures.makes in
    let makes = c.in_ok-made-2.ensures.makes in
    let joins = c.in_ok-made-2.ensures.joins in (
      thenc-on c.loop-other.made c.in_ok-made-2.made so_far c.loop-other.invariant.1 c.right_of-right.ensures.right c.converted-next.ensures.converts next joins,
      continued-twice c.loop-other.invariant.1 (continued-twice next.continued makes.continued),
      makes.library,
      makes.made,
      thenc-equation c.args.t.now c.loop-other.made c.in_ok-made-2.made c.loop-other.invariant.1 next joins,
    )

pub thenc-returns-clause-converts : goal.thenc-returns-clause-converts
thenc-returns-clause-converts g t c =
    let so_far = rw (drop_all c.loop-other.other-index c.args.convs.others.now (omega arith)) at c.loop-other.invariant.0 in
    thenc_end _ _ _ _ _ _ _ _ _ so_far

pub orelsec-returns-in-Ok-clause-converts : goal.orelsec-returns-in-Ok-clause-converts
orelsec-returns-in-Ok-clause-converts g t c =
    first_answers c.in-Ok.ensures.converts

pub orelsec-returns-then-not-is_caught-clause-converts : goal.orelsec-returns-then-not-is_caught-clause-converts
orelsec-returns-then-not-is_caught-clause-converts g t c =
    chooses_stop _ _ _ _ c.loop-other.invariant.0 (search rules)

pub orelsec-converted-requires-in-loop-other : goal.orelsec-converted-requires-in-loop-other
orelsec-converted-requires-in-loop-other g t c =
    let asked = asks-later (g.met.L.Leaves.stays_ready c.args.self.now.leaves.now) c.requires.asked c.loop-other.invariant.1 c.loop-other.invariant.2 in
    let le = size_in c.args.convs.others.now c.loop-other.other-index c.other-item.result (omega arith) c.other-item.is in
    search rules

pub orelsec-returns-in-Ok-converted-clause-converts : goal.orelsec-returns-in-Ok-converted-clause-converts
orelsec-returns-in-Ok-converted-clause-converts g t c =
    let so_far = rw (rest-drop (g.L.Leaves.means c.args.self.now.leaves.now) c.args.convs.others.now c.loop-other.other-index c.other-item.result (omega arith) c.other-item.is)
    at c.loop-other.invariant.0 in
    chooses_answer _ _ _ _ so_far (search rules) (carried-answer (Ok c.in-Ok-converted.made) c.loop-other.invariant.1 c.in-Ok-converted.ensures.converts)

pub orelsec-loop-other-preserved : goal.orelsec-loop-other-preserved
orelsec-loop-other-preserved g t c =
    let so_far = rw (rest-drop (g.L.Leaves.means c.args.self.now.leaves.now) c.args.convs.others.now c.loop-other.other-index c.other-item.result (omega arith) c.other-item.is)
    at c.loop-other.invariant.0 in
    let makes = c.in-Err-converted.ensures.makes in (
      chooses_next _ _ _ _ so_far (search rules) (carried c.loop-other.invariant.1 c.in-Err-converted.ensures.converts),
      continued-twice c.loop-other.invariant.1 makes.continued,
      makes.library,
    )

pub orelsec-returns-clause-converts : goal.orelsec-returns-clause-converts
orelsec-returns-clause-converts g t c =
    let so_far = rw (drop_all c.loop-other.other-index c.args.convs.others.now (omega arith)) at c.loop-other.invariant.0 in
    chooses_end _ _ _ _ so_far

pub rand_conv-of_argument-requires : goal.rand_conv-of_argument-requires
rand_conv-of_argument-requires g t c =
    let parts = c.in_ok-halves.ensures.ok in
    let makes = c.below-part.ensures.makes in
    record {
      library = makes.library;
      whole = parts.is;
      known = known-later c.args.t.now makes.continued c.requires.asked.known;
      part = makes.made;
    }

pub rand_conv-returns-clause-converts : goal.rand_conv-returns-clause-converts
rand_conv-returns-clause-converts g t c =
    argument-arm c.of_argument.result c.in_ok-halves.ensures.ok c.below-part.ensures.converts c.below-part.ensures.makes c.of_argument.ensures.joins

pub rand_conv-returns-in_err-halves-clause-converts : goal.rand_conv-returns-in_err-halves-clause-converts
rand_conv-returns-in_err-halves-clause-converts g t c =
    let p = err_from_is_err_and c.from_residual.result c.from_residual.ensures.1 in
    rw (p.1, p.2)
    (rand-refused _ _ _ c.in_err-halves.ensures.err)

pub rator_conv-of_function-requires : goal.rator_conv-of_function-requires
rator_conv-of_function-requires g t c =
    let parts = c.in_ok-halves.ensures.ok in
    let makes = c.below-part.ensures.makes in
    record {
      library = makes.library;
      whole = parts.is;
      known = known-later c.args.t.now makes.continued c.requires.asked.known;
      part = makes.made;
    }

pub rator_conv-returns-clause-converts : goal.rator_conv-returns-clause-converts
rator_conv-returns-clause-converts g t c =
    function-arm c.of_function.result c.in_ok-halves.ensures.ok c.below-part.ensures.converts c.below-part.ensures.makes c.of_function.ensures.joins

pub rator_conv-returns-in_err-halves-clause-converts : goal.rator_conv-returns-in_err-halves-clause-converts
rator_conv-returns-in_err-halves-clause-converts g t c =
    let p = err_from_is_err_and c.from_residual.result c.from_residual.ensures.1 in
    rw (p.1, p.2)
    (rator-refused _ _ _ c.in_err-halves.ensures.err)

pub abs_conv-of_body-requires : goal.abs_conv-of_body-requires
abs_conv-of_body-requires g t c =
    let makes = c.below-part.ensures.makes in
    record {
      library = makes.library;
      known = known-later c.args.t.now makes.continued c.requires.asked.known;
      part = held-answer c.below-part.new.library c.in_ok-binder.body.now c.below-part.result makes.made;
    }

pub abs_conv-returns-clause-converts : goal.abs_conv-returns-clause-converts
abs_conv-returns-clause-converts g t c =
    let parts = c.in_ok-binder.ensures.ok in
    body-arm c.of_body.result parts c.below-part.ensures.converts c.below-part.ensures.makes (c.of_body.ensures.joins parts.name parts.ty _ parts.bound parts.is)

pub abs_conv-returns-in_err-binder-clause-converts : goal.abs_conv-returns-in_err-binder-clause-converts
abs_conv-returns-in_err-binder-clause-converts g t c =
    let p = err_from_is_err_and c.from_residual.result c.from_residual.ensures.1 in
    rw (p.1, p.2)
    (abs-refused _ _ _ c.in_err-binder.ensures.err)

pub sub_conv-returns-then-self-ge-DESCENTS_LIMIT-clause-converts : goal.sub_conv-returns-then-self-ge-DESCENTS_LIMIT-clause-converts
sub_conv-returns-then-self-ge-DESCENTS_LIMIT-clause-converts g t c =
    let is : combination c.in-Combination.function.now c.in-Combination.argument.now ≡ c.args.t.now = search rules in
    parts-too-deep _ _ _ is (search rules)

pub sub_conv-below-second-requires : goal.sub_conv-below-second-requires
sub_conv-below-second-requires g t c =
    let is : combination c.in-Combination.function.now c.in-Combination.argument.now ≡ c.args.t.now = search rules in
    let asked = asks-later (g.met.L.Leaves.stays_ready c.args.self.now.leaves.now) (of-argument c.requires.asked (sym is)) c.in_ok-first-in-Combination.ensures.makes.continued c.in_ok-first-in-Combination.ensures.makes.library in
    search rules

pub sub_conv-of_parts-requires : goal.sub_conv-of_parts-requires
sub_conv-of_parts-requires g t c =
    let is : combination c.in-Combination.function.now c.in-Combination.argument.now ≡ c.args.t.now = search rules in
    let second = c.below-second.ensures.makes in
    let continued = continued-twice c.in_ok-first-in-Combination.ensures.makes.continued second.continued in
    record {
      library = second.library;
      whole = sym is;
      known = known-later c.args.t.now continued c.requires.asked.known;
      first = still-answers c.in-Combination.function.now c.in_ok-first-in-Combination.first second.continued c.in_ok-first-in-Combination.ensures.makes.made;
      second = second.made;
    }

pub sub_conv-returns-in_ok-first-in-Combination-clause-converts : goal.sub_conv-returns-in_ok-first-in-Combination-clause-converts
sub_conv-returns-in_ok-first-in-Combination-clause-converts g t c =
    let is : combination c.in-Combination.function.now c.in-Combination.argument.now ≡ c.args.t.now = search rules in
    let room : c.args.self.now.depth < DESCENTS_LIMIT = search rules in
    parts-arm c.of_parts.result is room c.in_ok-first-in-Combination.ensures.converts c.in_ok-first-in-Combination.ensures.makes c.below-second.ensures.converts c.below-second.ensures.makes c.of_parts.ensures.joins

pub sub_conv-returns-in_err-first-in-Combination-clause-converts : goal.sub_conv-returns-in_err-first-in-Combination-clause-converts
sub_conv-returns-in_err-first-in-Combination-clause-converts g t c =
    let p = err_from_is_err_and c.from_residual.result c.from_residual.ensures.1 in
    let is : combination c.in-Combination.function.now c.in-Combination.argument.now ≡ c.args.t.now = search rules in
    let room : c.args.self.now.depth < DESCENTS_LIMIT = search rules in
    rw (p.1, p.2)
    (first-part-refused _ _ _ is room c.in_err-first-in-Combination.ensures.converts)

pub sub_conv-returns-in-Abstraction-clause-converts : goal.sub_conv-returns-in-Abstraction-clause-converts
sub_conv-returns-in-Abstraction-clause-converts g t c =
    sub-as-abs c.args.t.now c.abs_conv.result (search rules) c.abs_conv.ensures.converts

pub sub_conv-returns-in-Variable-clause-converts : goal.sub_conv-returns-in-Variable-clause-converts
sub_conv-returns-in-Variable-clause-converts g t c =
    reflects-leaf _ _ _ (search rules) c.same.ensures.reflects

pub sub_conv-returns-in-Constant-clause-converts : goal.sub_conv-returns-in-Constant-clause-converts
sub_conv-returns-in-Constant-clause-converts g t c =
    reflects-leaf _ _ _ (search rules) c.same-in-Constant.ensures.reflects

pub depth_conv-right_of-right-requires : goal.depth_conv-right_of-right-requires
depth_conv-right_of-right-requires g t c =
    let below = c.in_ok-below.ensures.makes in
    record {
      known = known-later c.args.t.now below.continued c.requires.asked.known;
      answer = below.made;
      equation = equation-later c.args.t.now c.in_ok-below.below below.continued (is-equation _ _ _ c.in_ok-below.ensures.converts);
    }

pub depth_conv-repeatc-here-requires : goal.depth_conv-repeatc-here-requires
depth_conv-repeatc-here-requires g t c =
    let asked = asks-now c.right_of-right.result.now
    (g.met.L.Leaves.stays_ready c.args.self.now.leaves.now) c.requires.asked c.in_ok-below.ensures.makes.continued c.in_ok-below.ensures.makes.library
    c.right_of-right.ensures.known in
    let sized = ap size c.requires.whole in
    search rules

pub depth_conv-then-requires : goal.depth_conv-then-requires
depth_conv-then-requires g t c =
    let below = c.in_ok-below.ensures.makes in
    let here = c.repeatc-here.ensures.makes in
    record {
      library = here.library;
      known = known-later c.args.t.now (continued-twice below.continued here.continued) c.requires.asked.known;
      right = known-later c.right_of-right.result.now here.continued c.right_of-right.ensures.known;
      side = side-later c.args.t.now c.in_ok-below.below here.continued c.right_of-right.ensures.right;
      first = still-answers c.args.t.now c.in_ok-below.below here.continued below.made;
      next = here.made;
      equation = link-equations c.repeatc-here.result here.continued c.repeatc-here.ensures.converts;
    }

pub depth_conv-returns-clause-converts : goal.depth_conv-returns-clause-converts
depth_conv-returns-clause-converts g t c =
    depth-arm c.then.result (ap (with_leaves (g.L.Leaves.means c.args.self.now.leaves.now)) c.requires.whole) c.in_ok-below.ensures.converts c.in_ok-below.ensures.makes
    c.right_of-right.ensures.right c.repeatc-here.ensures.converts
    c.repeatc-here.ensures.makes c.then.ensures.joins

pub depth_conv-returns-in_err-below-clause-converts : goal.depth_conv-returns-in_err-below-clause-converts
depth_conv-returns-in_err-below-clause-converts g t c =
    let p = err_from_is_err_and c.from_residual.result c.from_residual.ensures.1 in
    rw (p.1, p.2)
    (depth-stops (ap (with_leaves (g.L.Leaves.means c.args.self.now.leaves.now)) c.requires.whole) c.in_err-below.ensures.converts)

pub once_depth_conv-returns-then-not-is_caught-clause-converts : goal.once_depth_conv-returns-then-not-is_caught-clause-converts
once_depth_conv-returns-then-not-is_caught-clause-converts g t c =
    once-stops (ap (with_leaves (g.L.Leaves.means c.args.self.now.leaves.now)) c.requires.whole) c.in-Err.ensures.converts (search rules)

pub once_depth_conv-returns-in-Ok-clause-converts : goal.once_depth_conv-returns-in-Ok-clause-converts
once_depth_conv-returns-in-Ok-clause-converts g t c =
    once-answers c.in-Ok.made (ap (with_leaves (g.L.Leaves.means c.args.self.now.leaves.now)) c.requires.whole) c.in-Ok.ensures.converts

pub once_depth_conv-returns-else-not-is_caught-clause-converts : goal.once_depth_conv-returns-else-not-is_caught-clause-converts
once_depth_conv-returns-else-not-is_caught-clause-converts g t c =
    once-arm c.or_same.result (ap (with_leaves (g.L.Leaves.means c.args.self.now.leaves.now)) c.requires.whole) c.in-Err.ensures.converts (search rules) c.in-Err.ensures.makes c.sub_conv-made.ensures.converts
    c.sub_conv-made.ensures.makes c.or_same.ensures.tries

pub repeatc-returns-in-Err-clause-converts : goal.repeatc-returns-in-Err-clause-converts
repeatc-returns-in-Err-clause-converts g t c =
    (first-off _ c.or_same.result c.requires.asked.known c.in-Err.ensures.converts c.in-Err.ensures.makes.continued c.or_same.ensures.tries).0

pub repeatc-returns-in-Err-clause-last : goal.repeatc-returns-in-Err-clause-last
repeatc-returns-in-Err-clause-last g t c =
    (first-off _ c.or_same.result c.requires.asked.known c.in-Err.ensures.converts c.in-Err.ensures.makes.continued c.or_same.ensures.tries).1

pub repeatc-returns-in_err-chain-clause-converts : goal.repeatc-returns-in_err-chain-clause-converts
repeatc-returns-in_err-chain-clause-converts g t c =
    let p = err_from_is_err_and c.from_residual.result c.from_residual.ensures.1 in
    rw (p.1, p.2)
    (starved-behind c.args.library.now (Ok c.in-Ok.made) c.in-Ok.ensures.converts c.in_err-chain.ensures.err)

pub repeatc-begin_by-requires-clause-equation : goal.repeatc-begin_by-requires-clause-equation
repeatc-begin_by-requires-clause-equation g t c =
    link-equations (Ok c.in-Ok.made) c.in-Ok.ensures.makes.continued c.in-Ok.ensures.converts

pub repeatc-repeat_on-requires : goal.repeatc-repeat_on-requires
repeatc-repeat_on-requires g t c =
    let begun = c.in_ok-chain.ensures in
    let asked = asks-later (g.met.L.Leaves.stays_ready c.args.self.now.leaves.now) c.requires.asked (continued-twice c.in-Ok.ensures.makes.continued begun.continued) begun.library in
    let chain = begun.chain in
    search rules

pub repeatc-returns-clause-converts : goal.repeatc-returns-clause-converts
repeatc-returns-clause-converts g t c =
    let makes = c.in-Ok.ensures.makes in
    let begun = c.in_ok-chain.ensures in
    (carried-behind c.in_ok-chain.chain c.repeat_on.result (continued-twice makes.continued begun.continued)
    (first-on c.in-Ok.made c.in_ok-chain.chain c.in-Ok.ensures.converts makes.continued begun.extends) c.repeat_on.ensures.converts).0

pub repeatc-returns-clause-last : goal.repeatc-returns-clause-last
repeatc-returns-clause-last g t c =
    let makes = c.in-Ok.ensures.makes in
    let begun = c.in_ok-chain.ensures in
    (carried-behind c.in_ok-chain.chain c.repeat_on.result (continued-twice makes.continued begun.continued)
    (first-on c.in-Ok.made c.in_ok-chain.chain c.in-Ok.ensures.converts makes.continued begun.extends) c.repeat_on.ensures.converts).1

pub repeatc-returns-clause-makes : goal.repeatc-returns-clause-makes
repeatc-returns-clause-makes g t c =
    answers-after (continued-twice c.in-Ok.ensures.makes.continued c.in_ok-chain.ensures.continued) c.repeat_on.ensures.makes

pub repeat_on-loop-chain-init : goal.repeat_on-loop-chain-init
repeat_on-loop-chain-init g t c =
    ((λ first so_far. so_far), (makes_nothing c.args.library.now Memory c.requires.asked.is_library).continued, c.requires.asked.is_library, c.requires.chain)

pub repeat_on-converted-next-requires : goal.repeat_on-converted-next-requires
repeat_on-converted-next-requires g t c =
    let asked = asks-now c.loop-chain.chain.current
    (g.met.L.Leaves.stays_ready c.args.self.now.leaves.now) c.requires.asked c.loop-chain.invariant.1 c.loop-chain.invariant.2
    c.loop-chain.invariant.3.held.known in
    search rules

pub repeat_on-link-requires-clause-chain : goal.repeat_on-link-requires-clause-chain
repeat_on-link-requires-clause-chain g t c =
    chain-later c.converted-next.ensures.makes.continued c.loop-chain.invariant.3

pub repeat_on-link-requires-clause-equation : goal.repeat_on-link-requires-clause-equation
repeat_on-link-requires-clause-equation g t c =
    link-equations c.converted-next.result c.converted-next.ensures.makes.continued c.converted-next.ensures.converts

pub repeat_on-returns-in-Ends-clause-converts : goal.repeat_on-returns-in-Ends-clause-converts
repeat_on-returns-in-Ends-clause-converts g t c first begun =
    let so_far = joined_defined _ _ _ _ refl (c.loop-chain.invariant.0 first begun) in
    link-off c.loop-chain.chain _ c.in-Ends.result so_far c.loop-chain.invariant.1 c.loop-chain.invariant.3.held.known
    c.converted-next.ensures.converts c.converted-next.ensures.makes c.in-Ends.ensures.links

pub repeat_on-loop-chain-smaller : goal.repeat_on-loop-chain-smaller
repeat_on-loop-chain-smaller g t c =
    link-costs c.converted-next.new.library.recorder.theory
    (proved_by c.converted-next.new.library.recorder.theory c.loop-chain.chain) c.args.t.now _ c.converted-next.result c.in-GoesOn.chain
    c.converted-next.ensures.converts c.in-GoesOn.ensures.links

pub repeat_on-loop-chain-preserved : goal.repeat_on-loop-chain-preserved
repeat_on-loop-chain-preserved g t c =
    let makes = c.converted-next.ensures.makes in
    let goes = c.in-GoesOn.ensures in (
      (λ first begun.
          let so_far = joined_tried _ _ _ _ (joined_defined _ _ _ _ refl (c.loop-chain.invariant.0 first begun)) in
          link-on c.loop-chain.chain _ c.in-GoesOn.chain so_far c.loop-chain.invariant.1 c.converted-next.ensures.converts makes goes.links),
      continued-twice c.loop-chain.invariant.1 (continued-twice makes.continued goes.continued),
      goes.library,
      goes.made,
    )

pub top_depth_conv-repeatc-requires : goal.top_depth_conv-repeatc-requires
top_depth_conv-repeatc-requires g t c =
    let sized = ap size c.requires.whole in
    search rules

pub top_depth_conv-returns-in_err-begun-clause-converts : goal.top_depth_conv-returns-in_err-begun-clause-converts
top_depth_conv-returns-in_err-begun-clause-converts g t c =
    let p = err_from_is_err_and c.from_residual.result c.from_residual.ensures.1 in
    rw (p.1, p.2)
    (top-refused (ap (with_leaves (g.L.Leaves.means c.args.self.now.leaves.now)) c.requires.whole) c.in_err-begun.ensures.converts)

pub top_depth_conv-right_of-right-requires : goal.top_depth_conv-right_of-right-requires
top_depth_conv-right_of-right-requires g t c =
    let begun = c.in_ok-begun.ensures.makes in
    record {
      known = known-later c.args.t.now begun.continued c.requires.asked.known;
      answer = begun.made;
      equation = equation-later c.args.t.now c.in_ok-begun.begun begun.continued (is-equation _ _ _ c.in_ok-begun.ensures.converts);
    }

pub top_depth_conv-top_depth_rest-rest-requires : goal.top_depth_conv-top_depth_rest-rest-requires
top_depth_conv-top_depth_rest-rest-requires g t c =
    let begun = c.in_ok-begun.ensures.makes in
    let asked = asks-now c.right_of-right.result.now (g.met.L.Leaves.stays_ready c.args.self.now.leaves.now) c.requires.asked begun.continued begun.library c.right_of-right.ensures.known in
    search rules

pub top_depth_conv-then-requires : goal.top_depth_conv-then-requires
top_depth_conv-then-requires g t c =
    let begun = c.in_ok-begun.ensures.makes in
    let rest = c.top_depth_rest-rest.ensures.makes in
    record {
      library = rest.library;
      known = known-later c.args.t.now (continued-twice begun.continued rest.continued) c.requires.asked.known;
      right = known-later c.right_of-right.result.now rest.continued c.right_of-right.ensures.known;
      side = side-later c.args.t.now c.in_ok-begun.begun rest.continued c.right_of-right.ensures.right;
      first = still-answers c.args.t.now c.in_ok-begun.begun rest.continued begun.made;
      next = rest.made;
      equation = link-equations c.top_depth_rest-rest.result rest.continued c.top_depth_rest-rest.ensures.converts;
    }

pub top_depth_conv-returns-clause-converts : goal.top_depth_conv-returns-clause-converts
top_depth_conv-returns-clause-converts g t c =
    top-ends c.top_depth_rest-rest.result c.then.result (ap (with_leaves (g.L.Leaves.means c.args.self.now.leaves.now)) c.requires.whole) c.in_ok-begun.ensures.converts c.in_ok-begun.ensures.makes
    c.right_of-right.ensures.right c.top_depth_rest-rest.ensures.converts c.top_depth_rest-rest.ensures.makes.continued c.then.ensures.joins

pub top_depth_rest-returns-in-Err-clause-converts : goal.top_depth_rest-returns-in-Err-clause-converts
top_depth_rest-returns-in-Err-clause-converts g t c =
    top-tried c.or_same.result (ap (with_leaves (g.L.Leaves.means c.args.self.now.leaves.now)) c.requires.whole) c.sub_conv-under.ensures.converts
    c.sub_conv-under.ensures.makes (c.in-Err.ensures.changed _) c.or_same.ensures.tries

pub top_depth_rest-begin_by-requires-clause-answer : goal.top_depth_rest-begin_by-requires-clause-answer
top_depth_rest-begin_by-requires-clause-answer g t c =
    (changed-makes c.sub_conv-under.result (Ok c.in-Ok.found) c.sub_conv-under.ensures.makes c.in-Ok.ensures.same).made

pub top_depth_rest-begin_by-requires-clause-equation : goal.top_depth_rest-begin_by-requires-clause-equation
top_depth_rest-begin_by-requires-clause-equation g t c =
    let below = changed-arm c.sub_conv-under.result (Ok c.in-Ok.found) c.sub_conv-under.ensures.converts (c.in-Ok.ensures.changed _) in
    link-equations (Ok c.in-Ok.found) c.sub_conv-under.ensures.makes.continued below

pub top_depth_rest-returns-in_err-chain-clause-converts : goal.top_depth_rest-returns-in_err-chain-clause-converts
top_depth_rest-returns-in_err-chain-clause-converts g t c =
    let p = err_from_is_err_and c.from_residual.result c.from_residual.ensures.1 in
    rw (p.1, p.2)
    (starved-behind c.args.library.now c.sub_conv-under.result c.sub_conv-under.ensures.converts c.in_err-chain.ensures.err)

pub top_depth_rest-top_depth_on-requires : goal.top_depth_rest-top_depth_on-requires
top_depth_rest-top_depth_on-requires g t c =
    let begun = c.in_ok-chain.ensures in
    let asked = asks-later (g.met.L.Leaves.stays_ready c.args.self.now.leaves.now) c.requires.asked (continued-twice c.sub_conv-under.ensures.makes.continued begun.continued) begun.library in
    let chain = begun.chain in
    search rules

pub top_depth_rest-returns-clause-converts : goal.top_depth_rest-returns-clause-converts
top_depth_rest-returns-clause-converts g t c =
    let under = c.sub_conv-under.ensures.makes in
    let begun = c.in_ok-chain.ensures in
    let so_far = top-on c.sub_conv-under.result c.in-Ok.found c.in_ok-chain.chain (ap (with_leaves (g.L.Leaves.means c.args.self.now.leaves.now)) c.requires.whole)
    c.sub_conv-under.ensures.converts (c.in-Ok.ensures.changed _) under.continued begun.extends in
    (carried-behind c.in_ok-chain.chain c.top_depth_on.result (continued-twice under.continued begun.continued) so_far c.top_depth_on.ensures.converts).0

pub top_depth_rest-returns-clause-makes : goal.top_depth_rest-returns-clause-makes
top_depth_rest-returns-clause-makes g t c =
    answers-after (continued-twice c.sub_conv-under.ensures.makes.continued c.in_ok-chain.ensures.continued) c.top_depth_on.ensures.makes

pub top_depth_on-loop-chain-init : goal.top_depth_on-loop-chain-init
top_depth_on-loop-chain-init g t c =
    ((λ first so_far. so_far), (makes_nothing c.args.library.now Memory c.requires.asked.is_library).continued, c.requires.asked.is_library, c.requires.chain)

pub top_depth_on-converted-again-requires : goal.top_depth_on-converted-again-requires
top_depth_on-converted-again-requires g t c =
    let asked = asks-now c.loop-chain.chain.current
    (g.met.L.Leaves.stays_ready c.args.self.now.leaves.now) c.requires.asked c.loop-chain.invariant.1 c.loop-chain.invariant.2
    c.loop-chain.invariant.3.held.known in
    let sized = ap size c.requires.whole in
    search rules

pub top_depth_on-link-requires-clause-chain : goal.top_depth_on-link-requires-clause-chain
top_depth_on-link-requires-clause-chain g t c =
    chain-later c.converted-again.ensures.makes.continued c.loop-chain.invariant.3

pub top_depth_on-link-requires-clause-equation : goal.top_depth_on-link-requires-clause-equation
top_depth_on-link-requires-clause-equation g t c =
    link-equations c.converted-again.result c.converted-again.ensures.makes.continued c.converted-again.ensures.converts

pub top_depth_on-returns-in-Ends-clause-converts : goal.top_depth_on-returns-in-Ends-clause-converts
top_depth_on-returns-in-Ends-clause-converts g t c first begun =
    let so_far = joined_defined _ _ _ _ refl (c.loop-chain.invariant.0 first begun) in
    link-off c.loop-chain.chain _ c.in-Ends.result so_far c.loop-chain.invariant.1 c.loop-chain.invariant.3.held.known
    c.converted-again.ensures.converts c.converted-again.ensures.makes c.in-Ends.ensures.links

pub top_depth_on-repeatc-here-requires : goal.top_depth_on-repeatc-here-requires
top_depth_on-repeatc-here-requires g t c =
    let before = continued-twice c.loop-chain.invariant.1 (continued-twice c.converted-again.ensures.makes.continued c.in-GoesOn.ensures.continued) in
    let asked = asks-now c.in-GoesOn.chain.current (g.met.L.Leaves.stays_ready c.args.self.now.leaves.now) c.requires.asked before c.in-GoesOn.ensures.library c.in-GoesOn.ensures.made.held.known in
    let sized = ap size c.requires.whole in
    search rules

pub top_depth_on-link-requires-in-loop-chain-clause-chain : goal.top_depth_on-link-requires-in-loop-chain-clause-chain
top_depth_on-link-requires-in-loop-chain-clause-chain g t c =
    chain-later c.repeatc-here.ensures.makes.continued c.in-GoesOn.ensures.made

pub top_depth_on-link-requires-in-loop-chain-clause-equation : goal.top_depth_on-link-requires-in-loop-chain-clause-equation
top_depth_on-link-requires-in-loop-chain-clause-equation g t c =
    link-equations c.repeatc-here.result c.repeatc-here.ensures.makes.continued c.repeatc-here.ensures.converts

pub top_depth_on-returns-in-Ends-link-clause-converts : goal.top_depth_on-returns-in-Ends-link-clause-converts
top_depth_on-returns-in-Ends-link-clause-converts g t c first begun =
    let so_far = joined_defined _ _ _ _ refl (c.loop-chain.invariant.0 first begun) in
    let before = continued-twice c.loop-chain.invariant.1 (continued-twice c.converted-again.ensures.makes.continued c.in-GoesOn.ensures.continued) in
    let so_far = joined_defined _ _ _ _ refl
    (link-on c.loop-chain.chain _ c.in-GoesOn.chain (joined_tried _ _ _ _ so_far) c.loop-chain.invariant.1 c.converted-again.ensures.converts
    c.converted-again.ensures.makes c.in-GoesOn.ensures.links) in
    link-stop c.in-GoesOn.chain _ c.in-Ends-link.result so_far before c.repeatc-here.ensures.converts c.repeatc-here.ensures.makes c.repeatc-here.ensures.last
    c.in-Ends-link.ensures.links

pub top_depth_on-sub_conv-below-requires : goal.top_depth_on-sub_conv-below-requires
top_depth_on-sub_conv-below-requires g t c =
    let before = continued-twice c.loop-chain.invariant.1 (continued-twice c.converted-again.ensures.makes.continued c.in-GoesOn.ensures.continued) in
    let before = continued-twice before (continued-twice c.repeatc-here.ensures.makes.continued c.in-GoesOn-link.ensures.continued) in
    let asked = asks-now c.in-GoesOn-link.chain.current
    (g.met.L.Leaves.stays_ready c.args.self.now.leaves.now) c.requires.asked before c.in-GoesOn-link.ensures.library
    c.in-GoesOn-link.ensures.made.held.known in
    search rules

pub top_depth_on-link-requires-in-loop-chain-2-clause-chain : goal.top_depth_on-link-requires-in-loop-chain-2-clause-chain
top_depth_on-link-requires-in-loop-chain-2-clause-chain g t c =
    chain-later c.sub_conv-below.ensures.makes.continued c.in-GoesOn-link.ensures.made

pub top_depth_on-link-requires-in-loop-chain-2-clause-equation : goal.top_depth_on-link-requires-in-loop-chain-2-clause-equation
top_depth_on-link-requires-in-loop-chain-2-clause-equation g t c =
    let below = changed-arm c.sub_conv-below.result c.changed-below.result c.sub_conv-below.ensures.converts (c.changed-below.ensures.changed _) in
    link-equations c.changed-below.result c.sub_conv-below.ensures.makes.continued below

pub top_depth_on-returns-in-Ends-link-2-clause-converts : goal.top_depth_on-returns-in-Ends-link-2-clause-converts
top_depth_on-returns-in-Ends-link-2-clause-converts g t c first begun =
    let so_far = joined_defined _ _ _ _ refl (c.loop-chain.invariant.0 first begun) in
    let before = continued-twice c.loop-chain.invariant.1 (continued-twice c.converted-again.ensures.makes.continued c.in-GoesOn.ensures.continued) in
    let so_far = joined_defined _ _ _ _ refl
    (link-on c.loop-chain.chain _ c.in-GoesOn.chain (joined_tried _ _ _ _ so_far) c.loop-chain.invariant.1 c.converted-again.ensures.converts
    c.converted-again.ensures.makes c.in-GoesOn.ensures.links) in
    let so_far = joined_defined _ _ _ _ refl
    (link-on c.in-GoesOn.chain _ c.in-GoesOn-link.chain so_far before c.repeatc-here.ensures.converts
    c.repeatc-here.ensures.makes c.in-GoesOn-link.ensures.links) in
    let before = continued-twice before (continued-twice c.repeatc-here.ensures.makes.continued c.in-GoesOn-link.ensures.continued) in
    let below = changed-arm c.sub_conv-below.result c.changed-below.result
    (top-below c.sub_conv-below.result (ap (with_leaves (g.L.Leaves.means c.args.self.now.leaves.now)) c.requires.whole) c.sub_conv-below.ensures.converts)
    (c.changed-below.ensures.changed _) in
    let makes = changed-makes c.sub_conv-below.result c.changed-below.result c.sub_conv-below.ensures.makes c.changed-below.ensures.same in
    link-off c.in-GoesOn-link.chain _ c.in-Ends-link-2.result so_far before c.in-GoesOn-link.ensures.made.held.known
    below makes c.in-Ends-link-2.ensures.links

pub top_depth_on-returns-in-Ends-link-2-clause-makes : goal.top_depth_on-returns-in-Ends-link-2-clause-makes
top_depth_on-returns-in-Ends-link-2-clause-makes g t c =
    let before = continued-twice c.loop-chain.invariant.1 (continued-twice c.converted-again.ensures.makes.continued c.in-GoesOn.ensures.continued) in
    let before = continued-twice before (continued-twice c.repeatc-here.ensures.makes.continued c.in-GoesOn-link.ensures.continued) in
    let ends = c.in-Ends-link-2.ensures in
    record { library = ends.library; continued = continued-twice before (continued-twice c.sub_conv-below.ensures.makes.continued ends.continued); made = ends.made }

pub top_depth_on-loop-chain-smaller : goal.top_depth_on-loop-chain-smaller
top_depth_on-loop-chain-smaller g t c =
    let first = link-costs c.converted-again.new.library.recorder.theory
    (proved_by c.converted-again.new.library.recorder.theory c.loop-chain.chain) c.args.t.now _ c.converted-again.result
    c.in-GoesOn.chain c.converted-again.ensures.converts c.in-GoesOn.ensures.links in
    let second = link-costs c.repeatc-here.new.library.recorder.theory
    (proved_by c.repeatc-here.new.library.recorder.theory c.in-GoesOn.chain) c.args.t.now _ c.repeatc-here.result c.in-GoesOn-link.chain
    c.repeatc-here.ensures.converts c.in-GoesOn-link.ensures.links in
    let below = changed-arm c.sub_conv-below.result c.changed-below.result c.sub_conv-below.ensures.converts (c.changed-below.ensures.changed _) in
    let third = link-costs c.sub_conv-below.new.library.recorder.theory
    (proved_by c.sub_conv-below.new.library.recorder.theory c.in-GoesOn-link.chain) c.args.t.now _ c.changed-below.result c.in-GoesOn-link-2.chain below
    c.in-GoesOn-link-2.ensures.links in
    omega (arith, first, second, third)

pub top_depth_on-loop-chain-preserved : goal.top_depth_on-loop-chain-preserved
top_depth_on-loop-chain-preserved g t c =
    let once = continued-twice c.loop-chain.invariant.1 (continued-twice c.converted-again.ensures.makes.continued c.in-GoesOn.ensures.continued) in
    let before = continued-twice once (continued-twice c.repeatc-here.ensures.makes.continued c.in-GoesOn-link.ensures.continued) in
    let goes = c.in-GoesOn-link-2.ensures in (
      (λ first begun.
          let so_far = joined_defined _ _ _ _ refl (c.loop-chain.invariant.0 first begun) in
          let so_far = joined_defined _ _ _ _ refl
          (link-on c.loop-chain.chain _ c.in-GoesOn.chain (joined_tried _ _ _ _ so_far) c.loop-chain.invariant.1 c.converted-again.ensures.converts
          c.converted-again.ensures.makes c.in-GoesOn.ensures.links) in
          let so_far = joined_defined _ _ _ _ refl
          (link-on c.in-GoesOn.chain _ c.in-GoesOn-link.chain so_far once c.repeatc-here.ensures.converts
          c.repeatc-here.ensures.makes c.in-GoesOn-link.ensures.links) in
          let below = changed-arm c.sub_conv-below.result c.changed-below.result
          (top-below c.sub_conv-below.result (ap (with_leaves (g.L.Leaves.means c.args.self.now.leaves.now)) c.requires.whole) c.sub_conv-below.ensures.converts)
          (c.changed-below.ensures.changed _) in
          let makes = changed-makes c.sub_conv-below.result c.changed-below.result c.sub_conv-below.ensures.makes c.changed-below.ensures.same in
          link-on c.in-GoesOn-link.chain _ c.in-GoesOn-link-2.chain (joined_tried _ _ _ _ so_far) before below makes goes.links),
      continued-twice before (continued-twice c.sub_conv-below.ensures.makes.continued goes.continued),
      goes.library,
      goes.made,
    )
