use Rattle.std.proofs.Common.{◌≡◌, ◌<◌, length, true, false, arith}
use Rattle.hol_model.specs.Kernel.Theorem.{are_alpha_equivalent}
use Rattle.hol_kernel.proofs.HypothesesLemmas.{kept-taken, left_out-taken}
use Rattle.hol_refine.proofs.implications.without.Goals as goal
use Rattle.hol_refine.proofs.implications.without.Goals.{then-not-aconv+in_ok-copy+in_ok-push, else-not-aconv}

pub loop-hypothesis-preserved : goal.loop-hypothesis-preserved
loop-hypothesis-preserved c =
    let within : c.loop-hypothesis.hypothesis-index < length c.args.terms.now = omega arith in
    elim c.if-not-aconv.branch [
      | then-not-aconv+in_ok-copy+in_ok-push w ↦
          (let differ : are_alpha_equivalent c.hypothesis-item.result c.args.p.now ≡ false = cc (w.if-not-aconv.true, c.aconv.ensures.value) in
          cc (
            kept-taken c.args.p.now c.args.terms.now c.loop-hypothesis.hypothesis-index c.hypothesis-item.result within c.hypothesis-item.is differ,
            w.others-is,
            w.in_ok-push.ensures.items,
            w.in_ok-copy.ensures.ok,
            c.loop-hypothesis.invariant,
          ))
      | else-not-aconv w ↦
          (let same : are_alpha_equivalent c.hypothesis-item.result c.args.p.now ≡ true = cc (w.if-not-aconv.false, c.aconv.ensures.value) in
          cc (
            left_out-taken c.args.p.now c.args.terms.now c.loop-hypothesis.hypothesis-index c.hypothesis-item.result within c.hypothesis-item.is same,
            w.others-is,
            c.loop-hypothesis.invariant,
          ))
    ]
