use Rattle.std.proofs.Common.{true, false}
use Rattle.hol_model.specs.Terms.Nameless.{image}
use Rattle.hol_model.specs.Derived.DerivedRules.{images}
use Rattle.hol_equal.proofs.CutLemmas.{among-is, shows-itself, prove_hyp-taken, prove_hyp-kept}
use Rattle.hol_equal.proofs.equality.prove_hyp.Goals as goal
use Rattle.hol_equal.proofs.InferredEquality.{infers_prove_hyp}

pub returns-then-is_alpha_among-clause-outcome : goal.returns-then-is_alpha_among-clause-outcome
returns-then-is_alpha_among-clause-outcome c =
    let first = c.args.first.now.theorem in
    let second = c.args.second.now.theorem in
    prove_hyp-taken c.cut.result first second
    (among-is c.is_alpha_among.result true c.concl-p.result.now c.hyps.result.now first second c.thm.result.now c.thm-theorem.result.now
    c.thm.ensures c.concl-p.ensures.value c.thm-theorem.ensures c.hyps.ensures.value c.is_alpha_among.ensures c.if-is_alpha_among.true)
    (c.cut.ensures.derives (images first) (images second) (image first.conclusion) (image second.conclusion) (shows-itself first) (shows-itself second)) c.cut.ensures.names

pub returns-then-is_alpha_among-clause-inferred : goal.returns-then-is_alpha_among-clause-inferred
returns-then-is_alpha_among-clause-inferred c = infers_prove_hyp (returns-then-is_alpha_among-clause-outcome c)

pub returns-clause-outcome : goal.returns-clause-outcome
returns-clause-outcome c =
    let first = c.args.first.now.theorem in
    let second = c.args.second.now.theorem in
    prove_hyp-kept c.cut-2.result first second
    (among-is c.is_alpha_among.result false c.concl-p.result.now c.hyps.result.now first second c.thm.result.now c.thm-theorem.result.now
    c.thm.ensures c.concl-p.ensures.value c.thm-theorem.ensures c.hyps.ensures.value c.is_alpha_among.ensures c.if-is_alpha_among.false)
    (c.cut-2.ensures.derives (images second) (images second) (image second.conclusion) (image second.conclusion) (shows-itself second) (shows-itself second)) c.cut-2.ensures.names

pub returns-clause-inferred : goal.returns-clause-inferred
returns-clause-inferred c = infers_prove_hyp (returns-clause-outcome c)
