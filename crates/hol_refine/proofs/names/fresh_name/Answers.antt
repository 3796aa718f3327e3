use Rattle.std.proofs.Common.{◌≡◌, ◌∙◌, ap, sym, true}
use Rattle.std.specs.String.{string_bytes}
use Rattle.hol_model.specs.Refining.Refiners.{is_taken}
use Rattle.hol_refine.proofs.Primes.{one_more_prime, primes_left-prime}
use Rattle.hol_refine.proofs.NameSums.{primed_name_sum}
use Rattle.hol_just.specs.Steps.{goal_of}
use Rattle.hol_refine.specs.Sums.{primed_sum}
use Rattle.hol_refine.proofs.TakenNames.{taken_is_bounded, longest_taken}
use Rattle.hol_refine.proofs.names.fresh_name.Goals as goal

pub loop-trying-smaller : goal.loop-trying-smaller
loop-trying-smaller c =
    let name = string_bytes c.loop-trying.fresh in
    let taken : is_taken c.args.theory.now (goal_of c.args.goal.now) (string_bytes c.loop-trying.fresh) ≡ true =
    ap (is_taken c.args.theory.now (goal_of c.args.goal.now)) (sym c.as_str.ensures.value) ∙ sym c.is_taken.ensures.taken ∙ c.loop-trying-test.true in
    primes_left-prime (longest_taken c.args.theory.now (goal_of c.args.goal.now)) name (string_bytes c.push_str.new.self)
    (taken_is_bounded c.args.theory.now (goal_of c.args.goal.now) name taken) c.in_ok-push_str.ensures.bytes

pub loop-trying-preserved : goal.loop-trying-preserved
loop-trying-preserved c =
    let name = string_bytes c.loop-trying.fresh in
    let next = string_bytes c.push_str.new.self in
    let taken : is_taken c.args.theory.now (goal_of c.args.goal.now) name ≡ true =
    ap (is_taken c.args.theory.now (goal_of c.args.goal.now)) (sym c.as_str.ensures.value) ∙ sym c.is_taken.ensures.taken ∙ c.loop-trying-test.true in (
      one_more_prime (is_taken c.args.theory.now (goal_of c.args.goal.now)) c.args.name.now name next c.loop-trying.invariant.0 taken c.in_ok-push_str.ensures.bytes,
      primed_name_sum name next c.loop-trying.trying.sum c.with_prime-trying.result.sum c.in_ok-push_str.ensures.bytes c.loop-trying.invariant.1
          (c.with_prime-trying.ensures ∙ ap primed_sum c.is_taken.ensures.sum),
    )
