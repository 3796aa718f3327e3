use Rattle.std.proofs.Common.{arith, inr, ◌<◌, ◌≤◌, length}
use Rattle.hol_just_replay.proofs.Growing.{made-stay}
use Rattle.hol_rewrite.proofs.Reducing.{both_made}
use Rattle.hol_refine.proofs.Extending.{continued-same, continued-twice}
use Rattle.hol_refine.proofs.Gathering.{rules-begin, next-rules, stop-rules, end-rules, none-made, made-at}
use Rattle.hol_equal.proofs.StepLemmas.{passed_on}
use Rattle.hol_refine.proofs.rules.rules_of_all.Goals as goal

pub loop-theorem-init : goal.loop-theorem-init
loop-theorem-init c = rw c.new-rules.ensures.items (rules-begin _, none-made _, c.requires.library, continued-same _, c.requires.made)

pub rules_of_one-requires-clause-made : goal.rules_of_one-requires-clause-made
rules_of_one-requires-clause-made c =
    let within : c.loop-theorem.theorem-index < length c.args.all.now = omega arith in
    made-at c.loop-theorem.library.recorder c.args.all.now c.loop-theorem.theorem-index c.theorem-item.result within c.theorem-item.is c.loop-theorem.invariant.4

pub loop-theorem-preserved : goal.loop-theorem-preserved
loop-theorem-preserved c =
    let within : c.loop-theorem.theorem-index < length c.args.all.now = omega arith in
    let grown = c.in_ok-more.ensures.continued.grown in
    rw c.in_ok-add_rules.ensures.ok (
      next-rules c.args.all.now c.loop-theorem.rules.items c.in_ok-more.more.items c.loop-theorem.theorem-index c.theorem-item.result within c.theorem-item.is
          c.loop-theorem.invariant.0 c.in_ok-more.ensures.ok,
      both_made (made-stay _ _ _ grown c.loop-theorem.invariant.1) c.in_ok-more.ensures.made,
      c.in_ok-more.ensures.library,
      continued-twice _ _ _ c.loop-theorem.invariant.3 c.in_ok-more.ensures.continued,
      made-stay _ _ _ grown c.loop-theorem.invariant.4,
    )

pub returns-in_err-more-clause-continued : goal.returns-in_err-more-clause-continued
returns-in_err-more-clause-continued c =
    continued-twice _ _ _ c.loop-theorem.invariant.3 c.in_err-more.ensures.continued

pub returns-in_err-more-clause-err : goal.returns-in_err-more-clause-err
returns-in_err-more-clause-err c =
    let within : c.loop-theorem.theorem-index < length c.args.all.now = omega arith in
    rw (passed_on c.from_residual.result c.in_err-more.field-0.0 c.from_residual.ensures.1)
    (inr (stop-rules c.args.all.now c.loop-theorem.rules.items c.loop-theorem.theorem-index c.theorem-item.result c.in_err-more.field-0.0 within c.theorem-item.is
    c.loop-theorem.invariant.0 c.in_err-more.ensures.err))

pub returns-in_err-add_rules-clause-continued : goal.returns-in_err-add_rules-clause-continued
returns-in_err-add_rules-clause-continued c =
    continued-twice _ _ _ c.loop-theorem.invariant.3 c.in_ok-more.ensures.continued

pub returns-clause-ok : goal.returns-clause-ok
returns-clause-ok c =
    let past : length c.args.all.now ≤ c.loop-theorem.theorem-index = omega arith in
    end-rules c.args.all.now c.loop-theorem.rules.items c.loop-theorem.theorem-index past c.loop-theorem.invariant.0
