use Rattle.std.proofs.Common.{inl, inr}
use Rattle.std.proofs.lemmas.Result.{err_from_is_err_and}
use Rattle.hol_check_changes.specs.Change.{changed}
use Rattle.hol_check_changes.proofs.ChangeLemmas.{meant-grown}
use Rattle.hol_check_rules.proofs.StepLemmas.{changed-more, changed-refused}
use Rattle.hol_check_rules.proofs.steps.instances.change_each.Goals as goal
use Rattle.hol_check_terms.proofs.GrowthLemmas.{IsGrown-trans}

pub change_within-requires-clause-meaning : goal.change_within-requires-clause-meaning
change_within-requires-clause-meaning c =
    let m = c.requires.meaning in
    record { meaning = m.meaning; meant = meant-grown c.args.terms.now c.loop-number.terms c.loop-number.invariant.grows c.args.change.now m.meaning m.meant }

pub returns-in_err-new-clause-changed : goal.returns-in_err-new-clause-changed
returns-in_err-new-clause-changed c = λ meaning meant.
    let p = err_from_is_err_and c.from_residual.result c.from_residual.ensures.1 in
    let t0 = c.args.terms.now in
    let t1 = c.loop-number.terms in
    let grows = c.loop-number.invariant.grows in
    let refused = (c.in_err-new.ensures.changed meaning (meant-grown t0 t1 grows c.args.change.now meaning meant)).refused in
    rw (p.1, p.2)
    (record {
      named = tt;
      fitting = tt;
      refused = elim refused [
        | inl memory ↦ inl memory
        | inr large ↦ inr (large.0, changed-refused (changed meaning 0) t0 t1 c.args.list.now c.loop-number.number-index grows c.requires.list c.loop-number-test.true large.1)
      ];
    })

pub loop-number-preserved : goal.loop-number-preserved
loop-number-preserved c =
    let t0 = c.args.terms.now in
    let t1 = c.loop-number.terms in
    let t2 = c.change_within.new.terms in
    let grows = c.loop-number.invariant.grows in
    record {
      grows = IsGrown-trans t0 t1 t2 grows c.in_ok-new.ensures.grows;
      changed = λ meaning meant.
          rw c.in_ok-push.ensures.items
          (changed-more (changed meaning 0) t0 t1 t2 c.args.list.now c.loop-number.news.items c.loop-number.number-index c.in_ok-new.new grows c.in_ok-new.ensures.grows c.requires.list c.loop-number-test.true
          (c.loop-number.invariant.changed meaning meant) (c.in_ok-new.ensures.changed meaning (meant-grown t0 t1 grows c.args.change.now meaning meant)));
    }
